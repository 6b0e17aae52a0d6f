use Rattle.ing_service.proofs.LedgerLaws.{adds_up}
use Rattle.ing_service.proofs.laws.the_report_adds_up.Goals as goal

pub returns : goal.returns
returns g c = adds_up g.S.StoreEnd.is_honest
