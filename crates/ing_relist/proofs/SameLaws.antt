-- An entry that was read is one in memory exactly where they are equal.
use Rattle.std.proofs.Common.{◌≡◌, nat_eq, true}
use Rattle.std.proofs.lemmas.Bool.{eqb-true}
use Rattle.ing_rows.specs.Verdicts.{is_same}
use Rattle.ing_chunk.specs.declared.numbered.Numbered.{Numbered}
use Rattle.ing_relist.specs.Same.{is_entry}
use Rattle.ing_relist.proofs.EndLaws.{both, same_entry}

pub same_numbered : (e n : Numbered) → is_entry e n ≡ true → n ≡ e
same_numbered e n h =
    let p = both (nat_eq n.number e.number) (is_same n.entry e.entry) h in
    λ i. record { number = eqb-true n.number e.number p.0 i; entry = same_entry n.entry e.entry p.1 i }
