use Rattle.ing_service.proofs.EndsLaws.{counted_risen, upload_cause}
use Rattle.ing_service.proofs.uploads.upload_at.Goals as goal

pub returns-clause-cause : goal.returns-clause-cause
returns-clause-cause g c = upload_cause _ _ c.upload-outcome.result c.upload-outcome.ensures.count

pub returns-clause-end : goal.returns-clause-end
returns-clause-end g c = (counted_risen _ _ c.upload-outcome.result c.upload-outcome.ensures.count, c.upload-outcome.ensures.sure)
