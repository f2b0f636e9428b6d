use Rattle.jwalk_job.specs.Text.{text}
use Rattle.jwalk_job.proofs.PathListFacts.{same_texts}
use Rattle.jwalk_job.proofs.ancestors.Ancestors.is_same.Goals as goal

pub returns : goal.returns
returns g c = same_texts text _ _ _ _ _ c.eq.ensures c.paths.ensures c.paths-2.ensures
