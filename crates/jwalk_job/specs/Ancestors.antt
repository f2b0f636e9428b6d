-- The directories above an entry, as their paths.
use Rattle.std.specs.Prelude.{◌≡◌, IfSome, ℕ, List, [], map, Option, None, Some, String, Vec}
use Rattle.std.specs.Arc.{arc_value}
use Rattle.std.specs.declared.sync.Arc.{Arc}
use Rattle.jwalk_model.specs.declared.metadata.Identity.{Identity}
use Rattle.jwalk_model.specs.FileSystem.{Functions}
use Rattle.jwalk_model.specs.Job.{identity_at}
use Rattle.jwalk_job.specs.declared.ancestors.Ancestors.{Ancestors}
use Rattle.jwalk_job.specs.Text.{text}

abbrev paths_of : {A : Type 0} → Option (Arc (Vec (Arc (String A) A) A) A) → List (List ℕ)
paths_of None = []
paths_of (Some paths) = map text (arc_value paths).items

-- the paths, that of the root first: none if there is no list
abbrev pub texts : {A : Type 0} → Ancestors A → List (List ℕ)
texts ancestors = paths_of ancestors.paths

-- These are the identities of the paths, where the target's is known and so they are needed.
abbrev pub AreKnown : Functions → Option Identity → List (List ℕ) → List (Option Identity) → Type 0
AreKnown fs target paths known = IfSome target (λ _. known ≡ map (identity_at fs) paths)
