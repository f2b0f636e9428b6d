-- A directory to be read, as a value.
use Rattle.std.specs.Prelude.{ℕ, String}
use Rattle.std.specs.declared.sync.Arc.{Arc}
use Rattle.jwalk_model.specs.ReadDir.{Directory, Spec}
use Rattle.jwalk_job.specs.declared.ancestors.Ancestors.{Ancestors}
use Rattle.jwalk_job.specs.declared.read_dir_spec.ReadDirSpec.{ReadDirSpec}
use Rattle.jwalk_job.specs.Text.{text}
use Rattle.jwalk_job.specs.Ancestors.{texts}

-- the directory at this depth and path, below these ancestors
abbrev pub directory_at : {A : Type 0} → ℕ → Arc (String A) A → Ancestors A → Directory
directory_at depth path ancestors = record { depth = depth; path = text path; ancestors = texts ancestors }

abbrev pub spec : {C A R E : Type 0} → ReadDirSpec C A R E → Spec R
spec s = record { directory = directory_at s.depth s.path s.ancestors; state = s.client_read_state }
