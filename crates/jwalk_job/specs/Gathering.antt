-- The items of a directory while it is listed.
use Rattle.std.specs.Prelude.{◌≡◌, ◌+◌, ◌++◌, ℕ, List, Ok, map}
use Rattle.std.specs.declared.default.Default as Default
use Rattle.std.specs.declared.clone.Clone as Clone
use Rattle.std.specs.declared.fmt.Debug as Debug
use Rattle.jwalk_model.specs.FileSystem.{Functions, Listed}
use Rattle.jwalk_model.specs.Entry.{AtDepth}
use Rattle.jwalk_model.specs.Job as value
use Rattle.jwalk_fs.specs.declared.file_system.FileSystem as FileSystem
use Rattle.jwalk_job.specs.Entry.{item}
use Rattle.jwalk_job.specs.ReadDirSpec.{spec}
use Rattle.jwalk_job.specs.Given.{Given, counted_spec, counted_list, DefaultsCount}
use Rattle.jwalk_job.specs.declared.job.gathering.Gathering.{Gathering}
use Rattle.jwalk_job.specs.Job.{file_system, job_by, AsksKnown}
use Rattle.jwalk_job.specs.Inside.{AsksOn, IsInside}

-- The directory can be listed, and this holds of its listing.
abbrev pub IsListed : Functions → List ℕ → (List Listed → Type 0) → Type 0
IsListed fs path P = (listing : List Listed) × (fs.list_of path ≡ Ok listing) × P listing

-- A type whose invariant speaks of generic states has their traits among its parameters.
module _ {C S P A R E : Type 0} {c : Default.Ghosts C} {cd : Debug.Ghosts C} {rc : Clone.Ghosts R} {r : Default.Ghosts R} {rd : Debug.Ghosts R} {e : Default.Ghosts E} {ed : Debug.Ghosts E} where
  -- the depth of the items
  abbrev pub depth_below : Gathering C S P A R E c cd rc r rd e ed → ℕ
  depth_below g = (spec g.of.now).depth + 1

  -- What these items of a listing give is behind what was there: entries and errors one deeper than the directory and, where what is asked is known, over what is given, those of the definition.
  pub record IsGathered (files : FileSystem.Ghosts S) (defaults : Default.Ghosts E) (first : Gathering C S P A R E c cd rc r rd e ed) (listing : List Listed) (last : Gathering C S P A R E c cd rc r rd e ed) : Type 0 where
    pub job : last.job.now ≡ first.job.now
    pub of : last.of.now ≡ first.of.now
    pub depth : AtDepth (depth_below first) (map item first.items.items) → AtDepth (depth_below first) (map item last.items.items)
    pub asks : AsksKnown files first.job.now → AsksOn (files.functions (file_system first.job.now)) first.inside last.inside
    pub value : (given : Given R E) → AsksKnown files first.job.now → DefaultsCount defaults given
        → IsInside (job_by files given first.job.now) (counted_spec given (spec first.of.now)) first.inside
        → counted_list given last.items.items
        ≡ counted_list given first.items.items ++ value.raw (job_by files given first.job.now) (counted_spec given (spec first.of.now)) listing
