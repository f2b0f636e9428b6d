-- What closures make of lists.
use Rattle.std.specs.Prelude.{ℕ, not, ◌&&◌, bytes_eq, codes, List, [], Option, Some, None}
use Rattle.jwalk.specs.jwalk_model.Entry.{Item}
use Rattle.jwalk.specs.jwalk_model.FileType.{is_dir}
use Rattle.jwalk.specs.jwalk_model.Counted.{blank}
use Rattle.jwalk.specs.jwalk_model.Job.{Processing, KeepsDepthsOf}
use Rattle.jwalk.specs.jwalk_callbacks.FilterEntry.{Test}
use Rattle.jwalk.specs.jwalk_job.Given.{Given}

module _ {R E : Type 0} where
  -- the root's list stays, and nothing of every other list
  abbrev pub emptied : Option ℕ → List (Item R E) → List (Item R E)
  emptied None list = list
  emptied (Some depth) list = []

  -- what the callback makes of a list
  abbrev pub empties : Processing R E
  empties depth path state list = record { state = state; list = emptied depth list }

  pub keeps_depths_of_emptied : KeepsDepthsOf empties
  keeps_depths_of_emptied None path state list h = h
  keeps_depths_of_emptied (Some depth) path state list h = tt

-- what is given of a walk with it, where states count as nothing
abbrev pub root_alone : {R E : Type 0} → Given R E
root_alone = record {
  read_dir_state = λ _. blank;
  dir_entry_state = λ _. blank;
  processed = empties;
  keeps_depths = keeps_depths_of_emptied;
  new_entry = blank;
}

-- all but directories of the name `target`
abbrev pub no_target : Test
no_target depth name type = not (bytes_eq name (codes "target") && is_dir type)
