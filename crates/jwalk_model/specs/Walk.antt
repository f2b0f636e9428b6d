-- A whole walk, from its root's text and its options.
use Rattle.std.specs.Prelude.{ℕ, List}
use Rattle.jwalk_model.specs.FileSystem.{Functions}
use Rattle.jwalk_model.specs.Options.{Options}
use Rattle.jwalk_model.specs.Entry.{Item}
use Rattle.jwalk_model.specs.Counted.{Worth, blank}
use Rattle.jwalk_model.specs.Job.{Job, reading, root_list}
use Rattle.jwalk_model.specs.Listing.{paired}
use Rattle.jwalk_model.specs.Held.{to_come}

-- all that a walk from this root yields, where its first list is given this state
unfoldable pub whole_walk : {R E : Type 0} → Job R E → List ℕ → R → List (Item R E)
whole_walk job root state = to_come (reading job) job.options.min_depth job.options.max_depth (paired (root_list job root state))

-- a job with no callback, whose states count as nothing
abbrev pub stateless_job : Functions → Options → Job Worth Worth
stateless_job fs options = record {
  fs = fs;
  options = options;
  processed = λ depth path state list. record { state = state; list = list };
  default = blank;
}

-- all that a walk with no callback yields, where its states count as nothing
abbrev pub stateless_walk : Functions → Options → List ℕ → List (Item Worth Worth)
stateless_walk fs options root = whole_walk (stateless_job fs options) root blank
