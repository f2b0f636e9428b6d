-- What is walked is the same whether a crew reads or not.
use Rattle.std.proofs.Common.{◌≡◌, ℕ, Bool, true, false, List, refl}
use Rattle.jwalk.specs.jwalk_model.Counted.{Worth}
use Rattle.jwalk.specs.jwalk_model.FileSystem.{Functions}
use Rattle.jwalk.specs.jwalk_model.Job.{Processing}
use Rattle.jwalk.specs.jwalk_model.Options.{Options, with_skip_hidden}
use Rattle.jwalk.specs.jwalk_model.Walk.{whole_walk}
use Rattle.jwalk_ignore.specs.Callback.Kept.{job_with}
use Rattle.program_walks.specs.Crew.{with_crew}

module _ (processed : Processing Worth Worth) where
  pub same_by_crew : (by_crew : Bool) (fs : Functions) (options : Options) (root : List ℕ) (state : Worth)
      → whole_walk (job_with fs (with_crew by_crew options) processed) root state ≡ whole_walk (job_with fs options processed) root state
  unfolding whole_walk
  same_by_crew true fs options root state = refl
  same_by_crew false fs options root state = refl

  -- and so it is where hidden names are left to rules
  pub hidden_by_crew : (by_crew : Bool) (fs : Functions) (options : Options) (root : List ℕ) (state : Worth)
      → whole_walk (job_with fs (with_skip_hidden false (with_crew by_crew options)) processed) root state ≡ whole_walk (job_with fs (with_skip_hidden false options) processed) root state
  unfolding whole_walk
  hidden_by_crew true fs options root state = refl
  hidden_by_crew false fs options root state = refl
