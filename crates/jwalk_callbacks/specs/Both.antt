-- One callback after another.
use Rattle.std.specs.Prelude.{◌≡◌, ℕ, List, Option}
use Rattle.jwalk_model.specs.Entry.{Item}
use Rattle.jwalk_model.specs.Counted.{Worth}
use Rattle.jwalk_model.specs.Job.{Processing, KeepsDepthsOf}
use Rattle.jwalk_job.specs.Given.{Given}
use Rattle.jwalk_callbacks.specs.declared.both.Both.{Both}

-- the callback that is called first
abbrev pub first_of : {P Q : Type 0} → Both P Q → P
first_of it = it.first

-- the callback that is called second
abbrev pub second_of : {P Q : Type 0} → Both P Q → Q
second_of it = it.second

module _ {R E : Type 0} (first second : Processing R E) where
  -- what the second makes of the state and the list that the first left
  abbrev pub chained : Processing R E
  chained depth path state list = second depth path (first depth path state list).state (first depth path state list).list

  -- If both keep depths, so does one after the other.
  pub chained-KeepsDepthsOf : KeepsDepthsOf first → KeepsDepthsOf second → KeepsDepthsOf chained
  chained-KeepsDepthsOf kept kept' depth path state list h = kept' depth path (first depth path state list).state (first depth path state list).list (kept depth path state list h)

-- Functions that keep depths keep them one after the other.
abbrev pub ChainsKeepDepths : Type 0 → Type 0 → Type 0
ChainsKeepDepths R E = (first second : Processing R E) → KeepsDepthsOf first → KeepsDepthsOf second → KeepsDepthsOf (chained first second)

-- States count alike, and so does the state of a new entry.
abbrev pub CountsAlike : {R E : Type 0} → Given R E → Given R E → Type 0
CountsAlike a b = (a.read_dir_state ≡ b.read_dir_state) × (a.dir_entry_state ≡ b.dir_entry_state) × (a.new_entry ≡ b.new_entry)

-- What is given is made by two callbacks, one after the other, with states that count as for each of them.
pub record MakesInTurn {R E : Type 0} (First Second : Given R E → Type 0) (given : Given R E) : Type 0 where
  pub first : Given R E
  pub second : Given R E
  pub first_made : First first
  pub second_made : Second second
  pub first_alike : CountsAlike first given
  pub second_alike : CountsAlike second given
  pub in_turn : (depth : Option ℕ) (path : List ℕ) (state : Worth) (list : List (Item Worth Worth))
      → given.processed depth path state list ≡ chained first.processed second.processed depth path state list

-- What is given of two callbacks in turn, if states count as for the first.
abbrev pub chaining : {R E : Type 0} → Given R E → Given R E → Given R E
chaining first second = record first {
  processed = chained first.processed second.processed;
  keeps_depths = chained-KeepsDepthsOf first.processed second.processed first.keeps_depths second.keeps_depths;
}
