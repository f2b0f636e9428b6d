-- Why not all readings came.
use Rattle.std.specs.Prelude.{ℕ, List, codes}
use Rattle.tree_crew.specs.declared.crew.NotStarted.{NotStarted}
use Rattle.tree_crew.specs.declared.crew.NotStarted.TheVariants as start
use Rattle.tree_crew.specs.declared.incomplete.Incomplete.{Incomplete}
use Rattle.tree_crew.specs.declared.incomplete.Incomplete.TheVariants.{Busy, Memory}

-- none came, since the session didn't start
abbrev pub not_started : NotStarted → Incomplete
not_started start.Busy = Busy
not_started start.Memory = Memory

-- the text of the error
abbrev pub text_of : Incomplete → List ℕ
text_of Busy = codes "no place was free in time, or no worker could be started"
text_of Memory = codes "memory ran out for the readings"
