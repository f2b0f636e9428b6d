-- What a search prints below roots, whatever its disk and its texts answer.
use Rattle.std.specs.Prelude.{ℕ, Bool, List, Option}
use Rattle.std.specs.Arc.{arc_value}
use Rattle.std.specs.declared.alloc.Global.{Global}
use Rattle.std.specs.declared.sync.Arc.{Arc}
use Rattle.jwalk.specs.jwalk_fs.declared.file_system.FileSystem as FileSystem
use Rattle.jwalk_ignore.specs.declared.callback.states.RulesState.{RulesState}
use Rattle.program_walks.specs.Crew.{CrewCallsOf}
use Rattle.program_walks.specs.Folders.{IsCrewAt}
use Rattle.seek_words.specs.Sought.{Sought}
use Rattle.seek_found.specs.Roots.{AreBelow, Below}
use Rattle.seek_found.specs.declared.printer.Printer.{Printer}
use Rattle.seek_found.specs.declared.sought_test.SoughtTest.{SoughtTest}
use Rattle.seek_search.specs.Goes.{Honours, LeavesOut, YieldedBelow}
use Rattle.seek_search.specs.Printed.{PrintsThose, WritesThose}
use Rattle.seek_search.specs.declared.search.Search.{Search}

-- what a step of a search does: the printer and what is written before, those after it, and whether all answers are clean
abbrev pub Step : Type 1
Step = Printer SoughtTest → Printer SoughtTest → Option (List ℕ) → Option (List ℕ) → Bool → Type 0

module _ {T K S X C E G H F : Type 0} (files : FileSystem.Ghosts S) (plain : CrewCallsOf T G (Arc S Global) LeavesOut Global H F) (honouring : CrewCallsOf T C (Arc S Global) (Honours X Global) Global RulesState E) (search : Search T K S X) where
  -- the possible answers below a root: its crew reads where directories may be in the root
  abbrev pub are_of : Sought → Below
  are_of =
      YieldedBelow plain honouring (arc_value search.disk) (arc_value search.texts) (IsCrewAt (files.IsFixed (arc_value search.disk)) (files.functions (arc_value search.disk)) search.asked.now.follow search.crew) search.lines.now search.asked.now

  -- the lines of answers below a root are written, or gathered
  abbrev pub PrintsBelow : List ℕ → Step
  PrintsBelow root = PrintsThose (files.IsFixed (arc_value search.disk)) (files.functions (arc_value search.disk)) (λ sought may_stop. are_of sought may_stop root)

  -- the same below roots, one after another
  abbrev pub PrintsRoots : List (List ℕ) → Step
  PrintsRoots roots = PrintsThose (files.IsFixed (arc_value search.disk)) (files.functions (arc_value search.disk)) (λ sought may_stop. AreBelow (are_of sought) may_stop roots)

  -- the same where all lines are written
  abbrev pub WritesRoots : List (List ℕ) → Step
  WritesRoots roots = WritesThose (files.IsFixed (arc_value search.disk)) (files.functions (arc_value search.disk)) (λ sought may_stop. AreBelow (are_of sought) may_stop roots)
