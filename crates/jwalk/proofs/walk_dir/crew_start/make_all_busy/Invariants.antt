use Rattle.jwalk_job.specs.Entry.{item}
use Rattle.jwalk_callbacks.proofs.SkipFacts.{IsChangedTo}
use Rattle.jwalk.specs.CrewStart.{busied}
use Rattle.jwalk.proofs.walk_dir.crew_start.make_all_busy.Given as goal

-- those so far say that the crew is busy, if they have a directory
abbrev pub invariant-loop-found : goal.invariant-loop-found
invariant-loop-found g l = IsChangedTo item busied l.fn.list.items l.found-index l.found-items
