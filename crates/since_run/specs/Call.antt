-- What is fixed for a call.
use Rattle.std.specs.Prelude.{◌≡◌}
use Rattle.std.specs.Arc.{arc_value}
use Rattle.program_walks.specs.Crew.{IsCrewOf, threads_in}
use Rattle.since_words.specs.declared.asked.Asked.{Asked}
use Rattle.since_run.specs.declared.call.Call.{Call}
use Rattle.since_run.specs.declared.run.Since.{Since}

-- A call of the program asks for this. Its crew has the threads that are asked for, or else as many as can run at a time.
pub record IsCallOf {T Z X : Type 0} (since : Since T Z X) (asked : Asked) (call : Call T X) : Type 0 where
  pub reads : arc_value call.texts ≡ since.texts
  pub crew : IsCrewOf (threads_in since.cores asked.threads) call.crew
  pub began : call.start ≡ since.start
  pub asks : call.asked.now ≡ asked
  pub shows : call.screen ≡ since.screen
