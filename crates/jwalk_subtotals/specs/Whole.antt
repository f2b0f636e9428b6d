-- What an iterator over subtotals yields from its beginning on.
use Rattle.std.specs.Prelude.{◌≡◌, true, false, List, [], ◌++◌, map, flat_map, Option, None, Result}
use Rattle.std.specs.List.{list_any}
use Rattle.std.specs.Iterator.{Drains, Yields, YieldsThen}
use Rattle.jwalk.specs.jwalk_model.declared.metadata.Identity.{Identity}
use Rattle.jwalk.specs.jwalk_model.Entry.{Item}
use Rattle.jwalk.specs.jwalk_job.declared.dir_entry.DirEntry.{DirEntry}
use Rattle.jwalk.specs.jwalk_job.declared.error.Error.{Error}
use Rattle.jwalk.specs.jwalk_job.Entry.{item}
use Rattle.jwalk_subtotals.specs.declared.iter.Subtotals.{Subtotals}
use Rattle.jwalk_subtotals.specs.declared.stack.WithSubtotal.{WithSubtotal}
use Rattle.jwalk_subtotals.specs.declared.error.SubtotalError.{SubtotalError}
use Rattle.jwalk_subtotals.specs.Counted.{files_after, HaveSame}
use Rattle.jwalk_subtotals.specs.Subtotals.{Yielded, subtotals, subtotals_beside}
use Rattle.jwalk_subtotals.specs.Coming.{answers_of, options_of, held, value, ends_with, is_over, Takes, Gives, IsFresh, IsFreshBeside}

module _ {C A I R E : Type 0} (next : I → Option (Result (DirEntry C A R E) (Error A)) → I → Type 0) where
  -- Where calls from the beginning yielded these and then `None`, and none of these is an error behind which nothing comes, the walk yielded some answers and then `None`, and these are their subtotals.
  abbrev pub AllAreYielded : Type 0
  AllAreYielded = (start end : Subtotals C A I R E) (yielded : List (Result (WithSubtotal C A R E) (SubtotalError A))) → IsFresh start → YieldsThen (Gives next) start yielded None end → list_any ends_with yielded ≡ false
      → (answered : List (Result (DirEntry C A R E) (Error A))) × Drains next (answers_of start) answered × (subtotals (options_of start) (map item answered) ≡ flat_map value yielded)

  -- Where files were counted before, these are their subtotals beside those files, and the files at the end are those and theirs.
  abbrev pub AllAreYieldedBeside : Type 0
  AllAreYieldedBeside = (files : List Identity) (start end : Subtotals C A I R E) (yielded : List (Result (WithSubtotal C A R E) (SubtotalError A))) → IsFreshBeside files start → YieldsThen (Gives next) start yielded None end → list_any ends_with yielded ≡ false
      → (answered : List (Result (DirEntry C A R E) (Error A))) × Drains next (answers_of start) answered × (subtotals_beside (options_of start) files (map item answered) ≡ flat_map value yielded)
      × HaveSame (held end).files (files_after (options_of start) files (map item answered))

  -- What calls from the beginning yielded is the beginning of the subtotals of the answers that were taken, whatever comes behind these, as long as no error was yielded behind which nothing comes. So it is up to such an error.
  abbrev pub FirstAreYielded : Type 0
  FirstAreYielded = (start end : Subtotals C A I R E) (yielded : List (Result (WithSubtotal C A R E) (SubtotalError A))) → IsFresh start → Yields (Gives next) start yielded end → list_any ends_with yielded ≡ false
      → (answered : List (Result (DirEntry C A R E) (Error A))) × Takes next false (is_over end) (answers_of start) answered (answers_of end)
      × ((later : List (Item R E)) → (is_over end ≡ true → later ≡ []) → (rest : List (Yielded R E)) × (subtotals (options_of start) (map item answered ++ later) ≡ flat_map value yielded ++ rest))
