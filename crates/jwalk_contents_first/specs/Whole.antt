-- What an iterator that yields contents first yields from its beginning on.
use Rattle.std.specs.Prelude.{◌≡◌, true, false, List, [], ◌++◌, map, Option, Some, None, Result}
use Rattle.std.specs.List.{list_any}
use Rattle.std.specs.Iterator.{Drains, Yields, YieldsThen}
use Rattle.jwalk_model.specs.Entry.{Item}
use Rattle.jwalk_job.specs.declared.dir_entry.DirEntry.{DirEntry}
use Rattle.jwalk_job.specs.declared.error.Error.{Error}
use Rattle.jwalk_job.specs.Entry.{item}
use Rattle.jwalk_contents_first.specs.declared.iter.ContentsFirst.{ContentsFirst}
use Rattle.jwalk_contents_first.specs.ContentsFirst.{contents_first}
use Rattle.jwalk_contents_first.specs.Coming.{answers_of, held, ends_with, is_over, Ascends, Takes, Gives, IsFresh}

module _ {C A I R E : Type 0} (next : I → Option (Result (DirEntry C A R E) (Error A)) → I → Type 0) where
  -- Where calls from the beginning yielded these items and then `None`, and none of these is an error behind which nothing comes, the walk yielded some answers and then `None`, and these are they, contents first.
  abbrev pub AllAreYielded : Type 0
  AllAreYielded = (start end : ContentsFirst C A I R E) (yielded : List (Result (DirEntry C A R E) (Error A))) → IsFresh start → YieldsThen (Gives next) start yielded None end → list_any ends_with yielded ≡ false
      → (answered : List (Result (DirEntry C A R E) (Error A))) × Drains next (answers_of start) answered × (contents_first (map item answered) ≡ map item yielded)

  -- What calls from the beginning yielded is the beginning of all answers, contents first, whatever comes behind those that were taken, as long as no error was yielded behind which nothing comes. So it is up to such an error.
  abbrev pub FirstAreYielded : Type 0
  FirstAreYielded = (start end : ContentsFirst C A I R E) (yielded : List (Result (DirEntry C A R E) (Error A))) → IsFresh start → Yields (Gives next) start yielded end → list_any ends_with yielded ≡ false
      → (answered : List (Result (DirEntry C A R E) (Error A))) × Takes next false (is_over end) (answers_of start) answered (answers_of end)
      × ((later : List (Item R E)) → (is_over end ≡ true → later ≡ []) → (rest : List (Item R E)) × (contents_first (map item answered ++ later) ≡ map item yielded ++ rest))

  -- Behind an error with which the walk ends nothing comes.
  abbrev pub NothingComesBehind : Type 0
  NothingComesBehind = (old mid new : ContentsFirst C A I R E) (last : Result (DirEntry C A R E) (Error A)) (result : Option (Result (DirEntry C A R E) (Error A))) → ends_with last ≡ true → Gives next old (Some last) mid → Gives next mid result new → result ≡ None

  -- Of the entries that are held back, each is deeper than the one before: there is one for each depth at most.
  abbrev pub OneForEachDepth : Type 0
  OneForEachDepth = (start end : ContentsFirst C A I R E) (yielded : List (Result (DirEntry C A R E) (Error A))) → IsFresh start → Yields (Gives next) start yielded end → Ascends (held end).entries
