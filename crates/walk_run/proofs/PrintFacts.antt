-- The lines of what calls yield, one call after another.
use Rattle.std.proofs.Common.{◌≡◌, ℕ, Bool, true, ◌&&◌, List, [], ◌∷◌, ◌++◌, Option, Some, None, Result, map, is_ok, refl}
use Rattle.std.specs.Iterator.{Yields}
use Rattle.std.specs.List.{list_all}
use Rattle.std.specs.Io.KnownBytes.{Appends, append_known}
use Rattle.jwalk_job.specs.declared.dir_entry.DirEntry.{DirEntry}
use Rattle.jwalk_job.specs.declared.error.Error.{Error}
use Rattle.jwalk_job.specs.Entry.{item}
use Rattle.jwalk_model.specs.Lines.{line_of, lines_of}
use Rattle.jwalk.proofs.FillFacts.{calls_on}
use Rattle.walk_run.specs.Answers.{PrintsAll}
use Rattle.walk_run.proofs.LineFacts.{nothing_gathered, rest_written, all_after, line_after}

module _ {S C A R E : Type 0} (steps : S → Option (Result (DirEntry C A R E) (Error A)) → S → Type 0) (start : S) where
  -- Calls yielded these so far, the line of each is written, and it is known whether none is an error.
  pub record PrintsSoFar (now : S) (old new : Option (List ℕ)) (clean : Bool) : Type 0 where
    pub answered : List (Result (DirEntry C A R E) (Error A))
    pub calls : Yields steps start answered now
    pub lines : Appends old new (lines_of (map item answered))
    pub all : clean ≡ list_all is_ok answered

  -- nothing was yielded yet
  pub nothing_printed : (old : Option (List ℕ)) (gathered : List ℕ) → gathered ≡ [] → PrintsSoFar start old (append_known old gathered) true
  nothing_printed old gathered none = record { answered = []; calls = refl; lines = nothing_gathered old gathered none; all = refl }

  -- one more call
  pub one_printed : (now next : S) (old mid new : Option (List ℕ)) (clean is_entry : Bool) (answer : Result (DirEntry C A R E) (Error A)) → PrintsSoFar now old mid clean → steps now (Some answer) next → Appends mid new (line_of (item answer)) → is_entry ≡ is_ok answer → PrintsSoFar next old new (clean && is_entry)
  one_printed now next old mid new clean is_entry answer so_far step line entry = record {
    answered = so_far.answered ++ answer ∷ [];
    calls = calls_on steps so_far.answered (answer ∷ []) start now next so_far.calls (next, step, refl);
    lines = line_after item old mid new so_far.answered answer so_far.lines line;
    all = all_after is_ok so_far.answered answer clean is_entry so_far.all entry;
  }

  -- the last call, and what is left is written
  pub all_printed : (now end : S) (old mid new : Option (List ℕ)) (gathered : List ℕ) (clean : Bool) → PrintsSoFar now old (append_known mid gathered) clean → steps now None end → Appends mid new gathered → PrintsAll lines_of steps start old new clean
  all_printed now end old mid new gathered clean so_far step rest =
      (so_far.answered, (end, (now, so_far.calls, step)), so_far.all, rest_written old mid new gathered (lines_of (map item so_far.answered)) so_far.lines rest)
