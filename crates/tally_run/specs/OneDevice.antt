-- Answers on the device of the first one.
use Rattle.std.specs.Prelude.{◌≡◌, Bool, not, List, [], ◌∷◌, ◌++◌, map, filter, Option, None, Some, Result, Ok, Err, option_and_then, option_to_list, if◌then◌else◌}
use Rattle.std.specs.Iterator.{YieldsThen}
use Rattle.jwalk.specs.jwalk_model.declared.metadata.Identity.{Identity}
use Rattle.jwalk.specs.jwalk_model.Entry.{Item}
use Rattle.jwalk.specs.jwalk_model.Metadata.{identity_of, is_elsewhere}
use Rattle.jwalk.specs.jwalk_job.declared.dir_entry.DirEntry.{DirEntry}
use Rattle.jwalk.specs.jwalk_job.declared.error.Error.{Error}
use Rattle.jwalk.specs.jwalk_job.Entry.{item}
use Rattle.tally_run.specs.declared.one_device.OneDevice.{OneDevice}

module _ {R E : Type 0} where
  -- which file an answer is by what it keeps, where that is known
  abbrev pub identity_kept : Item R E → Option Identity
  identity_kept (Ok e) = option_and_then identity_of e.seen
  identity_kept (Err f) = None

  -- whether an answer isn't known to be on another device than a root
  abbrev pub stays : Option Identity → Item R E → Bool
  stays root x = not (is_elsewhere root (identity_kept x))

  -- the answers that aren't known to be on another device than the first, which is the root
  abbrev pub on_root_device : List (Item R E) → List (Item R E)
  on_root_device [] = []
  on_root_device (x ∷ l) = filter (stays (identity_kept x)) (x ∷ l)

  -- what counts of a walk's answers: those, if one file system is asked for, and else all
  abbrev pub on_devices : Bool → List (Item R E) → List (Item R E)
  on_devices one l = if one then on_root_device l else l

  -- what stays of answers that come once the root came, or with it
  abbrev pub staying : Option (Option Identity) → List (Item R E) → List (Item R E)
  staying None l = on_root_device l
  staying (Some root) l = filter (stays root) l

  -- which file the root is, once this answer came
  abbrev pub root_then : Option (Option Identity) → Item R E → Option Identity
  root_then None x = identity_kept x
  root_then (Some root) x = root

-- which file the root is before the first answer: it isn't known for good where nothing is dropped
abbrev pub root_before : Bool → Option (Option Identity)
root_before one = if one then None else Some None

-- the iterator whose answers they are, and which file the root is, once it came
abbrev pub source_of : {I : Type 0} → OneDevice I → I
source_of s = s.answers

abbrev pub root_of : {I : Type 0} → OneDevice I → Option (Option Identity)
root_of s = s.root

-- the answers of a call
abbrev pub answer_in : {C A R E : Type 0} → Option (Result (DirEntry C A R E) (Error A)) → List (Item R E)
answer_in r = map item (option_to_list r)

-- Answers were taken, and these are yielded: the first of what stays, whatever answers come behind those.
abbrev pub YieldsStaying : {C A I R E : Type 0} → OneDevice I → List (Result (DirEntry C A R E) (Error A)) → List (Item R E) → OneDevice I → Type 0
YieldsStaying {R = R} {E = E} old taken yielded new =
    (later : List (Item R E)) → staying (root_of old) (map item taken ++ later) ≡ yielded ++ staying (root_of new) later

-- One call: some answers are dropped, and the next is the one that stays, or there is none.
pub record Stays {C A I R E : Type 0} (next : I → Option (Result (DirEntry C A R E) (Error A)) → I → Type 0) (old : OneDevice I) (answer : Option (Result (DirEntry C A R E) (Error A))) (new : OneDevice I) : Type 0 where
  pub dropped : List (Result (DirEntry C A R E) (Error A))
  pub calls : YieldsThen next (source_of old) dropped answer (source_of new)
  pub stays : YieldsStaying old (dropped ++ option_to_list answer) (answer_in answer) new

-- It may be called, and has an end.
pub record MayGoOn {I : Type 0} (can : I → Type 0) (is_finite : I → Type 0) (s : OneDevice I) : Type 0 where
  pub may : can (source_of s)
  pub ends : is_finite (source_of s)
