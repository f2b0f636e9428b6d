-- The subtotals of a list of answers.
use Rattle.std.specs.Prelude.{ℕ, zero, suc, Bool, nat_lt, nat_le, ◌&&◌, ◌||◌, ◌==◌, List, [], ◌∷◌, ◌++◌, length, Option, Some, None, Result, Ok, Err, if◌then◌else◌}
use Rattle.jwalk.specs.jwalk_model.declared.metadata.Identity.{Identity}
use Rattle.jwalk.specs.jwalk_model.FileType.{is_dir}
use Rattle.jwalk.specs.jwalk_model.Error.{Failure}
use Rattle.jwalk.specs.jwalk_model.Counted.{entry_by}
use Rattle.jwalk.specs.jwalk_model.Entry.{Entry, Item}
use Rattle.jwalk.specs.jwalk_job.Error.{depth_of}
use Rattle.jwalk_usage.specs.Totals.{has_failed}
use Rattle.jwalk_subtotals.specs.declared.subtotal.Subtotal.{Subtotal}
use Rattle.jwalk_subtotals.specs.declared.options.SubtotalOptions.{SubtotalOptions}
use Rattle.jwalk_subtotals.specs.Subtotal.{nothing, plus}
use Rattle.jwalk_subtotals.specs.Counted.{Weighed, weighed}

-- What is yielded: an entry with its subtotal, or an error.
abbrev pub Yielded : Type 0 → Type 0 → Type 0
Yielded R E = Result (Entry R E × Subtotal) Failure

-- what is yielded, with states by views of both kinds
abbrev pub yielded_by : {R E V W : Type 0} → (R → V) → (E → W) → Yielded R E → Yielded V W
yielded_by view mark (Ok (e, t)) = Ok (entry_by view mark e, t)
yielded_by view mark (Err f) = Err f

module _ {R E : Type 0} where
  -- the depth of an answer
  abbrev pub depth_at : Item R E → ℕ
  depth_at (Ok e) = e.depth
  depth_at (Err f) = depth_of f

  -- the answers below one at this depth that come behind it: those up to the first that isn't deeper
  abbrev pub below : ℕ → List (Weighed R E) → List (Weighed R E)
  below depth [] = []
  below depth (w ∷ l) = if nat_lt depth (depth_at w.0) then w ∷ below depth l else []

  -- the answers behind those
  abbrev pub beyond : ℕ → List (Weighed R E) → List (Weighed R E)
  beyond depth [] = []
  beyond depth (w ∷ l) = if nat_lt depth (depth_at w.0) then beyond depth l else w ∷ l

  -- the sum of what answers count
  abbrev pub total : List (Weighed R E) → Subtotal
  total [] = nothing
  total (w ∷ l) = plus w.1 (total l)

  -- the subtotal of an answer with these behind it: what it and those below it count
  abbrev pub subtotal : Weighed R E → List (Weighed R E) → Subtotal
  subtotal w behind = total (w ∷ below (depth_at w.0) behind)

  -- whether an entry's subtotal is asked for: it is not too deep, and it is at depth 0, a directory, or could not be read, or all are asked for
  abbrev pub is_asked : SubtotalOptions → Entry R E → Bool
  is_asked options e = nat_le e.depth options.max_depth && (options.all || ((e.depth == 0) || (is_dir e.file_type || has_failed e.read_children)))

  -- the entry, if its subtotal is asked for
  abbrev pub asked : SubtotalOptions → Entry R E → Option (Entry R E)
  asked options e = if is_asked options e then Some e else None

  -- an entry with its subtotal, if it is asked for
  abbrev pub shown : Option (Entry R E) → Subtotal → List (Yielded R E)
  shown None t = []
  shown (Some e) t = Ok (e, t) ∷ []

  -- the subtotals of the first answers, as many as the number says, children before parents, with the errors between them
  abbrev pub listed : ℕ → SubtotalOptions → List (Weighed R E) → List (Yielded R E)
  listed zero options l = []
  listed (suc n) options [] = []
  listed (suc n) options ((Err f, count) ∷ l) = Err f ∷ listed n options l
  listed (suc n) options ((Ok e, count) ∷ l) =
      listed n options (below e.depth l) ++ shown (asked options e) (subtotal (Ok e, count) l) ++ listed n options (beyond e.depth l)

  -- the same of all
  abbrev pub listed_all : SubtotalOptions → List (Weighed R E) → List (Yielded R E)
  listed_all options l = listed (length l) options l

  -- the same of answers, where these files were counted before
  abbrev pub subtotals_beside : SubtotalOptions → List Identity → List (Item R E) → List (Yielded R E)
  subtotals_beside options files l = listed_all options (weighed options files l)

  -- what is yielded for a list of answers: the subtotal of each entry that is asked for, behind those of all that is below it, and the errors between them
  abbrev pub subtotals : SubtotalOptions → List (Item R E) → List (Yielded R E)
  subtotals options l = subtotals_beside options [] l
