-- What is written of answers and whether they are entries, whatever their states count as.
use Rattle.std.proofs.Common.{◌≡◌, ℕ, ◌++◌, ◌∙◌, List, [], ◌∷◌, map, Bool, true, false, Option, Some, None, Result, Ok, Err, is_ok, if◌then◌else◌, ap, ap₂, sym, subst, refl}
use Rattle.std.specs.Prelude.{IfOk}
use Rattle.std.specs.List.{list_all}
use Rattle.std.specs.Io.KnownBytes.{Appends}
use Rattle.jwalk_model.specs.Entry.{Item}
use Rattle.jwalk_model.specs.Lines.{line_of, lines_of}
use Rattle.walk_text.specs.declared.asked.Asked.{Asked}
use Rattle.walk_run.specs.Answers.{PrintsAll}
use Rattle.walk_run.specs.Totals.{usage_line, totals_line}
use Rattle.walk_run.specs.AskedWalk.{written}
use Rattle.jwalk_job.specs.declared.dir_entry.DirEntry.{DirEntry}
use Rattle.jwalk_job.specs.declared.error.Error.{Error}
use Rattle.jwalk_job.specs.Entry.{item}
use Rattle.jwalk_job.specs.Given.{Given, counted_item}
use Rattle.jwalk_usage.proofs.StateFacts.{same_kept}

-- what is said of a result that is known
pub of_known : {X Y : Type 0} (r : Result X Y) (v : X) (P : X → Type 0) → r ≡ Ok v → IfOk r P → P v
of_known r v P is said = subst (λ r. IfOk r P) is said

module _ {R E : Type 0} (given : Given R E) where
  -- a line doesn't depend on states
  same_line : (x : Item R E) → line_of (counted_item given x) ≡ line_of x
  same_line (Err f) = refl
  same_line (Ok e) = elim e.read_children as (λ o. line_of (counted_item given (Ok (record e { read_children = o }))) ≡ line_of {R = R} {E = E} (Ok (record e { read_children = o }))) [ None ↦ refl | Some c ↦ refl ]

  pub same_lines : (xs : List (Item R E)) → lines_of (map (counted_item given) xs) ≡ lines_of xs
  same_lines [] = refl
  same_lines (x ∷ xs) = ap (λ l. l ++ lines_of (map (counted_item given) xs)) (same_line x) ∙ ap (λ l. line_of x ++ l) (same_lines xs)

  -- what is written doesn't either
  pub same_written : (asked : Asked) (l : List (Item R E)) → written asked (map (counted_item given) l) ≡ written asked l
  same_written asked l = ap₂ (λ (m n : List ℕ). if asked.usage then m else n) (ap usage_line (same_kept given l)) (same_lines l)

  -- an answer is an entry if its value is one
  pub all_entries : {C A : Type 0} (xs : List (Result (DirEntry C A R E) (Error A))) → list_all is_ok (map (counted_item given) (map item xs)) ≡ list_all is_ok xs
  all_entries [] = refl
  all_entries (Ok e ∷ xs) = all_entries xs
  all_entries (Err f ∷ xs) = refl

module _ {R E : Type 0} (asked : Asked) where
  -- what is written where totals are asked for
  pub totals_written : asked.usage ≡ true → (l : List (Item R E)) → totals_line l ≡ written asked l
  totals_written is l = ap (λ b. if b then totals_line l else lines_of l) (sym is)

  -- and where they aren't
  pub lines_written : asked.usage ≡ false → (l : List (Item R E)) → lines_of l ≡ written asked l
  lines_written is l = ap (λ b. if b then totals_line l else lines_of l) (sym is)

  -- A text that is what is asked for was printed.
  pub printed_as : {S C A : Type 0} (text : List (Item R E) → List ℕ) (steps : S → Option (Result (DirEntry C A R E) (Error A)) → S → Type 0) (answers : S) (old new : Option (List ℕ)) (clean : Bool) → ((l : List (Item R E)) → text l ≡ written asked l) → PrintsAll text steps answers old new clean → PrintsAll (written asked) steps answers old new clean
  printed_as text steps answers old new clean same all = (all.0, all.1, all.2, subst (λ l. Appends old new l) (same (map item all.0)) all.3)
