-- What is taken of subtotals tells of all of them.
use Rattle.std.proofs.Common.{◌≡◌, ◌∙◌, ℕ, zero, suc, Bool, true, false, not, ◌&&◌, ◌||◌, List, [], ◌∷◌, ◌++◌, Option, None, Some, Ok, Err, is_some, length, refl, sym, ap, ap₂}
use Rattle.std.specs.Prelude.{nat_le, ◌==◌, if◌then◌else◌, option_and_then}
use Rattle.std.specs.List.{list_all}
use Rattle.std.proofs.lemmas.Grind.{flat_map-append}
use Rattle.jwalk.specs.jwalk_model.declared.metadata.Identity.{Identity}
use Rattle.jwalk.specs.jwalk_model.Entry.{Children, Entry, Item}
use Rattle.jwalk.specs.jwalk_model.FileType.{is_dir}
use Rattle.jwalk_usage.specs.Totals.{has_failed}
use Rattle.jwalk_subtotals.specs.Counted.{Weighed, counted_once, files_after, is_repeated, one_error, own, weighed, with_file}
use Rattle.jwalk_subtotals.specs.Subtotals.{Yielded, asked, below, beyond, listed, listed_all, shown, subtotal, subtotals_beside}
use Rattle.jwalk_subtotals.specs.declared.subtotal.Subtotal.{Subtotal}
use Rattle.tally_words.specs.declared.asked.Asked.{Asked}
use Rattle.tally_run.specs.Counting.{is_clean}
use Rattle.tally_run.specs.Results.{Row, row, row_of, rows_of}
use Rattle.tally_run.specs.Shown.{is_shown, shown_asked}
use Rattle.tally_run.specs.Walks.{subtotals_asked, subtotals_taken}
use Rattle.tally_run.proofs.CountingFacts.{all_seam}

error_known : {R : Type 0} (o : Option (Children R)) → is_some (option_and_then (λ children. children.error) o) ≡ has_failed o
error_known None = refl
error_known (Some c) = refl

module _ {R E : Type 0} (a : Asked) where
  -- the same counts, and the same files are remembered
  weighed_taken : (files : List Identity) (l : List (Item R E)) → weighed (subtotals_taken a) files l ≡ weighed (subtotals_asked a) files l
  weighed_taken files [] = refl
  weighed_taken files (Err f ∷ l) = ap (λ (m : List (Weighed R E)). (Err f, one_error) ∷ m) (weighed_taken files l)
  weighed_taken files (Ok e ∷ l) =
      ap (λ (m : List (Weighed R E)). (Ok e, own a.apparent (is_repeated files (counted_once (subtotals_asked a) e)) e) ∷ m)
      (weighed_taken (with_file (counted_once (subtotals_asked a) e) files) l)

  pub files_taken : (files : List Identity) (l : List (Item R E)) → files_after (subtotals_taken a) files l ≡ files_after (subtotals_asked a) files l
  files_taken files [] = refl
  files_taken files (Err f ∷ l) = files_taken files l
  files_taken files (Ok e ∷ l) = files_taken (with_file (counted_once (subtotals_asked a) e) files) l

  -- what tells the same of an entry's subtotal, whether it is taken or not, tells the same of all that are taken
  module _ {X : Type 0} (tell : List (Yielded R E) → X) (both : X → X → X) (seam : (xs ys : List (Yielded R E)) → tell (xs ++ ys) ≡ both (tell xs) (tell ys))
      (one : (e : Entry R E) (t : Subtotal) → tell (shown (asked (subtotals_taken a) e) t) ≡ tell (shown (asked (subtotals_asked a) e) t)) where
    three : (u v w u' v' w' : List (Yielded R E)) → tell u ≡ tell u' → tell v ≡ tell v' → tell w ≡ tell w' → tell (u ++ v ++ w) ≡ tell (u' ++ v' ++ w')
    three u v w u' v' w' p q r =
        seam (u ++ v) w ∙ ap₂ both (seam u v ∙ ap₂ both p q ∙ sym (seam u' v')) r ∙ sym (seam (u' ++ v') w')

    listed_taken : (n : ℕ) (l : List (Weighed R E)) → tell (listed n (subtotals_taken a) l) ≡ tell (listed n (subtotals_asked a) l)
    listed_taken zero l = refl
    listed_taken (suc n) [] = refl
    listed_taken (suc n) ((Err f, t) ∷ l) =
        seam (Err f ∷ []) (listed n (subtotals_taken a) l) ∙ ap (both (tell (Err f ∷ []))) (listed_taken n l) ∙ sym (seam (Err f ∷ []) (listed n (subtotals_asked a) l))
    listed_taken (suc n) ((Ok e, t) ∷ l) =
        three (listed n (subtotals_taken a) (below e.depth l)) (shown (asked (subtotals_taken a) e) (subtotal (Ok e, t) l)) (listed n (subtotals_taken a) (beyond e.depth l))
        (listed n (subtotals_asked a) (below e.depth l)) (shown (asked (subtotals_asked a) e) (subtotal (Ok e, t) l)) (listed n (subtotals_asked a) (beyond e.depth l))
        (listed_taken n (below e.depth l)) (one e (subtotal (Ok e, t) l)) (listed_taken n (beyond e.depth l))

    told_taken : (files : List Identity) (l : List (Item R E)) → tell (subtotals_beside (subtotals_taken a) files l) ≡ tell (subtotals_beside (subtotals_asked a) files l)
    told_taken files l =
        ap (λ (m : List (Weighed R E)). tell (listed_all (subtotals_taken a) m)) (weighed_taken files l)
        ∙ listed_taken (length (weighed (subtotals_asked a) files l)) (weighed (subtotals_asked a) files l)

  -- an entry that isn't taken is clean
  clean_by : (all root dir failed deep : Bool) (e : Entry R E) (t : Subtotal) → is_some (option_and_then (λ children. children.error) e.read_children) ≡ failed
      → list_all is_clean (shown (if deep && (all || (root || (dir || failed))) then Some e else None) t) ≡ list_all is_clean (shown (if deep && true then Some e else None) t)
  clean_by all root dir failed false e t is = refl
  clean_by true root dir failed true e t is = refl
  clean_by false true dir failed true e t is = refl
  clean_by false false true failed true e t is = refl
  clean_by false false false true true e t is = refl
  clean_by false false false false true e t is = sym (ap (λ (b : Bool). not b && true) is)

  one_clean : (e : Entry R E) (t : Subtotal) → list_all is_clean (shown (asked (subtotals_taken a) e) t) ≡ list_all is_clean (shown (asked (subtotals_asked a) e) t)
  one_clean e t = clean_by a.all (e.depth == 0) (is_dir e.file_type) (has_failed e.read_children) (nat_le e.depth (subtotals_asked a).max_depth) e t (error_known e.read_children)

  pub clean_taken : (files : List Identity) (l : List (Item R E)) → list_all is_clean (subtotals_beside (subtotals_taken a) files l) ≡ list_all is_clean (subtotals_beside (subtotals_asked a) files l)
  clean_taken = told_taken (list_all is_clean) (λ (b c : Bool). b && c) (all_seam is_clean) one_clean

  -- nor is it written
  module _ (name : List ℕ) where
    rows_by : (all root dir failed deep wide : Bool) (e : Entry R E) (t : Subtotal) → is_shown (shown_asked a) e ≡ (wide && (all || (root || dir)))
        → rows_of name (shown_asked a) (shown (if deep && (all || (root || (dir || failed))) then Some e else None) t) ≡ rows_of name (shown_asked a) (shown (if deep && true then Some e else None) t)
    rows_by all root dir failed false wide e t is = refl
    rows_by true root dir failed true wide e t is = refl
    rows_by false true dir failed true wide e t is = refl
    rows_by false false true failed true wide e t is = refl
    rows_by false false false true true wide e t is = refl
    rows_by false false false false true true e t is = sym (ap (λ (b : Bool). (if b then row name e t ∷ [] else []) ++ []) is)
    rows_by false false false false true false e t is = sym (ap (λ (b : Bool). (if b then row name e t ∷ [] else []) ++ []) is)

    one_row : (e : Entry R E) (t : Subtotal) → rows_of name (shown_asked a) (shown (asked (subtotals_taken a) e) t) ≡ rows_of name (shown_asked a) (shown (asked (subtotals_asked a) e) t)
    one_row e t = rows_by a.all (e.depth == 0) (is_dir e.file_type) (has_failed e.read_children) (nat_le e.depth (subtotals_asked a).max_depth) (nat_le e.depth (shown_asked a).greatest) e t refl

    pub rows_taken : (files : List Identity) (l : List (Item R E)) → rows_of name (shown_asked a) (subtotals_beside (subtotals_taken a) files l) ≡ rows_of name (shown_asked a) (subtotals_beside (subtotals_asked a) files l)
    rows_taken = told_taken (rows_of name (shown_asked a)) (λ (xs ys : List Row). xs ++ ys) (flat_map-append (row_of name (shown_asked a))) one_row
