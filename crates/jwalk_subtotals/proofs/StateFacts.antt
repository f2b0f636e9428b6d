-- Subtotals don't go by states.
use Rattle.std.proofs.Common.{◌≡◌, ◌∙◌, ℕ, zero, suc, Bool, true, false, List, [], ◌∷◌, ◌++◌, map, length, Option, Some, None, Ok, Err, option_map, refl, sym, ap, ap₂}
use Rattle.std.specs.Prelude.{nat_lt, nat_le, ◌&&◌, ◌||◌, ◌==◌, if◌then◌else◌}
use Rattle.std.proofs.lemmas.List.{map-append}
use Rattle.jwalk.specs.jwalk_model.declared.metadata.Identity.{Identity}
use Rattle.jwalk.specs.jwalk_model.Counted.{children_by, entry_by, item_by}
use Rattle.jwalk.specs.jwalk_model.Entry.{Children, Entry, Item}
use Rattle.jwalk.specs.jwalk_model.FileType.{is_dir, is_file}
use Rattle.jwalk_usage.specs.Kept.{length_kept}
use Rattle.jwalk_usage.specs.Totals.{has_failed, one_if}
use Rattle.jwalk_subtotals.specs.Counted.{Weighed, counted_by_type, counted_once, files_after, is_repeated, one_error, own, size_kept, weighed, with_file}
use Rattle.jwalk_subtotals.specs.Subtotal.{plus}
use Rattle.jwalk_subtotals.specs.Subtotals.{Yielded, asked, is_asked, below, beyond, depth_at, listed, listed_all, shown, subtotal, subtotals_beside, total, yielded_by}
use Rattle.jwalk_subtotals.specs.declared.options.SubtotalOptions.{SubtotalOptions}
use Rattle.jwalk_subtotals.specs.declared.subtotal.Subtotal.{Subtotal}

module _ {R E V W : Type 0} (view : R → V) (mark : E → W) where
  -- an answer with what it counts, its states by views
  abbrev weighed_by : Weighed R E → Weighed V W
  weighed_by w = (item_by view mark w.0, w.1)

  failed_same : (o : Option (Children R)) → has_failed (option_map (children_by view) o) ≡ has_failed o
  failed_same None = refl
  failed_same (Some c) = refl

  own_same : (apparent again : Bool) (e : Entry R E) → own apparent again (entry_by view mark e) ≡ own apparent again e
  own_same apparent again e =
      ap (λ (b : Bool). let t : Subtotal = record (counted_by_type e.file_type) {
        bytes = if again then 0 else size_kept apparent e.seen;
        file_bytes = if again then 0 else (if is_file e.file_type then length_kept e.seen else 0);
        errors = one_if b;
      } in t) (failed_same e.read_children)

  weighed_same : (o : SubtotalOptions) (files : List Identity) (l : List (Item R E)) → weighed o files (map (item_by view mark) l) ≡ map weighed_by (weighed o files l)
  weighed_same o files [] = refl
  weighed_same o files (Err f ∷ l) = ap (λ (m : List (Weighed V W)). (Err f, one_error) ∷ m) (weighed_same o files l)
  weighed_same o files (Ok e ∷ l) =
      ap₂ (λ (t : Subtotal) (m : List (Weighed V W)). (Ok (entry_by view mark e), t) ∷ m)
      (own_same o.apparent (is_repeated files (counted_once o e)) e)
      (weighed_same o (with_file (counted_once o e) files) l)

  -- neither do the files that are counted
  pub files_same : (o : SubtotalOptions) (files : List Identity) (l : List (Item R E)) → files_after o files (map (item_by view mark) l) ≡ files_after o files l
  files_same o files [] = refl
  files_same o files (Err f ∷ l) = files_same o files l
  files_same o files (Ok e ∷ l) = files_same o (with_file (counted_once o e) files) l

  depth_same : (x : Item R E) → depth_at (item_by view mark x) ≡ depth_at x
  depth_same (Ok e) = refl
  depth_same (Err f) = refl

  first_kept : (b : Bool) (w : Weighed R E) (l : List (Weighed R E)) → (if b then weighed_by w ∷ map weighed_by l else []) ≡ map weighed_by (if b then w ∷ l else [])
  first_kept true w l = refl
  first_kept false w l = refl

  below_same : (d : ℕ) (l : List (Weighed R E)) → below d (map weighed_by l) ≡ map weighed_by (below d l)
  below_same d [] = refl
  below_same d (w ∷ l) =
      ap (λ (c : ℕ). if nat_lt d c then weighed_by w ∷ below d (map weighed_by l) else []) (depth_same w.0)
      ∙ ap (λ (m : List (Weighed V W)). if nat_lt d (depth_at w.0) then weighed_by w ∷ m else []) (below_same d l)
      ∙ first_kept (nat_lt d (depth_at w.0)) w (below d l)

  rest_kept : (b : Bool) (w : Weighed R E) (l m : List (Weighed R E)) → (if b then map weighed_by m else weighed_by w ∷ map weighed_by l) ≡ map weighed_by (if b then m else w ∷ l)
  rest_kept true w l m = refl
  rest_kept false w l m = refl

  beyond_same : (d : ℕ) (l : List (Weighed R E)) → beyond d (map weighed_by l) ≡ map weighed_by (beyond d l)
  beyond_same d [] = refl
  beyond_same d (w ∷ l) =
      ap (λ (c : ℕ). if nat_lt d c then beyond d (map weighed_by l) else weighed_by w ∷ map weighed_by l) (depth_same w.0)
      ∙ ap (λ (m : List (Weighed V W)). if nat_lt d (depth_at w.0) then m else weighed_by w ∷ map weighed_by l) (beyond_same d l)
      ∙ rest_kept (nat_lt d (depth_at w.0)) w l (beyond d l)

  total_same : (l : List (Weighed R E)) → total (map weighed_by l) ≡ total l
  total_same [] = refl
  total_same (w ∷ l) = ap (plus w.1) (total_same l)

  subtotal_same : (e : Entry R E) (t : Subtotal) (l : List (Weighed R E)) → subtotal (Ok (entry_by view mark e), t) (map weighed_by l) ≡ subtotal (Ok e, t) l
  subtotal_same e t l = ap (λ (m : List (Weighed V W)). plus t (total m)) (below_same e.depth l) ∙ ap (plus t) (total_same (below e.depth l))

  asked_same : (o : SubtotalOptions) (e : Entry R E) → is_asked o (entry_by view mark e) ≡ is_asked o e
  asked_same o e = ap (λ (b : Bool). nat_le e.depth o.max_depth && (o.all || ((e.depth == 0) || (is_dir e.file_type || b)))) (failed_same e.read_children)

  shown_same : (b : Bool) (e : Entry R E) (t : Subtotal) → shown (if b then Some (entry_by view mark e) else None) t ≡ map (yielded_by view mark) (shown (if b then Some e else None) t)
  shown_same true e t = refl
  shown_same false e t = refl

  three_same : {X : Type 0} {a b c d e f : List X} → a ≡ d → b ≡ e → c ≡ f → (a ++ b) ++ c ≡ (d ++ e) ++ f
  three_same {X} p q r = ap₂ (λ (x y : List X). x ++ y) (ap₂ (λ (x y : List X). x ++ y) p q) r

  listed_same : (n : ℕ) (o : SubtotalOptions) (l : List (Weighed R E)) → listed n o (map weighed_by l) ≡ map (yielded_by view mark) (listed n o l)
  listed_same zero o l = refl
  listed_same (suc n) o [] = refl
  listed_same (suc n) o ((Err f, t) ∷ l) = ap (λ (m : List (Yielded V W)). Err f ∷ m) (listed_same n o l)
  listed_same (suc n) o ((Ok e, t) ∷ l) =
      let first = listed n o (below e.depth l) in
      let own = shown (asked o e) (subtotal (Ok e, t) l) in
      let rest = listed n o (beyond e.depth l) in
      three_same
      (ap (listed n o) (below_same e.depth l) ∙ listed_same n o (below e.depth l))
      (ap (shown (asked o (entry_by view mark e))) (subtotal_same e t l) ∙ ap (λ (b : Bool). shown (if b then Some (entry_by view mark e) else None) (subtotal (Ok e, t) l)) (asked_same o e) ∙ shown_same (is_asked o e) e (subtotal (Ok e, t) l))
      (ap (listed n o) (beyond_same e.depth l) ∙ listed_same n o (beyond e.depth l))
      ∙ sym (map-append (yielded_by view mark) (first ++ own) rest ∙ ap (λ (m : List (Yielded V W)). m ++ map (yielded_by view mark) rest) (map-append (yielded_by view mark) first own))

  length_same : (l : List (Weighed R E)) → length (map weighed_by l) ≡ length l
  length_same [] = refl
  length_same (w ∷ l) = ap suc (length_same l)

  pub subtotals_same : (o : SubtotalOptions) (files : List Identity) (l : List (Item R E)) → subtotals_beside o files (map (item_by view mark) l) ≡ map (yielded_by view mark) (subtotals_beside o files l)
  subtotals_same o files l =
      ap (listed_all o) (weighed_same o files l)
      ∙ ap (λ (n : ℕ). listed n o (map weighed_by (weighed o files l))) (length_same (weighed o files l))
      ∙ listed_same (length (weighed o files l)) o (weighed o files l)
