-- Depths of what is held and of what is yielded.
use Rattle.std.proofs.Common.{◌≡◌, ℕ, ◌+◌, ◌≤◌, true, false, List, [], ◌∷◌, ◌++◌, Ok, Err, inl, inr, arith, sym, ◌∙◌}
use Rattle.std.proofs.lemmas.Bool.Decides.{leb_tells}
use Rattle.jwalk_model.specs.Entry.{Item, AtDepth, NoDeeper, IsBetween}
use Rattle.jwalk_model.specs.ReadDir.{Spec, Outcome, list_of, IsLawfulReading}
use Rattle.jwalk_model.specs.Listing.{after_reading, is_answered}

module _ {R E : Type 0} where
  pub NoDeeper-append : (depth : ℕ) (l m : List (Item R E)) → NoDeeper depth l → NoDeeper depth m → NoDeeper depth (l ++ m)
  NoDeeper-append depth [] m a b = b
  NoDeeper-append depth (Ok e ∷ l) m a b = (a.0, NoDeeper-append depth l m a.1 b)
  NoDeeper-append depth (Err f ∷ l) m a b = NoDeeper-append depth l m a b

  -- a list of one depth
  pub at_depth : (depth greatest : ℕ) (l : List (Item R E)) → depth ≤ greatest → AtDepth depth l → NoDeeper greatest l
  at_depth depth greatest [] few a = tt
  at_depth depth greatest (Ok e ∷ l) few a = (rw a.0 few, at_depth depth greatest l few a.1)
  at_depth depth greatest (Err f ∷ l) few a = at_depth depth greatest l few a

  -- no reading goes below the greatest depth
  of_list : (max_depth : ℕ) (s : Spec R) (l : List (Item R E)) → AtDepth (s.depth + 1) l → (max_depth ≤ s.depth → l ≡ []) → NoDeeper max_depth l
  of_list max_depth s l depth none =
      elim (leb_tells max_depth s.depth) [
        | inl deep ↦ rw (none deep.1) tt
        | inr higher ↦ at_depth (s.depth + 1) max_depth l (omega (arith, higher.1)) depth
      ]

  pub of_reading : (max_depth : ℕ) (s : Spec R) (outcome : Outcome R E) → IsLawfulReading max_depth s outcome → NoDeeper max_depth (list_of outcome)
  of_reading max_depth s (Err f) lawful = tt
  of_reading max_depth s (Ok r) lawful = of_list max_depth s r.list lawful.0 lawful.1

  -- a reading's error doesn't change an item's depth
  pub after : (greatest : ℕ) (outcome : Outcome R E) (x : Item R E) → NoDeeper greatest (x ∷ []) → NoDeeper greatest (after_reading outcome x ∷ [])
  after greatest (Ok r) x h = h
  after greatest (Err f) (Ok e) h = h
  after greatest (Err f) (Err g) h = h

  pub first_of : (greatest : ℕ) (x : Item R E) (l : List (Item R E)) → NoDeeper greatest (x ∷ l) → NoDeeper greatest (x ∷ []) × NoDeeper greatest l
  first_of greatest (Ok e) l h = ((h.0, tt), h.1)
  first_of greatest (Err f) l h = (tt, h)

  -- what is yielded from a least depth on is between the depths
  pub is_between : (min_depth max_depth : ℕ) (x : Item R E) → is_answered min_depth x ≡ true → NoDeeper max_depth (x ∷ []) → IsBetween min_depth max_depth x
  is_between min_depth max_depth (Ok e) kept h = (elim (leb_tells min_depth e.depth) [ inl deep ↦ deep.1 | inr higher ↦ let no : true ≡ false = sym kept ∙ higher.0 in cc ], h.0)
  is_between min_depth max_depth (Err f) kept h = tt
