-- Each file's size counts at the first of its names.
use Rattle.std.proofs.Common.{◌≡◌, ◌∙◌, ◌+◌, ℕ, Bool, true, false, not, ◌||◌, List, [], ◌∷◌, ◌++◌, Option, Some, None, Ok, Err, refl, sym, ap, ap₂}
use Rattle.std.specs.Prelude.{if◌then◌else◌}
use Rattle.std.specs.List.{list_any}
use Rattle.jwalk.specs.jwalk_model.declared.metadata.Identity.{Identity}
use Rattle.jwalk.specs.jwalk_model.Metadata.{same_file}
use Rattle.jwalk.specs.jwalk_model.Entry.{Entry, Item}
use Rattle.jwalk_subtotals.specs.Counted.{counted_once, is_among, is_repeated, size_kept, weighed, with_file}
use Rattle.jwalk_subtotals.specs.Firsts.{RootsAreFirsts, are_same, first_sizes, is_name_of}
use Rattle.jwalk_subtotals.specs.Subtotals.{total}
use Rattle.jwalk_subtotals.specs.declared.options.SubtotalOptions.{SubtotalOptions}
use Rattle.jwalk_subtotals.specs.declared.subtotal.Subtotal.{Subtotal}
use Rattle.jwalk_subtotals.proofs.RootFacts.{roots_are_all}

or_false : (b : Bool) → (b || false) ≡ b
or_false true = refl
or_false false = refl

or_turned : (a b : Bool) → (a || b) ≡ (b || a)
or_turned true true = refl
or_turned true false = refl
or_turned false true = refl
or_turned false false = refl

or_grouped : (a b c : Bool) → ((a || b) || c) ≡ (a || (b || c))
or_grouped true b c = refl
or_grouped false b c = refl

any_more : {X : Type 0} (test : X → Bool) (xs : List X) (x : X) → list_any test (xs ++ x ∷ []) ≡ (list_any test xs || test x)
any_more test [] x = or_false (test x)
any_more test (y ∷ xs) x = ap (λ b. test y || b) (any_more test xs x) ∙ sym (or_grouped (test y) (list_any test xs) (test x))

repeated_more : (files : List Identity) (one other : Option Identity) → is_repeated (with_file other files) one ≡ (is_repeated files one || are_same one other)
repeated_more files None None = refl
repeated_more files None (Some j) = refl
repeated_more files (Some i) None = sym (or_false (is_among files i))
repeated_more files (Some i) (Some j) = or_turned (same_file i j) (is_among files i)

size_turned : (b : Bool) (n : ℕ) → (if b then 0 else n) ≡ (if not b then n else 0)
size_turned true n = refl
size_turned false n = refl

module _ {R E : Type 0} (o : SubtotalOptions) where
  -- The files are those of the answers before.
  abbrev AreOf : List Identity → List (Item R E) → Type 0
  AreOf files before = (e : Entry R E) → is_repeated files (counted_once o e) ≡ list_any (is_name_of o e) before

  sizes_counted : (files : List Identity) (before l : List (Item R E)) → AreOf files before → (total (weighed o files l)).bytes ≡ first_sizes o before l
  sizes_counted files before [] are = refl
  sizes_counted files before (Err f ∷ l) are =
      ap (λ (n : ℕ). 0 + n) (sizes_counted files (before ++ Err f ∷ []) l (λ e. are e ∙ sym (or_false (list_any (is_name_of o e) before)) ∙ sym (any_more (is_name_of o e) before (Err f))))
  sizes_counted files before (Ok x ∷ l) are =
      ap₂ (λ (a b : ℕ). a + b)
      (ap (λ (b : Bool). if b then 0 else size_kept o.apparent x.seen) (are x) ∙ size_turned (list_any (is_name_of o x) before) (size_kept o.apparent x.seen))
      (sizes_counted (with_file (counted_once o x) files) (before ++ Ok x ∷ []) l
      (λ e. repeated_more files (counted_once o e) (counted_once o x) ∙ ap (λ b. b || is_name_of o e (Ok x)) (are e) ∙ sym (any_more (is_name_of o e) before (Ok x))))

none_repeated : (one : Option Identity) → is_repeated [] one ≡ false
none_repeated None = refl
none_repeated (Some i) = refl

pub roots_are_firsts : {R E : Type 0} → RootsAreFirsts R E
roots_are_firsts o l = ap (λ (t : Subtotal). t.bytes) (roots_are_all (weighed o [] l)) ∙ sizes_counted o [] [] l (λ e. none_repeated (counted_once o e))
