-- The order of paths.
use Rattle.std.proofs.Common.{◌≡◌, ℕ, Bool, true, false, ◌&&◌, List, [], ◌∷◌, ◌++◌, refl, sym, ap, ◌∙◌}
use Rattle.std.specs.Prelude.{bytes_eq}
use Rattle.std.specs.declared.cmp.Ordering.{Ordering}
use Rattle.std.specs.declared.cmp.Ordering.TheVariants.{Less, Equal, Greater}
use Rattle.std.specs.Ordering.{nat_cmp, ordering_then, ordering_reverse, is_lt, is_eq}
use Rattle.std.specs.Cmp.{IsTotalOrder}
use Rattle.std.specs.Cmp.Lexicographic.{slice_cmp, lists_total, nat_list_cmp_total}
use Rattle.std.proofs.lemmas.Cmp.{tied_itself}
use Rattle.std.proofs.lemmas.Map.Text.{is_eq-slice_cmp}
use Rattle.std.proofs.lemmas.Slice.Eq.{bytes_eq-Decides}
use Rattle.jwalk_changes.specs.AtPath.{path_cmp, is_before, is_same, is_below}

abbrev pub Path : Type 0
Path = List (List ℕ)

pub path_total : IsTotalOrder path_cmp
path_total = lists_total nat_list_cmp_total

pub path_cmp_itself : (p : Path) → path_cmp p p ≡ Equal
path_cmp_itself p = tied_itself path_total p

pub name_cmp_itself : (n : List ℕ) → slice_cmp nat_cmp n n ≡ Equal
name_cmp_itself n = tied_itself nat_list_cmp_total n

-- names at the front that are the same don't count
pub path_cmp_after : (p q r : Path) → path_cmp (p ++ q) (p ++ r) ≡ path_cmp q r
path_cmp_after [] q r = refl
path_cmp_after (n ∷ ns) q r = ap (λ o. ordering_then o (path_cmp (ns ++ q) (ns ++ r))) (name_cmp_itself n) ∙ path_cmp_after ns q r

equal_by : (o : Ordering) → is_eq o ≡ true → o ≡ Equal
equal_by Less is = absurd (cc is)
equal_by Equal is = refl
equal_by Greater is = absurd (cc is)

-- names that compare as equal are the same
name_is : (m n : List ℕ) → slice_cmp nat_cmp m n ≡ Equal → m ≡ n
name_is m n is = (bytes_eq-Decides m n).0 (sym (is_eq-slice_cmp m n) ∙ ap is_eq is)

first_equal : (o r : Ordering) → ordering_then o r ≡ Equal → o ≡ Equal
first_equal Less r is = absurd (cc is)
first_equal Equal r is = refl
first_equal Greater r is = absurd (cc is)

then_equal : (o r : Ordering) → ordering_then o r ≡ Equal → r ≡ Equal
then_equal Less r is = absurd (cc is)
then_equal Equal r is = is
then_equal Greater r is = absurd (cc is)

path_equal : (p q : Path) → path_cmp p q ≡ Equal → p ≡ q
path_equal [] [] is = refl
path_equal [] (n ∷ ns) is = absurd (cc is)
path_equal (m ∷ ms) [] is = absurd (cc is)
path_equal (m ∷ ms) (n ∷ ns) is =
    let first : m ≡ n = name_is m n (first_equal (slice_cmp nat_cmp m n) (path_cmp ms ns) is) in
    let more : ms ≡ ns = path_equal ms ns (then_equal (slice_cmp nat_cmp m n) (path_cmp ms ns) is) in
    cc

-- the test of two paths tells whether they are one
pub same_path : (p q : Path) → is_same p q ≡ true → p ≡ q
same_path p q is = path_equal p q (equal_by (path_cmp p q) is)

pub same_itself : (p : Path) → is_same p p ≡ true
same_itself p = ap is_eq (path_cmp_itself p)

less_by : (o : Ordering) → is_lt o ≡ true → o ≡ Less
less_by Less is = refl
less_by Equal is = absurd (cc is)
less_by Greater is = absurd (cc is)

pub before_trans : (p q r : Path) → is_before p q ≡ true → is_before q r ≡ true → is_before p r ≡ true
before_trans p q r first second = ap is_lt (path_total.trans p q r (less_by (path_cmp p q) first) (less_by (path_cmp q r) second))

-- what comes before is another
pub before_is_other : (p q : Path) → is_before p q ≡ true → is_same p q ≡ false
before_is_other p q is = ap is_eq (less_by (path_cmp p q) is)

pub before_is_other_back : (p q : Path) → is_before p q ≡ true → is_same q p ≡ false
before_is_other_back p q is = ap is_eq (path_total.antisymm q p ∙ ap ordering_reverse (less_by (path_cmp p q) is))

-- of two different paths one comes before the other
pub not_before : (p q : Path) → is_before p q ≡ false → is_same p q ≡ false → is_before q p ≡ true
not_before p q before same = ap is_lt (path_total.antisymm q p ∙ ap ordering_reverse (greater_by (path_cmp p q) before same))
  where
    greater_by : (o : Ordering) → is_lt o ≡ false → is_eq o ≡ false → o ≡ Greater
    greater_by Less lt eq = absurd (cc lt)
    greater_by Equal lt eq = absurd (cc eq)
    greater_by Greater lt eq = refl

-- ---- below a place

and_first : (a b : Bool) → (a && b) ≡ true → a ≡ true
and_first true b is = refl
and_first false b is = is

and_second : (a b : Bool) → (a && b) ≡ true → b ≡ true
and_second true b is = is
and_second false b is = absurd (cc is)

-- what is below a place comes after it
pub below_is_after : (u p : Path) → is_below u p ≡ true → is_before u p ≡ true
below_is_after [] [] is = absurd (cc is)
below_is_after [] (n ∷ ns) is = refl
below_is_after (m ∷ ms) [] is = absurd (cc is)
below_is_after (m ∷ ms) (n ∷ ns) is =
    let same : slice_cmp nat_cmp m n ≡ Equal = equal_by (slice_cmp nat_cmp m n) (is_eq-slice_cmp m n ∙ and_first (bytes_eq m n) (is_below ms ns) is) in
    ap (λ o. is_lt (ordering_then o (path_cmp ms ns))) same ∙ below_is_after ms ns (and_second (bytes_eq m n) (is_below ms ns) is)

-- one name further
between_step : (m l n : List ℕ) (ms ls ns : Path) (o : Ordering) → m ≡ l → slice_cmp nat_cmp m n ≡ o
    → is_lt (ordering_then o (path_cmp ms ns)) ≡ true → is_lt (ordering_then o (path_cmp ls ns)) ≡ false → (is_before ms ns ≡ true → is_before ls ns ≡ false → is_below ms ns ≡ true)
    → (bytes_eq m n && is_below ms ns) ≡ true
between_step m l n ms ls ns Less same e after upto on = absurd (cc upto)
between_step m l n ms ls ns Equal same e after upto on = ap (λ b. b && is_below ms ns) (sym (is_eq-slice_cmp m n) ∙ ap is_eq e) ∙ on after upto
between_step m l n ms ls ns Greater same e after upto on = absurd (cc after)

-- What lies between a place and something below it is below it.
pub below_between : (u h p : Path) → is_below u p ≡ true → is_before u h ≡ true → is_before p h ≡ false → is_below u h ≡ true
below_between [] [] p is after upto = absurd (cc after)
below_between [] (n ∷ ns) p is after upto = refl
below_between (m ∷ ms) h [] is after upto = absurd (cc is)
below_between (m ∷ ms) [] (l ∷ ls) is after upto = absurd (cc after)
below_between (m ∷ ms) (n ∷ ns) (l ∷ ls) is after upto =
    let same : m ≡ l = (bytes_eq-Decides m l).0 (and_first (bytes_eq m l) (is_below ms ls) is) in
    between_step m l n ms ls ns (slice_cmp nat_cmp m n) same refl after
    (ap (λ (k : List ℕ). is_lt (ordering_then (slice_cmp nat_cmp k n) (path_cmp ls ns))) same ∙ upto)
    (below_between ms ns ls (and_second (bytes_eq m l) (is_below ms ls) is))
