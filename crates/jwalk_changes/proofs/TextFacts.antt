-- Path texts against the names in them.
use Rattle.std.proofs.Common.{◌≡◌, ◌≤◌, ◌<◌, ◌+◌, ℕ, zero, suc, Bool, true, false, not, cond, ◌&&◌, ◌==◌, List, [], ◌∷◌, ◌++◌, length, take, drop, Some, None, refl, sym, ap, ap₂, ◌∙◌, append_assoc, add-one, arith, subst}
use Rattle.std.specs.Prelude.{bytes_eq, slice_get, option_map, nat_lt, nat_eq}
use Rattle.std.specs.Option.{option_cmp, option_eq}
use Rattle.std.specs.List.{onto_first}
use Rattle.std.specs.declared.cmp.Ordering.{Ordering}
use Rattle.std.specs.declared.cmp.Ordering.TheVariants.{Less, Equal, Greater}
use Rattle.std.specs.Ordering.{nat_cmp, ordering_then, is_ne, MatchOrdering}
use Rattle.std.specs.Cmp.{nat_cmp_is}
use Rattle.std.specs.Cmp.Lexicographic.{same_text, slice_cmp}
use Rattle.std.specs.Str.{IsCharBoundary}
use Rattle.std.specs.Str.Pattern.{FindsTextPrefix, StripsPrefix}
use Rattle.std.proofs.lemmas.Cmp.{ranked}
use Rattle.std.proofs.lemmas.List.{append-nil, drop_all, length-drop, take-append-drop}
use Rattle.std.proofs.lemmas.Str.Pattern.{starts_text}
use Rattle.std.proofs.lemmas.Bool.Decides.{nat_tests}
use Rattle.jwalk_model.specs.Paths.{parts, slash}
use Rattle.jwalk_changes.specs.AtPath.{names, whole, rank, text_cmp, path_cmp, is_below}
use Rattle.jwalk_changes.proofs.OrderFacts.{Path, path_cmp_after}

-- A list that isn't empty.
IsMore : Path → Type 0
IsMore l = (n : List ℕ) × (ns : Path) × (l ≡ n ∷ ns)

onto_more : (c : ℕ) (l : Path) → IsMore (onto_first c l)
unfolding IsMore
onto_more c [] = (c ∷ [], [], refl)
onto_more c (n ∷ ns) = (c ∷ n, ns, refl)

choice_more : (b : Bool) (c : ℕ) (l : Path) → IsMore (cond b ([] ∷ l) (onto_first c l))
unfolding IsMore
choice_more true c l = ([], l, refl)
choice_more false c l = onto_more c l

parts_more : (s : List ℕ) → IsMore (parts s)
unfolding IsMore
parts_more [] = ([], [], refl)
parts_more (c ∷ cs) = choice_more (c == slash) c (parts cs)

-- what two bytes say of the order of ranks
cmp_less : (x y : ℕ) → x < y → nat_cmp x y ≡ Less
cmp_less x y lt = sym (nat_cmp_is x y Less lt)

cmp_greater : (x y : ℕ) → y < x → nat_cmp x y ≡ Greater
cmp_greater x y lt = sym (nat_cmp_is x y Greater lt)

next_by : (c d : ℕ) (o : Ordering) → MatchOrdering o (c < d) (c ≡ d) (d < c) → o ≡ nat_cmp (c + 1) (d + 1)
next_by c d Less is = nat_cmp_is (c + 1) (d + 1) Less (omega arith)
next_by c d Equal is = nat_cmp_is (c + 1) (d + 1) Equal (omega arith)
next_by c d Greater is = nat_cmp_is (c + 1) (d + 1) Greater (omega arith)

cmp_next : (c d : ℕ) → nat_cmp (c + 1) (d + 1) ≡ nat_cmp c d
cmp_next c d = sym (next_by c d (nat_cmp c d) (ranked c d (nat_cmp c d) refl))

then_assoc : (a b c : Ordering) → ordering_then a (ordering_then b c) ≡ ordering_then (ordering_then a b) c
then_assoc Less b c = refl
then_assoc Equal b c = refl
then_assoc Greater b c = refl

-- one byte more at the front of both
parts_step : (b e : Bool) (c d : ℕ) (m n : List ℕ) (ms ns : Path) (o : Ordering) → o ≡ path_cmp (m ∷ ms) (n ∷ ns)
    → ordering_then (nat_cmp (cond b 0 (c + 1)) (cond e 0 (d + 1))) o ≡ path_cmp (cond b ([] ∷ m ∷ ms) (onto_first c (m ∷ ms))) (cond e ([] ∷ n ∷ ns) (onto_first d (n ∷ ns)))
parts_step true true c d m n ms ns o is = is
parts_step true false c d m n ms ns o is = ap (λ r. ordering_then r o) (cmp_less 0 (d + 1) (omega arith))
parts_step false true c d m n ms ns o is = ap (λ r. ordering_then r o) (cmp_greater (c + 1) 0 (omega arith))
parts_step false false c d m n ms ns o is =
    ap₂ (λ r q. ordering_then r q) (cmp_next c d) is
    ∙ then_assoc (nat_cmp c d) (slice_cmp nat_cmp m n) (path_cmp ms ns)

step_by : (b e : Bool) (c d : ℕ) (ps qs : Path) (o : Ordering) → IsMore ps → IsMore qs → o ≡ path_cmp ps qs
    → ordering_then (nat_cmp (cond b 0 (c + 1)) (cond e 0 (d + 1))) o ≡ path_cmp (cond b ([] ∷ ps) (onto_first c ps)) (cond e ([] ∷ qs) (onto_first d qs))
unfolding IsMore
step_by b e c d ps qs o (m, ms, p) (n, ns, q) is =
    parts_step b e c d m n ms ns o (is ∙ ap₂ path_cmp p q)
    ∙ ap₂ (λ (l : Path) (k : Path). path_cmp (cond b ([] ∷ l) (onto_first c l)) (cond e ([] ∷ k) (onto_first d k))) (sym p) (sym q)

-- no text comes before that of a name that isn't empty
none_first : (e : Bool) (d : ℕ) (qs : Path) → IsMore qs → path_cmp ([] ∷ []) (cond e ([] ∷ qs) (onto_first d qs)) ≡ Less
unfolding IsMore
none_first true d qs (n, ns, q) = ap (λ (k : Path). path_cmp ([] ∷ []) ([] ∷ k)) q
none_first false d qs (n, ns, q) = ap (λ (k : Path). path_cmp ([] ∷ []) (onto_first d k)) q

none_last : (e : Bool) (d : ℕ) (qs : Path) → IsMore qs → path_cmp (cond e ([] ∷ qs) (onto_first d qs)) ([] ∷ []) ≡ Greater
unfolding IsMore
none_last true d qs (n, ns, q) = ap (λ (k : Path). path_cmp ([] ∷ k) ([] ∷ [])) q
none_last false d qs (n, ns, q) = ap (λ (k : Path). path_cmp (onto_first d k) ([] ∷ [])) q

parts_cmp : (s t : List ℕ) → text_cmp s t ≡ path_cmp (parts s) (parts t)
parts_cmp [] [] = refl
parts_cmp [] (d ∷ ds) = sym (none_first (d == slash) d (parts ds) (parts_more ds))
parts_cmp (c ∷ cs) [] = sym (none_last (c == slash) c (parts cs) (parts_more cs))
parts_cmp (c ∷ cs) (d ∷ ds) = step_by (c == slash) (d == slash) c d (parts cs) (parts ds) (text_cmp cs ds) (parts_more cs) (parts_more ds) (parts_cmp cs ds)

some_after : (l : Path) → IsMore l → path_cmp [] l ≡ Less
unfolding IsMore
some_after l (n, ns, is) = ap (λ (k : Path). path_cmp [] k) is

some_before : (l : Path) → IsMore l → path_cmp l [] ≡ Greater
unfolding IsMore
some_before l (n, ns, is) = ap (λ (k : Path). path_cmp k []) is

-- The order of texts is that of the names in them.
pub names_cmp : (s t : List ℕ) → text_cmp s t ≡ path_cmp (names s) (names t)
names_cmp [] [] = refl
names_cmp [] (d ∷ ds) = sym (some_after (parts (d ∷ ds)) (parts_more (d ∷ ds)))
names_cmp (c ∷ cs) [] = sym (some_before (parts (c ∷ cs)) (parts_more (c ∷ cs)))
names_cmp (c ∷ cs) (d ∷ ds) = parts_cmp (c ∷ cs) (d ∷ ds)

-- ---- a path in two parts

onto_append : (c : ℕ) (ps qs : Path) → IsMore ps → onto_first c (ps ++ qs) ≡ onto_first c ps ++ qs
unfolding IsMore
onto_append c ps qs (n, ns, is) = ap (λ (k : Path). onto_first c (k ++ qs)) is ∙ ap (λ (k : Path). onto_first c k ++ qs) (sym is)

choice_append : (b : Bool) (c : ℕ) (ps qs : Path) → IsMore ps → cond b ([] ∷ (ps ++ qs)) (onto_first c (ps ++ qs)) ≡ cond b ([] ∷ ps) (onto_first c ps) ++ qs
choice_append true c ps qs more = refl
choice_append false c ps qs more = onto_append c ps qs more

parts_append : (s t : List ℕ) → parts (s ++ slash ∷ t) ≡ parts s ++ parts t
parts_append [] t = refl
parts_append (c ∷ cs) t =
    ap (λ (k : Path). cond (c == slash) ([] ∷ k) (onto_first c k)) (parts_append cs t)
    ∙ choice_append (c == slash) c (parts cs) (parts t) (parts_more cs)

-- The names in the text of a path in two parts are those of both.
pub names_whole : (d n : List ℕ) → names (whole d n) ≡ names d ++ names n
names_whole [] n = refl
names_whole (c ∷ cs) [] = ap names (append-nil ((c ∷ cs) ++ []) ∙ append-nil (c ∷ cs)) ∙ sym (append-nil (names (c ∷ cs)))
names_whole (c ∷ cs) (e ∷ es) = ap names (append_assoc (c ∷ cs) (slash ∷ []) (e ∷ es)) ∙ parts_append (c ∷ cs) (e ∷ es)

-- so texts compare as paths do
pub whole_cmp : (d n e m : List ℕ) → text_cmp (whole d n) (whole e m) ≡ path_cmp (names d ++ names n) (names e ++ names m)
whole_cmp d n e m = names_cmp (whole d n) (whole e m) ∙ ap₂ path_cmp (names_whole d n) (names_whole e m)

pub back_cmp : (d e n m : List ℕ) → d ≡ e → text_cmp n m ≡ path_cmp (names d ++ names n) (names e ++ names m)
back_cmp d e n m same =
    names_cmp n m ∙ sym (path_cmp_after (names d) (names n) (names m)) ∙ ap (λ (k : List ℕ). path_cmp (names d ++ names n) (names k ++ names m)) same

-- a front, and what is behind it
pub strips : (front path rest : List ℕ) → StripsPrefix (FindsTextPrefix front) path rest → front ++ rest ≡ path
strips front path rest (n, finds, is, len) =
    ap₂ (λ l m. l ++ m) (same_text front (take (length front) path) (starts_text true front path (n, finds, subst (IsCharBoundary path) (sym finds.0) finds.2)))
    (is ∙ ap (λ (k : ℕ). drop k path) finds.0)
    ∙ take-append-drop (length front) path

-- the names in a text that begins with a directory's and a slash
pub names_behind : (d n rest path : List ℕ) → false ≡ (length d == 0) → false ≡ (length n == 0) → d ++ rest ≡ path → slash ∷ n ≡ rest → names path ≡ names d ++ names n
names_behind [] n rest path more some is same = absurd (cc more)
names_behind (c ∷ cs) [] rest path more some is same = absurd (cc some)
names_behind (c ∷ cs) (e ∷ es) rest path more some is same = ap names (sym is ∙ ap (λ l. (c ∷ cs) ++ l) (sym same)) ∙ parts_append (c ∷ cs) (e ∷ es)

-- ---- byte by byte

drop_none : (k : ℕ) → drop {A = ℕ} k [] ≡ []
drop_none zero = refl
drop_none (suc k) = refl

abbrev pub order_at : List ℕ → List ℕ → ℕ → Ordering
order_at s t k = option_cmp nat_cmp (option_map rank (slice_get s k)) (option_map rank (slice_get t k))

pub cmp_from : (k : ℕ) (s t : List ℕ) → text_cmp (drop k s) (drop k t) ≡ ordering_then (order_at s t k) (text_cmp (drop (suc k) s) (drop (suc k) t))
cmp_from zero [] [] = refl
cmp_from zero [] (d ∷ ds) = refl
cmp_from zero (c ∷ cs) [] = refl
cmp_from zero (c ∷ cs) (d ∷ ds) = refl
cmp_from (suc k) [] [] = refl
cmp_from (suc k) [] (d ∷ ds) = ap (λ (l : List ℕ). text_cmp l (drop k ds)) (sym (drop_none k)) ∙ cmp_from k [] ds ∙ ap (λ (l : List ℕ). ordering_then (order_at [] ds k) (text_cmp l (drop (suc k) ds))) (drop_none (suc k))
cmp_from (suc k) (c ∷ cs) [] = ap (λ (l : List ℕ). text_cmp (drop k cs) l) (sym (drop_none k)) ∙ cmp_from k cs [] ∙ ap (λ (l : List ℕ). ordering_then (order_at cs [] k) (text_cmp (drop (suc k) cs) l)) (drop_none (suc k))
cmp_from (suc k) (c ∷ cs) (d ∷ ds) = cmp_from k cs ds

-- the first bytes that differ decide
pub cmp_decided : (k : ℕ) (s t : List ℕ) (o : Ordering) → text_cmp s t ≡ text_cmp (drop k s) (drop k t) → o ≡ order_at s t k → is_ne o ≡ true → o ≡ text_cmp s t
cmp_decided k s t o so_far is not = by o is not ∙ sym (so_far ∙ cmp_from k s t)
  where
    by : (o : Ordering) → o ≡ order_at s t k → is_ne o ≡ true → o ≡ ordering_then (order_at s t k) (text_cmp (drop (suc k) s) (drop (suc k) t))
    by Less is not = ap (λ r. ordering_then r (text_cmp (drop (suc k) s) (drop (suc k) t))) is
    by Equal is not = absurd (cc not)
    by Greater is not = ap (λ r. ordering_then r (text_cmp (drop (suc k) s) (drop (suc k) t))) is

pub cmp_on : (k : ℕ) (s t : List ℕ) (o : Ordering) → text_cmp s t ≡ text_cmp (drop k s) (drop k t) → o ≡ order_at s t k → is_ne o ≡ false → text_cmp s t ≡ text_cmp (drop (k + 1) s) (drop (k + 1) t)
cmp_on k s t o so_far is same =
    so_far ∙ cmp_from k s t
    ∙ ap (λ r. ordering_then r (text_cmp (drop (suc k) s) (drop (suc k) t))) (sym is ∙ equal_by o same)
    ∙ ap (λ (j : ℕ). text_cmp (drop j s) (drop j t)) (sym (add-one k))
  where
    equal_by : (o : Ordering) → is_ne o ≡ false → o ≡ Equal
    equal_by Less is = absurd (cc is)
    equal_by Equal is = refl
    equal_by Greater is = absurd (cc is)

less_than : (l : List ℕ) → 0 < length l → text_cmp [] l ≡ Less
less_than [] lt = absurd (omega arith)
less_than (c ∷ cs) lt = refl

-- at the end of the first the lengths decide
pub cmp_longer : (k : ℕ) (s t : List ℕ) → text_cmp s t ≡ text_cmp (drop k s) (drop k t) → k ≡ length s → k < length t → Less ≡ text_cmp s t
cmp_longer k s t so_far at lt =
    sym (so_far ∙ ap (λ (l : List ℕ). text_cmp l (drop k t)) (drop_all k s (omega arith)) ∙ less_than (drop k t) (omega (arith, length-drop k t)))

pub cmp_as_long : (k : ℕ) (s t : List ℕ) → text_cmp s t ≡ text_cmp (drop k s) (drop k t) → k ≡ length s → length t ≤ k → Equal ≡ text_cmp s t
cmp_as_long k s t so_far at le = sym (so_far ∙ ap₂ text_cmp (drop_all k s (omega arith)) (drop_all k t le))

-- ---- below a place

-- whether the second text has the first, then a slash
abbrev pub has_then_slash : List ℕ → List ℕ → Bool
has_then_slash [] [] = false
has_then_slash [] (d ∷ ds) = d == slash
has_then_slash (c ∷ cs) [] = false
has_then_slash (c ∷ cs) (d ∷ ds) = (c == d) && has_then_slash cs ds

none_below : (b : Bool) (c : ℕ) (ps : Path) → IsMore ps → is_below (cond b ([] ∷ ps) (onto_first c ps)) ([] ∷ []) ≡ false
unfolding IsMore
none_below true c ps (n, ns, is) = ap (λ (k : Path). is_below ([] ∷ k) ([] ∷ [])) is
none_below false c ps (n, ns, is) = ap (λ (k : Path). is_below (onto_first c k) ([] ∷ [])) is

below_none : (b : Bool) (d : ℕ) (qs : Path) → IsMore qs → is_below ([] ∷ []) (cond b ([] ∷ qs) (onto_first d qs)) ≡ b
unfolding IsMore
below_none true d qs (n, ns, is) = ap (λ (k : Path). is_below ([] ∷ []) ([] ∷ k)) is
below_none false d qs (n, ns, is) = ap (λ (k : Path). is_below ([] ∷ []) (onto_first d k)) is

and_assoc : (a b c : Bool) → (a && (b && c)) ≡ ((a && b) && c)
and_assoc true b c = refl
and_assoc false b c = refl

both_slashes : (c d : ℕ) → (c == slash) ≡ true → (d == slash) ≡ true → (c == d) ≡ true
both_slashes c d p q = grind (arith, nat_tests)

one_slash : (c d : ℕ) → (c == slash) ≡ true → (d == slash) ≡ false → (c == d) ≡ false
one_slash c d p q = grind (arith, nat_tests)

other_slash : (c d : ℕ) → (c == slash) ≡ false → (d == slash) ≡ true → (c == d) ≡ false
other_slash c d p q = grind (arith, nat_tests)

below_step : (b e : Bool) (c d : ℕ) (m n : List ℕ) (ms ns : Path) → (c == slash) ≡ b → (d == slash) ≡ e
    → is_below (cond b ([] ∷ m ∷ ms) (onto_first c (m ∷ ms))) (cond e ([] ∷ n ∷ ns) (onto_first d (n ∷ ns))) ≡ ((c == d) && is_below (m ∷ ms) (n ∷ ns))
below_step true true c d m n ms ns p q = ap (λ r. r && is_below (m ∷ ms) (n ∷ ns)) (sym (both_slashes c d p q))
below_step true false c d m n ms ns p q = ap (λ r. r && is_below (m ∷ ms) (n ∷ ns)) (sym (one_slash c d p q))
below_step false true c d m n ms ns p q = ap (λ r. r && is_below (m ∷ ms) (n ∷ ns)) (sym (other_slash c d p q))
below_step false false c d m n ms ns p q = sym (and_assoc (c == d) (bytes_eq m n) (is_below ms ns))

below_by : (c d : ℕ) (ps qs : Path) → IsMore ps → IsMore qs
    → is_below (cond (c == slash) ([] ∷ ps) (onto_first c ps)) (cond (d == slash) ([] ∷ qs) (onto_first d qs)) ≡ ((c == d) && is_below ps qs)
unfolding IsMore
below_by c d ps qs (m, ms, p) (n, ns, q) =
    ap₂ (λ (l : Path) (k : Path). is_below (cond (c == slash) ([] ∷ l) (onto_first c l)) (cond (d == slash) ([] ∷ k) (onto_first d k))) p q
    ∙ below_step (c == slash) (d == slash) c d m n ms ns refl refl
    ∙ ap₂ (λ (l : Path) (k : Path). (c == d) && is_below l k) (sym p) (sym q)

parts_below : (s t : List ℕ) → is_below (parts s) (parts t) ≡ has_then_slash s t
parts_below [] [] = refl
parts_below [] (d ∷ ds) = below_none (d == slash) d (parts ds) (parts_more ds)
parts_below (c ∷ cs) [] = none_below (c == slash) c (parts cs) (parts_more cs)
parts_below (c ∷ cs) (d ∷ ds) = below_by c d (parts cs) (parts ds) (parts_more cs) (parts_more ds) ∙ ap (λ r. (c == d) && r) (parts_below cs ds)

not_below : (l : Path) → IsMore l → is_below l [] ≡ false
unfolding IsMore
not_below l (n, ns, is) = ap (λ (k : Path). is_below k []) is

all_below : (l : Path) → IsMore l → is_below [] l ≡ true
unfolding IsMore
all_below l (n, ns, is) = ap (λ (k : Path). is_below [] k) is

-- below a place that isn't the root
pub names_below : (s t : List ℕ) → 0 < length s → is_below (names s) (names t) ≡ has_then_slash s t
names_below [] t lt = absurd (omega arith)
names_below (c ∷ cs) [] lt = not_below (parts (c ∷ cs)) (parts_more (c ∷ cs))
names_below (c ∷ cs) (d ∷ ds) lt = parts_below (c ∷ cs) (d ∷ ds)

is_some : (n : ℕ) → nat_lt 0 (suc n) ≡ true
is_some n = grind (arith, nat_tests)

-- below the root
pub names_below_root : (s t : List ℕ) → length s ≡ 0 → is_below (names s) (names t) ≡ nat_lt 0 (length t)
names_below_root [] [] at = refl
names_below_root [] (d ∷ ds) at = all_below (parts (d ∷ ds)) (parts_more (d ∷ ds)) ∙ sym (is_some (length ds))
names_below_root (c ∷ cs) t at = absurd (omega arith)

below_from : (k : ℕ) (s t : List ℕ) → k < length s → has_then_slash (drop k s) (drop k t) ≡ (option_eq nat_eq (slice_get s k) (slice_get t k) && has_then_slash (drop (suc k) s) (drop (suc k) t))
below_from k [] t lt = absurd (omega arith)
below_from zero (c ∷ cs) [] lt = refl
below_from zero (c ∷ cs) (d ∷ ds) lt = refl
below_from (suc k) (c ∷ cs) [] lt =
    ap (λ (l : List ℕ). has_then_slash (drop k cs) l) (sym (drop_none k)) ∙ below_from k cs [] (omega arith)
    ∙ ap (λ (l : List ℕ). option_eq nat_eq (slice_get cs k) None && has_then_slash (drop (suc k) cs) l) (drop_none (suc k))
below_from (suc k) (c ∷ cs) (d ∷ ds) lt = below_from k cs ds (omega arith)

slash_at : (k : ℕ) (t : List ℕ) → has_then_slash [] (drop k t) ≡ option_eq nat_eq (slice_get t k) (Some slash)
slash_at zero [] = refl
slash_at zero (d ∷ ds) = refl
slash_at (suc k) [] = refl
slash_at (suc k) (d ∷ ds) = slash_at k ds

not_true : (b : Bool) → not b ≡ true → b ≡ false
not_true true is = absurd (cc is)
not_true false is = refl

not_false : (b : Bool) → not b ≡ false → b ≡ true
not_false true is = refl
not_false false is = absurd (cc is)

module _ (k : ℕ) (s t : List ℕ) (so_far : has_then_slash s t ≡ has_then_slash (drop k s) (drop k t)) where
  pub below_differs : k < length s → not (option_eq nat_eq (slice_get s k) (slice_get t k)) ≡ true → false ≡ is_below (names s) (names t)
  below_differs lt other =
      sym (names_below s t (omega arith) ∙ so_far ∙ below_from k s t lt ∙ ap (λ b. b && has_then_slash (drop (suc k) s) (drop (suc k) t)) (not_true (option_eq nat_eq (slice_get s k) (slice_get t k)) other))

  pub below_on : k < length s → not (option_eq nat_eq (slice_get s k) (slice_get t k)) ≡ false → has_then_slash s t ≡ has_then_slash (drop (k + 1) s) (drop (k + 1) t)
  below_on lt same =
      so_far ∙ below_from k s t lt ∙ ap (λ b. b && has_then_slash (drop (suc k) s) (drop (suc k) t)) (not_false (option_eq nat_eq (slice_get s k) (slice_get t k)) same)
      ∙ ap (λ (j : ℕ). has_then_slash (drop j s) (drop j t)) (sym (add-one k))

  pub below_ends : (j : ℕ) → j ≡ k → 0 < length s → k ≡ length s → option_eq nat_eq (slice_get t j) (Some slash) ≡ is_below (names s) (names t)
  below_ends j same lt at =
      ap (λ (i : ℕ). option_eq nat_eq (slice_get t i) (Some slash)) same
      ∙ sym (names_below s t lt ∙ so_far ∙ ap (λ (l : List ℕ). has_then_slash l (drop k t)) (drop_all k s (omega arith)) ∙ slash_at k t)
