-- The names of a path that is put together.
use Prim.Native.Nat.{zero}
use Rattle.std.proofs.Common.{◌≡◌, ◌≢◌, ◌∙◌, ◌≤◌, ◌+◌, ℕ, T, suc, Bool, true, false, cond, List, [], ◌∷◌, ◌++◌, length, drop, ap, refl, sym, arith, append_assoc, append-nil, length-append}
use Rattle.std.specs.List.{filter}
use Rattle.std.specs.Prelude.{◌&&◌, ◌==◌, not}
use Rattle.std.specs.Path.{HasNoSlash, has_no_slash}
use Rattle.jwalk_model.specs.Paths.{join, starts_with_slash, with_slash}
use Rattle.jwalk_model.specs.PathTexts.{IsName}
use Rattle.jwalk_ignore.specs.Pattern.Names.{is_name, names_of}
use Rattle.jwalk_ignore.specs.Pattern.Pieces.{is_byte, onto_first, pieces}

abbrev IsSome : List (List ℕ) → Type 0
IsSome pieces = (first : List ℕ) × (others : List (List ℕ)) × (pieces ≡ first ∷ others)

onto_some : (c : ℕ) (ps : List (List ℕ)) → IsSome ps → IsSome (onto_first c ps)
onto_some c [] h = (c ∷ [], [], refl)
onto_some c (p ∷ ps) h = (c ∷ p, ps, refl)

piece_by : (c : ℕ) (cs : List ℕ) (b : Bool) → IsSome (pieces 47 cs) → IsSome (cond b ([] ∷ pieces 47 cs) (onto_first c (pieces 47 cs)))
piece_by c cs true h = ([], pieces 47 cs, refl)
piece_by c cs false h = onto_some c (pieces 47 cs) h

some_piece : (text : List ℕ) → IsSome (pieces 47 text)
some_piece [] = ([], [], refl)
some_piece (c ∷ cs) = piece_by c cs (is_byte 47 c) (some_piece cs)

onto_front : (c : ℕ) (ps qs : List (List ℕ)) → IsSome ps → onto_first c (ps ++ qs) ≡ onto_first c ps ++ qs
onto_front c [] qs (first, others, is) = absurd (cc)
onto_front c (p ∷ ps) qs h = refl

pieces_by : (c : ℕ) (a b : List ℕ) (t : Bool) → pieces 47 (a ++ 47 ∷ b) ≡ pieces 47 a ++ pieces 47 b
    → cond t ([] ∷ pieces 47 (a ++ 47 ∷ b)) (onto_first c (pieces 47 (a ++ 47 ∷ b))) ≡ cond t ([] ∷ pieces 47 a) (onto_first c (pieces 47 a)) ++ pieces 47 b
pieces_by c a b true rest = ap (λ (ps : List (List ℕ)). [] ∷ ps) rest
pieces_by c a b false rest = ap (onto_first c) rest ∙ onto_front c (pieces 47 a) (pieces 47 b) (some_piece a)

pieces_of : (a b : List ℕ) → pieces 47 (a ++ 47 ∷ b) ≡ pieces 47 a ++ pieces 47 b
pieces_of [] b = refl
pieces_of (c ∷ a) b = pieces_by c a b (is_byte 47 c) (pieces_of a b)

filter_by : (p : List ℕ) (ps qs : List (List ℕ)) (t : Bool) → filter is_name (ps ++ qs) ≡ filter is_name ps ++ filter is_name qs
    → cond t (p ∷ filter is_name (ps ++ qs)) (filter is_name (ps ++ qs)) ≡ cond t (p ∷ filter is_name ps) (filter is_name ps) ++ filter is_name qs
filter_by p ps qs true rest = ap (λ (l : List (List ℕ)). p ∷ l) rest
filter_by p ps qs false rest = rest

filter_both : (ps qs : List (List ℕ)) → filter is_name (ps ++ qs) ≡ filter is_name ps ++ filter is_name qs
filter_both [] qs = refl
filter_both (p ∷ ps) qs = filter_by p ps qs (is_name p) (filter_both ps qs)

-- the names before a slash, and those behind it
pub names_both : (a b : List ℕ) → names_of (a ++ 47 ∷ b) ≡ names_of a ++ names_of b
names_both a b = ap (filter is_name) (pieces_of a b) ∙ filter_both (pieces 47 a) (pieces 47 b)

pub drop_front : (b : ℕ) (s t : List ℕ) → b ≤ length s → drop b (s ++ t) ≡ drop b s ++ t
drop_front zero s t less = refl
drop_front (suc b) [] t less = absurd (omega arith)
drop_front (suc b) (c ∷ s) t less = drop_front b s t (omega arith)

-- what is dropped is before the slash
pub names_behind : (b : ℕ) (s rest : List ℕ) → b ≤ length s → names_of (drop b (s ++ 47 ∷ rest)) ≡ names_of (drop b s) ++ names_of rest
names_behind b s rest less = ap names_of (drop_front b s (47 ∷ rest) less) ∙ names_both (drop b s) rest

-- ---- one name more

name_by : (c : ℕ) (cs : List ℕ) (b : Bool) → T (not b && has_no_slash cs) → (HasNoSlash cs → pieces 47 cs ≡ cs ∷ []) → cond b ([] ∷ pieces 47 cs) (onto_first c (pieces 47 cs)) ≡ (c ∷ cs) ∷ []
name_by c cs true none rest = absurd none
name_by c cs false none rest = ap (onto_first c) (rest none)

name_pieces : (n : List ℕ) → HasNoSlash n → pieces 47 n ≡ n ∷ []
name_pieces [] none = refl
name_pieces (c ∷ cs) none = name_by c cs (is_byte 47 c) none (name_pieces cs)

one_piece : (n : List ℕ) → n ≢ [] → filter is_name (n ∷ []) ≡ n ∷ []
one_piece [] some = absurd (some refl)
one_piece (c ∷ cs) some = refl

-- a name is the one name of itself
pub one_name : (n : List ℕ) → IsName n → names_of n ≡ n ∷ []
one_name n is = ap (filter is_name) (name_pieces n is.no_slash) ∙ one_piece n is.some

-- a path with a name more: what was behind a beginning has this name more
abbrev pub Goes : List ℕ → List ℕ → List ℕ → Type 0
Goes p n q = (b : ℕ) → b ≤ length p → (b ≤ length q) × (names_of (drop b q) ≡ names_of (drop b p) ++ n ∷ [])

-- behind a slash that is put between
pub goes_behind : (p n : List ℕ) → names_of n ≡ n ∷ [] → Goes p n (p ++ 47 ∷ n)
goes_behind p n one = λ b less. (rw (length-append p (47 ∷ n)) (omega arith), names_behind b p n less ∙ ap (λ (l : List (List ℕ)). names_of (drop b p) ++ l) one)

ended : (b : ℕ) (u n : List ℕ) → names_of n ≡ n ∷ [] → b ≤ length u + 1 → names_of (drop b (u ++ 47 ∷ n)) ≡ names_of (drop b (u ++ 47 ∷ [])) ++ n ∷ []
ended zero u n one less =
    names_both u n ∙ ap (λ (l : List (List ℕ)). names_of u ++ l) one
    ∙ ap (λ (l : List (List ℕ)). l ++ n ∷ []) (sym (names_both u [] ∙ append-nil (names_of u)))
ended (suc zero) [] n one less = one
ended (suc (suc b)) [] n one less = absurd (omega arith)
ended (suc b) (c ∷ u) n one less = ended b u n one (omega arith)

-- behind a slash that the path ends with
pub goes_on : (u n : List ℕ) → names_of n ≡ n ∷ [] → Goes (u ++ 47 ∷ []) n ((u ++ 47 ∷ []) ++ n)
goes_on u n one = λ b less.
    let short : b ≤ length u + 1 = rw (sym (length-append u (47 ∷ []))) less in (
      rw (length-append (u ++ 47 ∷ []) n) (omega (arith, less)),
      ap (λ (l : List ℕ). names_of (drop b l)) (append_assoc u (47 ∷ []) n) ∙ ended b u n one short,
    )

-- ---- a name behind a path

not_slash : (n : List ℕ) → IsName n → starts_with_slash n ≡ false
not_slash [] is = absurd (is.some refl)
not_slash (c ∷ cs) is = first_by c cs (c == 47) is.no_slash
  where
    first_by : (c : ℕ) (cs : List ℕ) (b : Bool) → T (not b && has_no_slash cs) → b ≡ false
    first_by c cs true none = absurd none
    first_by c cs false none = refl

-- a slash is between, if the path ends with none
pub joined : (d n : List ℕ) → IsName n → join d n ≡ with_slash d ++ n
joined d n is = ap (λ (b : Bool). cond b n (with_slash d ++ n)) (not_slash n is)
