-- The names of a path, the last first.
use Rattle.std.proofs.Common.{◌≡◌, ◌≢◌, ◌∙◌, ◌<◌, ◌≤◌, ◌+◌, ℕ, Bool, true, false, cond, List, [], ◌∷◌, ◌++◌, length, get_or, take, drop, All, ap, subst, refl, sym, arith, length-drop, take-append-drop}
use Rattle.std.specs.List.{filter}
use Rattle.std.proofs.lemmas.Bool.{eq-eqb, ne_eqb}
use Rattle.std.proofs.lemmas.List.{drop_more, get_or-drop}
use Rattle.std.proofs.lemmas.List.Elements.{All-head, All-tail, All-from_get_or, filter-append}
use Rattle.jwalk_ignore_rules.specs.Pattern.Names.{is_name, names_of}
use Rattle.jwalk_ignore_rules.specs.Pattern.Pieces.{is_byte, onto_first, pieces}

-- a byte that isn't the one
abbrev IsNot : ℕ → ℕ → Type 0
IsNot own byte = byte ≢ own

onto_some : (c : ℕ) (first : List ℕ) (others more all : List (List ℕ)) → all ≡ first ∷ others → onto_first c (all ++ more) ≡ onto_first c all ++ more
onto_some c first others more all is = rw is refl

module _ (own : ℕ) where
  -- a text has a piece
  some_piece : (text : List ℕ) → (first : List ℕ) × (others : List (List ℕ)) × (pieces own text ≡ first ∷ others)
  some_piece [] = ([], [], refl)
  some_piece (c ∷ cs) = by_first (is_byte own c) refl (some_piece cs) where
    by_first : (b : Bool) → is_byte own c ≡ b → (first : List ℕ) × (others : List (List ℕ)) × (pieces own cs ≡ first ∷ others)
        → (first : List ℕ) × (others : List (List ℕ)) × (pieces own (c ∷ cs) ≡ first ∷ others)
    by_first true e rest = ([], pieces own cs, simp e)
    by_first false e (first, others, is) = (c ∷ first, others, simp (e, is))

  seam_step : (c : ℕ) (cs ys : List ℕ) (b : Bool) → is_byte own c ≡ b → pieces own (cs ++ own ∷ ys) ≡ pieces own cs ++ pieces own ys
      → pieces own (c ∷ cs ++ own ∷ ys) ≡ pieces own (c ∷ cs) ++ pieces own ys
  seam_step c cs ys true e rest = simp e (ap (λ (l : List (List ℕ)). [] ∷ l) rest)
  seam_step c cs ys false e rest =
      let some = some_piece cs in
      simp e (ap (onto_first c) rest ∙ onto_some c some.0 some.1 (pieces own ys) (pieces own cs) some.2)

  -- the pieces of two texts with that byte between them
  pieces-seam : (xs ys : List ℕ) → pieces own (xs ++ own ∷ ys) ≡ pieces own xs ++ pieces own ys
  pieces-seam [] ys = simp (eq-eqb own own refl)
  pieces-seam (c ∷ cs) ys = seam_step c cs ys (is_byte own c) refl (pieces-seam cs ys)

  -- a text without that byte is one piece
  one_piece : (text : List ℕ) → All (IsNot own) text → pieces own text ≡ text ∷ []
  one_piece [] none = refl
  one_piece (c ∷ cs) none = ap (λ (b : Bool). cond b ([] ∷ pieces own cs) (onto_first c (pieces own cs))) (ne_eqb c own (All-head (IsNot own) c cs none)) ∙ ap (onto_first c) (one_piece cs (All-tail (IsNot own) c cs none))

  -- what is behind a place has none of that byte
  none_behind : (text : List ℕ) (i : ℕ) → ((k : ℕ) → i ≤ k → k < length text → get_or text k 0 ≢ own) → All (IsNot own) (drop i text)
  none_behind text i after =
      All-from_get_or (IsNot own) (drop i text) 0 (λ k inside. subst (IsNot own) (sym (get_or-drop i text k 0)) (after (i + k) (omega arith) (omega (arith, length-drop i text))))

-- a path taken apart at its last slash
pub names_end : (path : List ℕ) (i : ℕ) → i < length path → get_or path i 0 ≡ 47 → ((k : ℕ) → i + 1 ≤ k → k < length path → get_or path k 0 ≢ 47)
    → names_of path ≡ names_of (take i path) ++ filter is_name (drop (i + 1) path ∷ [])
names_end path i inside here after =
    let around : path ≡ take i path ++ 47 ∷ drop (i + 1) path =
    sym (take-append-drop i path) ∙ ap (λ (l : List ℕ). take i path ++ l) (drop_more path i 0 inside ∙ ap (λ (b : ℕ). b ∷ drop (i + 1) path) here) in
    ap names_of around ∙ ap (filter is_name) (pieces-seam 47 (take i path) (drop (i + 1) path))
    ∙ filter-append is_name (pieces 47 (take i path)) (pieces 47 (drop (i + 1) path))
    ∙ ap (λ (l : List (List ℕ)). names_of (take i path) ++ filter is_name l) (one_piece 47 (drop (i + 1) path) (none_behind 47 path (i + 1) after))

-- a path without a slash
pub one_name : (path : List ℕ) → ((k : ℕ) → k < length path → get_or path k 0 ≢ 47) → names_of path ≡ filter is_name (path ∷ [])
one_name path none = ap (filter is_name) (one_piece 47 path (none_behind 47 path 0 (λ k from inside. none k inside)))

-- a text that ends with another byte than that, taken apart: the last piece ends with it
module _ (own last : ℕ) where
  abbrev EndsLast : List (List ℕ) → Type 0
  EndsLast parts = (others : List (List ℕ)) × (end : List ℕ) × (parts ≡ others ++ (end ++ last ∷ []) ∷ [])

  onto_ended : (c : ℕ) (parts : List (List ℕ)) → EndsLast parts → EndsLast (onto_first c parts)
  onto_ended c parts ([], end, is) = ([], c ∷ end, ap (onto_first c) is)
  onto_ended c parts (first ∷ others, end, is) = ((c ∷ first) ∷ others, end, ap (onto_first c) is)

  by_byte : (c : ℕ) (cs : List ℕ) (b : Bool) → is_byte own c ≡ b → EndsLast (pieces own cs) → EndsLast (pieces own (c ∷ cs))
  by_byte c cs true e (others, end, is) = ([] ∷ others, end, simp e (ap (λ (l : List (List ℕ)). [] ∷ l) is))
  by_byte c cs false e ends = subst EndsLast (sym (ap (λ (b : Bool). cond b ([] ∷ pieces own cs) (onto_first c (pieces own cs))) e)) (onto_ended c (pieces own cs) ends)

  last_piece : last ≢ own → (text : List ℕ) → EndsLast (pieces own (text ++ last ∷ []))
  last_piece other [] = ([], [], ap (λ (b : Bool). cond b ([] ∷ [] ∷ []) ((last ∷ []) ∷ [])) (ne_eqb last own other))
  last_piece other (c ∷ cs) = by_byte c (cs ++ last ∷ []) (is_byte own c) refl (last_piece other cs)

-- a name that ends with a byte is a name
one_kept : (end : List ℕ) (last : ℕ) → filter is_name ((end ++ last ∷ []) ∷ []) ≡ (end ++ last ∷ []) ∷ []
one_kept [] last = refl
one_kept (c ∷ cs) last = refl

-- two lists that are the same have the same last item
same_last : {X : Type 0} (xs ys : List X) (x y : X) → xs ++ x ∷ [] ≡ ys ++ y ∷ [] → x ≡ y
same_last [] [] x y is = cc
same_last [] (b ∷ []) x y is = cc
same_last [] (b ∷ c ∷ ys) x y is = cc
same_last (a ∷ []) [] x y is = cc
same_last (a ∷ c ∷ xs) [] x y is = cc
same_last (a ∷ xs) (b ∷ ys) x y is = same_last xs ys x y (ap (drop 1) is)

-- the last name of a path ends with the path's last byte, unless that is a slash
pub last_byte : (path front : List ℕ) (last : ℕ) → path ≡ front ++ last ∷ [] → last ≢ 47 → (before : List (List ℕ)) (name : List ℕ) → names_of path ≡ before ++ name ∷ []
    → (end : List ℕ) × (name ≡ end ++ last ∷ [])
last_byte path front last is other before name names =
    let (others, end, at) = last_piece 47 last other front in
    let all : names_of path ≡ filter is_name others ++ (end ++ last ∷ []) ∷ [] =
    ap names_of is ∙ ap (filter is_name) at ∙ filter-append is_name others ((end ++ last ∷ []) ∷ []) ∙ ap (λ (l : List (List ℕ)). filter is_name others ++ l) (one_kept end last) in
    (end, same_last before (filter is_name others) name (end ++ last ∷ []) (sym names ∙ all))
