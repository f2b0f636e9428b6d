-- The first piece of a text and the others.
use Rattle.std.proofs.Common.{◌≡◌, ◌≢◌, ◌+◌, ℕ, suc, Bool, true, false, List, [], ◌∷◌, ◌++◌, Option, None, Some, ap, refl, sym, ◌∙◌, arith}
use Rattle.std.specs.Prelude.{option_to_list}
use Rattle.std.specs.List.{before_first, after_first, position_or_len, filter, filter_map, cons_option}
use Rattle.jwalk_ignore_rules.specs.Pattern.Names.{is_name, names_of}
use Rattle.jwalk_ignore_rules.specs.Pattern.Pieces.{is_byte, onto_first, pieces}

module _ {Y : Type 0} (own : ℕ) (read : List (List ℕ) → Y) (none : read [] ≡ read ([] ∷ [])) where
  -- a text is a first piece, and others that read as what is behind the first byte that parts them
  abbrev Parted : List ℕ → Type 0
  Parted text = (others : List (List ℕ)) × (pieces own text ≡ before_first (is_byte own) text ∷ others)
      × (read others ≡ read (pieces own (after_first (is_byte own) text)))

  -- a text that begins with that byte
  ended : (c : ℕ) (cs : List ℕ) → is_byte own c ≡ true → Parted (c ∷ cs)
  ended c cs e = (pieces own cs, simp e, simp e)

  -- a text that begins with another byte
  going_on : (c : ℕ) (cs : List ℕ) → is_byte own c ≡ false → Parted cs → Parted (c ∷ cs)
  going_on c cs e (others, first, same) =
      let n : ℕ = position_or_len (is_byte own) cs in
      let one : 1 + n ≡ suc n = omega arith in
      let two : suc n + 1 ≡ suc (n + 1) = omega arith in
      let onto : onto_first c (pieces own cs) ≡ (c ∷ before_first (is_byte own) cs) ∷ others = ap (onto_first c) first in
      (others, simp (e, one) onto, simp (e, one, two) same)

  -- one byte more
  by_first_byte : (b : Bool) (c : ℕ) (cs : List ℕ) → is_byte own c ≡ b → Parted cs → Parted (c ∷ cs)
  by_first_byte true c cs e rest = ended c cs e
  by_first_byte false c cs e rest = going_on c cs e rest

  pub parted : (text : List ℕ) → Parted text
  parted [] = ([], refl, none)
  parted (c ∷ cs) = by_first_byte (is_byte own c) c cs refl (parted cs)

-- the names of a path with a first piece that isn't empty
named : (piece : List ℕ) (others : List (List ℕ)) → piece ≢ [] → filter is_name (piece ∷ others) ≡ piece ∷ filter is_name others
named [] others some = absurd (some refl)
named (c ∷ cs) others some = refl

-- the first name of a path, and then the others
pub first_name : (path piece behind : List ℕ) → piece ≢ [] → piece ≡ before_first (is_byte 47) path → behind ≡ after_first (is_byte 47) path → names_of path ≡ piece ∷ names_of behind
first_name path piece behind some is rest =
    let p = parted 47 (filter is_name) refl path in
    ap (filter is_name) p.1 ∙ ap (λ (x : List ℕ). filter is_name (x ∷ p.0)) (sym is) ∙ named piece p.0 some
    ∙ ap (λ (xs : List (List ℕ)). piece ∷ xs) (p.2 ∙ ap names_of (sym rest))

module _ {Y : Type 0} (read : List ℕ → Option Y) (none : read [] ≡ None) where
  -- in front of others, if there is one
  put_front : (y : Option Y) (ys : List Y) → cons_option y ys ≡ option_to_list y ++ ys
  put_front None ys = refl
  put_front (Some y) ys = refl

  -- what the first line gives, and then the others
  pub first_line : (text line behind : List ℕ) → line ≡ before_first (is_byte 10) text → behind ≡ after_first (is_byte 10) text
      → filter_map read (pieces 10 text) ≡ option_to_list (read line) ++ filter_map read (pieces 10 behind)
  first_line text line behind is rest =
      let p = parted 10 (filter_map read) (sym (ap (λ (y : Option Y). cons_option y []) none)) text in
      ap (filter_map read) p.1 ∙ put_front (read (before_first (is_byte 10) text)) (filter_map read p.0)
      ∙ ap (λ (l : List ℕ). option_to_list (read l) ++ filter_map read p.0) (sym is)
      ∙ ap (λ (ys : List Y). option_to_list (read line) ++ ys) (p.2 ∙ ap (λ (t : List ℕ). filter_map read (pieces 10 t)) (sym rest))
