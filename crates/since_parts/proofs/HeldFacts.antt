-- Names that a snapshot holds, while they are put in order.
use Rattle.std.proofs.Common.{◌≡◌, ◌≢◌, ◌∙◌, ◌<◌, ◌≤◌, ◌+◌, ◌-◌, ℕ, Bool, true, false, List, [], ◌∷◌, ◌++◌, None, Some, unwrap_or, ap, ap₂, append-nil, append_assoc, arith, drop, get_or, length, map, refl, subst, sym, take}
use Rattle.std.specs.Prelude.{flat_map, nat_eq, if◌then◌else◌}
use Rattle.std.specs.Cmp.Lexicographic.{same_text}
use Rattle.std.specs.List.{starts_with}
use Rattle.std.specs.List.Sorted.{IsPermutation}
use Rattle.std.proofs.lemmas.Grind.{flat_map-append}
use Rattle.std.proofs.lemmas.List.{map-append, take-append-drop, take_all}
use Rattle.std.proofs.lemmas.List.Sorted.{IsPermutation-middle, IsPermutation-pop_more, IsPermutation-refl, length_permutation}
use Rattle.jwalk_model.specs.Paths.{slash}
use Rattle.jwalk_changes.specs.AtPath.{whole}
use Rattle.jwalk_snapshot.specs.Text.{entry_of}
use Rattle.jwalk_snapshot.specs.declared.name.Name.{Name}
use Rattle.since_parts.specs.Facts.{Seen}
use Rattle.since_parts.specs.Held.{name_seen, rest_in, seen_in}
use Rattle.since_parts.specs.Tree.{strip}
use Rattle.since_parts.specs.declared.held.Held.{Held}
use Rattle.since_parts.specs.declared.held.Rest.{Rest}

none_below : 1 ≤ 0 → ⊥
none_below le = omega (arith, le)

strips_if : (front path rest : List ℕ) (b : Bool) → b ≡ starts_with nat_eq path front → Some rest ≡ (if b then Some (drop (length front) path) else None) → front ++ rest ≡ path
strips_if front path rest true begins is =
    ap₂ (λ l m. l ++ m) (same_text front (take (length front) path) begins) (ap (λ o. unwrap_or o rest) is) ∙ take-append-drop (length front) path
strips_if front path rest false begins is = absurd (cc is)

-- a front, and what is behind it
pub strips : (front path rest : List ℕ) → Some rest ≡ strip front path → front ++ rest ≡ path
strips front path rest is = strips_if front path rest (starts_with nat_eq path front) refl is

-- a directory's path, a slash, and a name are the whole path
pub whole_at : (folder name path back : List ℕ) → length folder ≢ 0 → length name ≢ 0 → Some back ≡ strip folder path → back ≡ slash ∷ name → whole folder name ≡ path
whole_at [] name path back some named is same = absurd (some refl)
whole_at (c ∷ cs) [] path back some named is same = absurd (named refl)
whole_at (c ∷ cs) (d ∷ ds) path back some named is same =
    append_assoc (c ∷ cs) (slash ∷ []) (d ∷ ds) ∙ ap (λ l. (c ∷ cs) ++ l) (sym same) ∙ strips (c ∷ cs) path back is

module _ (numbers : Bool) where
  -- the names of the last directory that is open are behind those of the others
  left_last : (others : List Rest) (last : Rest) (behind : List Seen) → flat_map (rest_in numbers) (others ++ last ∷ []) ++ behind ≡ flat_map (rest_in numbers) others ++ (rest_in numbers last ++ behind)
  left_last others last behind =
      ap (λ l. l ++ behind) (flat_map-append (rest_in numbers) others (last ∷ []))
      ∙ append_assoc (flat_map (rest_in numbers) others) (rest_in numbers last ++ []) behind
      ∙ ap (λ l. flat_map (rest_in numbers) others ++ (l ++ behind)) (append-nil (rest_in numbers last))

  taken_left : (others : List Rest) (last after : Rest) (x : Seen) (behind : List Seen) → rest_in numbers last ≡ x ∷ rest_in numbers after
      → IsPermutation (flat_map (rest_in numbers) (others ++ last ∷ []) ++ behind) (x ∷ (flat_map (rest_in numbers) (others ++ after ∷ []) ++ behind))
  taken_left others last after x behind is =
      subst (λ l. IsPermutation l (x ∷ (flat_map (rest_in numbers) (others ++ after ∷ []) ++ behind)))
      (ap (λ l. flat_map (rest_in numbers) others ++ (l ++ behind)) (sym is) ∙ sym (left_last others last behind))
      (subst (λ l. IsPermutation (flat_map (rest_in numbers) others ++ x ∷ (rest_in numbers after ++ behind)) (x ∷ l)) (sym (left_last others after behind))
      (IsPermutation-middle (flat_map (rest_in numbers) others) x (rest_in numbers after ++ behind)))

  module _ (behind : List Seen) (others : List Rest) (last after : Rest) (x : Seen) (opened later : List Rest) (was : opened ≡ others ++ last ∷ []) (is : later ≡ others ++ after ∷ []) (taken : rest_in numbers last ≡ x ∷ rest_in numbers after) where
    left_is : IsPermutation (flat_map (rest_in numbers) opened ++ behind) (x ∷ (flat_map (rest_in numbers) later ++ behind))
    left_is =
        subst (λ o. IsPermutation (flat_map (rest_in numbers) o ++ behind) (x ∷ (flat_map (rest_in numbers) later ++ behind))) (sym was)
        (subst (λ o. IsPermutation (flat_map (rest_in numbers) (others ++ last ∷ []) ++ behind) (x ∷ (flat_map (rest_in numbers) o ++ behind))) (sym is)
        (taken_left others last after x behind taken))

    -- a name that is taken of the last directory stays
    pub taken_same : (all more : List Held) (held : Held) → more ≡ all ++ held ∷ [] → seen_in held ≡ x → IsPermutation (map seen_in all ++ (flat_map (rest_in numbers) opened ++ behind)) (map seen_in more ++ (flat_map (rest_in numbers) later ++ behind))
    taken_same all more held grown seen =
        subst (λ l. IsPermutation (map seen_in all ++ (flat_map (rest_in numbers) opened ++ behind)) (l ++ (flat_map (rest_in numbers) later ++ behind)))
        (sym (ap (map seen_in) grown ∙ map-append seen_in all (held ∷ []) ∙ ap (λ s. map seen_in all ++ s ∷ []) seen))
        (IsPermutation-pop_more (map seen_in all ++ (flat_map (rest_in numbers) opened ++ behind)) (map seen_in all) (flat_map (rest_in numbers) opened ++ behind) (flat_map (rest_in numbers) later ++ behind) x
        (IsPermutation-refl (map seen_in all ++ (flat_map (rest_in numbers) opened ++ behind))) left_is)

    -- and one turn fewer is left
    pub taken_falls : (turns : ℕ) → length opened ≡ length later → length (flat_map (rest_in numbers) later ++ behind) + (turns + length later) < length (flat_map (rest_in numbers) opened ++ behind) + (turns + length opened)
    taken_falls turns same =
        let shorter : length (x ∷ (flat_map (rest_in numbers) later ++ behind)) ≡ length (flat_map (rest_in numbers) opened ++ behind) = length_permutation _ _ left_is in
        omega (arith, same, shorter)

-- the first name of a directory is taken, and the others are left
pub rest_taken : (numbers : Bool) (folder : List ℕ) (names : List Name) (d : Name) → 1 ≤ length names
    → map (name_seen numbers folder) (map entry_of names) ≡ name_seen numbers folder (entry_of (get_or names 0 d)) ∷ map (name_seen numbers folder) (map entry_of (take (length names - 1) (drop 1 names)))
rest_taken numbers folder [] d some = absurd (none_below some)
rest_taken numbers folder (n ∷ ns) d some =
    ap (λ l. name_seen numbers folder (entry_of n) ∷ map (name_seen numbers folder) (map entry_of l)) (sym (take_all (length (n ∷ ns) - 1) ns (omega arith)))
