-- Entries that are kept as they were found.
use Rattle.std.proofs.Common.{◌≡◌, ◌∙◌, ◌<◌, ◌≤◌, ◌+◌, ◌-◌, ◌++◌, ℕ, Bool, true, false, List, [], ◌∷◌, ap, append_assoc, arith, drop, get_or, length, map, subst, sym, take}
use Rattle.std.specs.Prelude.{filter, if◌then◌else◌}
use Rattle.std.specs.declared.alloc.Global.{Global}
use Rattle.std.proofs.lemmas.List.{drop_all, drop_more, map-append, take_all, take_more}
use Rattle.std.proofs.lemmas.List.Elements.{filter-append}
use Rattle.jwalk_changes.specs.declared.entry.Kept.{Kept}
use Rattle.since_parts.specs.declared.held.Held.{Held}
use Rattle.jwalk_snapshot.specs.Text.{folder_of}
use Rattle.jwalk_snapshot.specs.declared.block.Block.{Block}
use Rattle.since_parts.specs.Saved.{dir_paths, is_dir_found, path_found, path_in, AreSame, IsSame}

-- one entry more
pub same_more : (xs : List Held) (ys : List (Kept Global)) (i : ℕ) (d : Held) (e : Kept Global) → i < length xs → i < length ys → IsSame (get_or xs i d) (get_or ys i e) → AreSame (drop (i + 1) xs) (drop (i + 1) ys) → AreSame (drop i xs) (drop i ys)
same_more xs ys i d e lt below same rest =
    subst (λ l. AreSame l (drop i ys)) (sym (drop_more xs i d lt))
    (subst (λ l. AreSame (get_or xs i d ∷ drop (i + 1) xs) l) (sym (drop_more ys i e below)) (same, rest))

-- none is left
pub same_done : (xs : List Held) (ys : List (Kept Global)) (i : ℕ) → length xs ≤ i → length ys ≤ i → AreSame (drop i xs) (drop i ys)
same_done xs ys i le below =
    subst (λ l. AreSame l (drop i ys)) (sym (drop_all i xs le)) (subst (λ l. AreSame [] l) (sym (drop_all i ys below)) tt)

dirs_more : (xs : List (Kept Global)) (x : Kept Global) → dir_paths (xs ++ x ∷ []) ≡ dir_paths xs ++ dir_paths (x ∷ [])
dirs_more xs x = ap (map path_found) (filter-append is_dir_found xs (x ∷ [])) ∙ map-append path_found (filter is_dir_found xs) (filter is_dir_found (x ∷ []))

-- what one entry more takes of the paths that are left
pub dirs_taken : (all left others : List (List ℕ)) (entries : List (Kept Global)) (i : ℕ) (x : Kept Global) → i < length entries → get_or entries i x ≡ x → all ≡ dir_paths (take i entries) ++ left → left ≡ dir_paths (x ∷ []) ++ others → all ≡ dir_paths (take (i + 1) entries) ++ others
dirs_taken all left others entries i x lt same so_far is =
    so_far ∙ ap (λ l. dir_paths (take i entries) ++ l) is
    ∙ sym (append_assoc (dir_paths (take i entries)) (dir_paths (x ∷ [])) others)
    ∙ ap (λ l. l ++ others) (sym (dirs_more (take i entries) x))
    ∙ ap (λ (l : List (Kept Global)). dir_paths l ++ others) (sym (take_more entries i x lt ∙ ap (λ (k : Kept Global). take i entries ++ k ∷ []) same))

none_below : 1 ≤ 0 → ⊥
none_below le = omega (arith, le)

-- the path of the first directory, and those of the others
pub paths_taken : (blocks : List Block) (d : Block) → 1 ≤ length blocks → map path_in (map folder_of blocks) ≡ (get_or blocks 0 d).path.now ∷ map path_in (map folder_of (take (length blocks - 1) (drop 1 blocks)))
paths_taken [] d some = absurd (none_below some)
paths_taken (b ∷ bs) d some = ap (λ l. b.path.now ∷ map path_in (map folder_of l)) (sym (take_all (length (b ∷ bs) - 1) bs (omega arith)))

one_if : (x : Kept Global) (b : Bool) → is_dir_found x ≡ b → dir_paths (x ∷ []) ≡ map path_found (if b then x ∷ [] else [])
one_if x b is = ap (λ (c : Bool). map path_found (if c then x ∷ [] else [])) is

-- an entry that is a directory has its path
pub one_dir : (x : Kept Global) → is_dir_found x ≡ true → dir_paths (x ∷ []) ≡ path_found x ∷ []
one_dir x is = one_if x true is

-- and another has none
pub no_dir : (x : Kept Global) → is_dir_found x ≡ false → dir_paths (x ∷ []) ≡ []
no_dir x is = one_if x false is
