-- The order of paths, row by row.
use Rattle.std.specs.Prelude.{◌≡◌, true, false, [], ◌∷◌, codes, refl}
use Rattle.std.specs.declared.cmp.Ordering.TheVariants.{Less, Equal, Greater}
use Rattle.jwalk_changes.specs.AtPath.{names, path_cmp, is_below}

names_of_two : names (codes "a/b") ≡ codes "a" ∷ codes "b" ∷ []
names_of_two = refl

names_of_root : names [] ≡ []
names_of_root = refl

root_first : path_cmp (names []) (names (codes "a")) ≡ Less
root_first = refl

parent_first : path_cmp (names (codes "a")) (names (codes "a/b")) ≡ Less
parent_first = refl

below_before_dash : path_cmp (names (codes "a/b")) (names (codes "a-b")) ≡ Less
below_before_dash = refl

below_before_dot : path_cmp (names (codes "a/b")) (names (codes "a.b")) ≡ Less
below_before_dot = refl

after_below : path_cmp (names (codes "ab")) (names (codes "a/z")) ≡ Greater
after_below = refl

one_path : path_cmp (names (codes "a/b")) (names (codes "a/b")) ≡ Equal
one_path = refl

below : is_below (names (codes "a")) (names (codes "a/b/c")) ≡ true
below = refl

not_by_text : is_below (names (codes "a")) (names (codes "ab")) ≡ false
not_by_text = refl

not_itself : is_below (names (codes "a")) (names (codes "a")) ≡ false
not_itself = refl

below_root : is_below (names []) (names (codes "a")) ≡ true
below_root = refl
