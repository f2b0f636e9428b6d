-- The totals of walks over small trees.
use Rattle.std.specs.Prelude.{◌≡◌, ℕ, true, false, List, [], ◌∷◌, ◌++◌, codes, refl}
use Rattle.jwalk.specs.jwalk_model.Options.{Options, defaults, with_skip_hidden, with_follow_links, with_min_depth}
use Rattle.jwalk.specs.jwalk_model.Listing.{below}
use Rattle.jwalk.specs.jwalk_model.TreeRows.{Step, d, f, l, x}
use Rattle.jwalk.specs.jwalk_model.Walk.{whole_walk, stateless_walk}
use Rattle.jwalk.specs.jwalk_model.WalkRows.{tree_a, tree_by}
use Rattle.jwalk_usage.specs.declared.report.Usage.{Usage}
use Rattle.jwalk_usage.specs.Totals.{totals}

-- what a walk from a root comes to, over the tree that these steps build
abbrev over : List Step → Options → List ℕ → Usage
over steps options root = totals (tree_by steps) (stateless_walk (tree_by steps) options root)

abbrev shown : ℕ → ℕ → ℕ → ℕ → ℕ → ℕ → Usage
shown files dirs links others errors bytes = record { files = files; dirs = dirs; links = links; others = others; errors = errors; bytes = bytes }

abbrev following : Options
following = with_follow_links true defaults

whole_tree : over tree_a defaults (codes "/t") ≡ shown 5 3 0 0 0 18
unfolding whole_walk below
whole_tree = refl

hidden_shown : over tree_a (with_skip_hidden false defaults) (codes "/t") ≡ shown 6 3 0 0 0 21
unfolding whole_walk below
hidden_shown = refl

failed_directory : over (tree_a ++ x (codes "/t/group 2") ∷ []) defaults (codes "/t") ≡ shown 4 3 0 0 1 14
unfolding whole_walk below
failed_directory = refl

from_depth_two : over tree_a (with_min_depth 2 defaults) (codes "/t") ≡ shown 2 0 0 0 0 9
unfolding whole_walk below
from_depth_two = refl

abbrev looped : List Step
looped = d (codes "/r") ∷ d (codes "/r/a") ∷ d (codes "/r/a/b") ∷ d (codes "/r/a/b/c") ∷ l (codes "/r/a") (codes "/r/a/b/c/a-link") ∷ []

loop_not_followed : over looped defaults (codes "/r") ≡ shown 0 4 1 0 0 0
unfolding whole_walk below
loop_not_followed = refl

loop_followed : over looped following (codes "/r") ≡ shown 0 4 0 0 1 0
unfolding whole_walk below
loop_followed = refl

abbrev linked : List Step
linked = d (codes "/r") ∷ f 7 (codes "/r/f") ∷ l (codes "f") (codes "/r/l") ∷ []

link_to_a_file : over linked defaults (codes "/r") ≡ shown 1 1 1 0 0 7
unfolding whole_walk below
link_to_a_file = refl

link_to_a_file_followed : over linked following (codes "/r") ≡ shown 2 1 0 0 0 14
unfolding whole_walk below
link_to_a_file_followed = refl
