-- Lists that are the same below a directory.
use Rattle.std.specs.Prelude.{ℕ, ◌+◌, ◌<◌, All, List, false}
use Rattle.jwalk_model.specs.Counted.{Worth}
use Rattle.jwalk_model.specs.Entry.{Entry, Item}
use Rattle.jwalk_model.specs.Options.{Options, defaults, with_skip_hidden}
use Rattle.jwalk_ignore.specs.Callback.IgnoreFiles.{depth_of}
use Rattle.jwalk_ignore_laws.specs.Walks.{AreTheSameBelow, IsIn}

-- the options of a new builder, where the callback is given hidden names
abbrev pub first_options : Options
first_options = with_skip_hidden false defaults

-- Wherever the directory's entry is in the first list, what is below it is what the second has below its first item, so much deeper. Nothing is at the greatest depth.
abbrev pub SameBelow : List ℕ → List (Item Worth Worth) → List (Item Worth Worth) → Type 0
SameBelow directory above list = (e : Entry Worth Worth) (behind : List (Item Worth Worth)) → IsIn above directory e behind
    → All (λ x. depth_of x + e.depth < first_options.max_depth) list → AreTheSameBelow e behind list
