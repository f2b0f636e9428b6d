-- What patterns say of paths, row by row.
use Rattle.std.specs.Prelude.{◌≡◌, ℕ, Bool, true, false, List, codes, refl}
use Rattle.jwalk_ignore_rules.specs.Rules.Line.{patterns_of}
use Rattle.jwalk_ignore_rules.specs.Rules.Matching.{patterns_say}
use Rattle.jwalk_ignore_rules.specs.declared.rules.decision.Decision.{Decision}
use Rattle.jwalk_ignore_rules.specs.declared.rules.decision.Decision.TheVariants.{Ignored, Kept, Unsaid}

-- what a file's bytes say of a path
abbrev says : List ℕ → List ℕ → Bool → Decision
says bytes path is_dir = patterns_say (patterns_of bytes) path is_dir

row_star : says (codes "*.o\n") (codes "b/x.o") false ≡ Ignored
row_star = refl

row_last_decides : says (codes "*.o\n!k.o\n") (codes "k.o") false ≡ Kept
row_last_decides = refl

row_dir : says (codes "b/\n") (codes "b") false ≡ Unsaid
row_dir = refl

row_of_dir : says (codes "b/\n") (codes "b") true ≡ Ignored
row_of_dir = refl

row_no_slash : says (codes "/a*b\n") (codes "a/b") false ≡ Unsaid
row_no_slash = refl

row_between : says (codes "a/**/b\n") (codes "a/x/y/b") false ≡ Ignored
row_between = refl
