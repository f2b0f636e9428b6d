-- What rules in force say of paths, row by row: one file of each kind, by its bytes.
use Rattle.std.specs.Prelude.{◌≡◌, ℕ, true, false, List, [], ◌∷◌, codes, refl}
use Rattle.jwalk_ignore_rules.specs.Rules.Chain.{Chain, Link, chain_says, entered, no_rules}
use Rattle.jwalk_ignore_rules.specs.Rules.Line.{patterns_of}
use Rattle.jwalk_ignore_rules.specs.declared.rules.decision.Decision.TheVariants.{Ignored, Kept, Unsaid}

-- the rules of one file
abbrev file : List ℕ → List Link
file bytes = record { before = 0; patterns = patterns_of bytes } ∷ []

-- files that are empty, but for those that a row sets
abbrev of : List ℕ → List ℕ → List ℕ → List ℕ → Chain
of fdignore ignore gitignore exclude =
    record no_rules { fdignore = file fdignore; ignore = file ignore; gitignore = file gitignore; exclude = file exclude }

row_fdignore_first : chain_says (of (codes "!a\n") (codes "a\n") [] []) (codes "a") false ≡ Kept
row_fdignore_first = refl

row_ignore_next : chain_says (of (codes "b\n") (codes "a\n") (codes "!a\n") []) (codes "a") false ≡ Ignored
row_ignore_next = refl

row_exclude_last : chain_says (of [] [] (codes "!a\n") (codes "a\n")) (codes "a") false ≡ Kept
row_exclude_last = refl

row_into_a_repository : chain_says (entered true (of [] (codes "b\n") (codes "a\n") (codes "a\n"))) (codes "a") false ≡ Unsaid
row_into_a_repository = refl

row_fdignore_goes_on : chain_says (entered true (of (codes "a\n") [] [] [])) (codes "a") false ≡ Ignored
row_fdignore_goes_on = refl
