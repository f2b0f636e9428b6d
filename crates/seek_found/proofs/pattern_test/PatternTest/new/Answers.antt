use Rattle.std.proofs.Common.{◌∙◌, ℕ, Bool, List, ap, sym}
use Rattle.std.specs.Prelude.{is_some}
use Rattle.regex.specs.Patterns.{Re, find_str}
use Rattle.seek_found.specs.NamePattern.{takes_name}
use Rattle.seek_found.proofs.pattern_test.PatternTest.new.Goals as goal

pub returns-in_ok-matcher-in-Expression : goal.returns-in_ok-matcher-in-Expression
returns-in_ok-matcher-in-Expression c =
    let finds : Re → List ℕ → Bool → Bool = λ re text is_dir. is_some (find_str re text 0) in
    ap finds c.in_ok-matcher-in-Expression.ensures.pattern ∙ ap takes_name (sym c.in-Expression.is)
