use Rattle.std.proofs.Common.{◌≡◌, ◌∙◌, ℕ, List, ap, sym}
use Rattle.std.specs.Prelude.{option_map, string_bytes}
use Rattle.user_excludes.specs.Home.{home_value}
use Rattle.user_excludes.specs.Named.{with_file, with_first}
use Rattle.user_excludes.specs.NamedViews.{named_value}
use Rattle.user_excludes.proofs.UnreadFacts.{tells_as}
use Rattle.user_excludes.proofs.named.with_first.Goals as goal

pub returns-in-Some : goal.returns-in-Some
returns-in-Some g c = λ fixed.
    let texts = g.X.Texts.functions c.args.texts.now in
    let home = home_value c.args.home in
    let named = named_value c.args.named in
    let same : with_first texts home (option_map string_bytes c.args.file.now) named ≡ with_file texts home 11 c.as_str.result.now named
    = ap (λ file. with_first texts home (option_map string_bytes file) named) c.in-Some.is
    ∙ ap (λ (path : List ℕ). with_file texts home 11 path named) (sym c.as_str.ensures.value) in
    tells_as named_value (with_file texts home 11 c.as_str.result.now named) (with_first texts home (option_map string_bytes c.args.file.now) named) c.with_file.result same (c.with_file.ensures fixed)
