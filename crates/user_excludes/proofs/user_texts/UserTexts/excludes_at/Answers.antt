use Rattle.std.proofs.Common.{◌≡◌, ◌∙◌, ℕ, List, Some, Global, ap, sym}
use Rattle.std.specs.Prelude.{string_bytes}
use Rattle.std.specs.declared.vec.Vec.{Vec}
use Rattle.user_excludes.specs.Excludes.{user_excludes}
use Rattle.user_excludes.specs.Home.{home_value, Home}
use Rattle.user_excludes.specs.OwnHome.{own_home_value}
use Rattle.user_excludes.specs.Repository.{config_path}
use Rattle.user_excludes.specs.UserTexts.{excludes_at, texts_behind}
use Rattle.user_excludes.proofs.UnreadFacts.{tells_as}
use Rattle.user_excludes.proofs.user_texts.UserTexts.excludes_at.Goals as goal

pub returns : goal.returns
returns g c = λ fixed.
    let texts = g.T.Texts.functions (texts_behind c.args.self.now) in
    let home = own_home_value c.args.home.now in
    let config = string_bytes c.in_ok-config.config in
    let place = sym (c.in_ok-config.ensures fixed ∙ ap (config_path texts) c.git_of.ensures) in
    let same : excludes_at home texts c.args.path.now ≡ user_excludes texts (home_value c.lent.result) (Some config)
    = ap (λ (path : List ℕ). user_excludes texts home (Some path)) place ∙ ap (λ (h : Home). user_excludes texts h (Some config)) (sym c.lent.ensures) in
    tells_as (λ (bytes : Vec ℕ Global). bytes.items) (user_excludes texts (home_value c.lent.result) (Some config)) (excludes_at home texts c.args.path.now) c.user_excludes.result same (c.user_excludes.ensures fixed)
