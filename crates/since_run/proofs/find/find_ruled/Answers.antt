use Rattle.std.proofs.Common.{◌≡◌, ◌∙◌, ap, refl, subst, sym}
use Rattle.std.specs.Arc.{arc_value}
use Rattle.std.proofs.lemmas.Result.{IfOk-weaker}
use Rattle.jwalk.specs.jwalk_model.Counted.{blank, both}
use Rattle.jwalk.specs.WalkDir.{callback_of, file_system_of}
use Rattle.jwalk_ignore.specs.Callback.Excluding.{excluded_of, excluding}
use Rattle.jwalk_ignore.specs.Callback.IgnoreViews.{ignoring, next_of, settings_of, texts_of}
use Rattle.jwalk_ignore.specs.Callback.Kept.{given_kept}
use Rattle.jwalk_ignore.specs.Callback.States.{nothing_beside, rules_held}
use Rattle.jwalk_ignore.specs.Rules.ChainWorth.{chain_worth}
use Rattle.jwalk_ignore.proofs.KeptFacts.{ignores_kept, whole_of}
use Rattle.since_run.proofs.FindFacts.{found_of}
use Rattle.since_run.proofs.find.find_ruled.Goals as goal

pub returns : goal.returns
returns g c =
    let rules = c.args.rules in
    let set = c.with_ignore_files.ensures in
    let walk = c.with_ignore_files.result in
    let texts = g.X.Texts.functions (arc_value (texts_of rules)) in
    let given = given_kept rules_held (settings_of rules) texts (excluded_of (next_of rules)) in
    let made = ignoring (settings_of rules) texts (excluding (excluded_of (next_of rules))) in
    let over : arc_value (file_system_of walk) ≡ arc_value (file_system_of c.args.walk) = ap arc_value set.file_system in
    let from : arc_value (texts_of (callback_of walk)) ≡ arc_value (texts_of rules) = ap (λ x. arc_value (texts_of x)) set.callback in
    IfOk-weaker c.take_walk.result _ _
    (λ found takes.
    found_of _ _ _ _ _ walk given _ _ _ c.args.tree.now found set
    (λ always. record {
      file_system = subst g.S.FileSystem.IsFixed (sym over) always.0;
      callback = ignores_kept _ (Unit {0}) rules_held nothing_beside (subst g.X.Texts.IsFixed (sym from) always.1) (ap g.X.Texts.functions from) (ap settings_of set.callback) (ap (λ x. excluded_of (next_of x)) set.callback);
      clones = λ x y h. ap (λ chain. both (chain_worth chain) blank) h;
      default = λ x h. refl;
    })
    (λ always. whole_of made (ap g.S.FileSystem.functions over) set.options set.root (ap (λ chain. both (chain_worth chain) blank) (ap rules_held set.state ∙ always.2)))
    takes)
    c.take_walk.ensures
