use Rattle.std.proofs.Common.{◌-◌, ◌^◌, ◌∙◌, false, ap, arith, refl}
use Rattle.jwalk.specs.jwalk_model.Options.{with_skip_hidden}
use Rattle.jwalk.specs.jwalk_model.Walk.{whole_walk}
use Rattle.jwalk.specs.WalkDir.{file_system_of, options_of, root_of, state_of}
use Rattle.jwalk.specs.jwalk_model.Counted.{blank, both}
use Rattle.jwalk.proofs.WholeFacts.{whole_filled}
use Rattle.jwalk_ignore.specs.Rules.ChainWorth.{chain_worth}
use Rattle.jwalk_ignore.specs.Callback.Given.{ignoring_alone, job_ignoring, lists_kept, rules_alone}
use Rattle.jwalk_ignore.specs.Callback.IgnoreViews.{settings_of, texts_of}
use Rattle.jwalk_ignore.specs.Callback.States.{rules_held}
use Rattle.example_proofs.proofs.ignoring.walk_ignoring.Goals as goal

-- a vector holds fewer than `usize::MAX`, so all that was to come is filled in
pub returns : goal.returns
returns g c = λ fixed texts_fixed none.
    let set = c.with_ignore_files.ensures in
    let begun = c.into_iter.ensures in
    let found = c.fill.new.out in
    let ruled = c.with_ignore_files.result in
    let settings = settings_of c.args.rules in
    let texts = g.X.Texts.functions (texts_of c.args.rules) in
    let given = ignoring_alone rules_held settings texts in
    let whole = whole_filled _ _ _ _ _ given c.with_ignore_files.result c.into_iter.result c.fill.new.self (2 ^ 64 - 1) c.in_ok-fill.field-0 c.new-found.result.items found.items begun.own begun.starts begun.holds
    (record {
      file_system = rw set.file_system fixed;
      callback = rw set.callback (texts_fixed, (λ state. blank), ((λ state. refl), (λ old new same. refl)), lists_kept, (λ depth path state list h. h), (λ depth path state list. refl), (λ depth path state list. refl));
      clones = λ x y is. ap (λ chain. both (chain_worth chain) blank) is;
      default = λ x is. refl;
    })
    c.in_ok-fill.ensures c.new-found.ensures.items (omega (arith, found.ok.0, found.ok.1, found.small)) none in
    whole
    ∙ ap (λ fs. whole_walk (job_ignoring settings texts (g.S.FileSystem.functions fs) (options_of ruled)) (root_of ruled) (rules_alone rules_held (state_of ruled))) set.file_system
    ∙ ap (λ options. whole_walk (job_ignoring settings texts (g.S.FileSystem.functions (file_system_of c.args.walk)) options) (root_of ruled) (rules_alone rules_held (state_of ruled))) set.options
    ∙ ap (λ root. whole_walk (job_ignoring settings texts (g.S.FileSystem.functions (file_system_of c.args.walk)) (with_skip_hidden false (options_of c.args.walk))) root (rules_alone rules_held (state_of ruled))) set.root
    ∙ ap (λ state. whole_walk (job_ignoring settings texts (g.S.FileSystem.functions (file_system_of c.args.walk)) (with_skip_hidden false (options_of c.args.walk))) (root_of c.args.walk) (rules_alone rules_held state)) set.state
