use Rattle.std.proofs.Common.{◌≡◌, ◌∙◌, ap, refl, subst, sym}
use Rattle.std.specs.Arc.{arc_value}
use Rattle.std.proofs.lemmas.Result.{IfOk-weaker}
use Rattle.jwalk.specs.jwalk_model.Counted.{blank, both}
use Rattle.jwalk.specs.jwalk_job.Job.{IsSteady}
use Rattle.jwalk.specs.WalkDir.{file_system_of, callback_of, Sets}
use Rattle.jwalk_ignore.specs.Rules.ChainWorth.{chain_worth}
use Rattle.jwalk_ignore.specs.Callback.IgnoreViews.{ignoring, next_of, settings_of, texts_of}
use Rattle.jwalk_ignore.specs.Callback.Excluding.{excluded_of, excluding}
use Rattle.jwalk_ignore.specs.Callback.Kept.{given_kept}
use Rattle.jwalk_ignore.specs.Callback.States.{nothing_beside, rules_held}
use Rattle.seek_words.specs.Filter.{sought_of}
use Rattle.seek_found.specs.Prune.{unpruned}
use Rattle.seek_found.specs.SoughtTest.{takes_of}
use Rattle.seek_found.proofs.FirstFacts.{first_as}
use Rattle.jwalk_ignore.proofs.KeptFacts.{ignores_kept, whole_of}
use Rattle.seek_found.proofs.RootsFacts.{printed_such}
use Rattle.seek_search.proofs.SearchFacts.{yielded_so}
use Rattle.seek_search.proofs.search.search_walk.Goals as goal

pub returns-clause-whole : goal.returns-clause-whole
returns-clause-whole g c =
    let rules = c.args.rules in
    let set = c.with_ignore_files.ensures in
    let walk = c.with_ignore_files.result in
    let texts = g.X.Texts.functions (arc_value (texts_of rules)) in
    let given = given_kept rules_held (settings_of rules) texts (excluded_of (next_of rules)) in
    let made = ignoring (settings_of rules) texts (excluding (excluded_of (next_of rules))) in
    let over : arc_value (file_system_of walk) ≡ arc_value (file_system_of c.args.walk) = ap arc_value set.file_system in
    let from : arc_value (texts_of (callback_of walk)) ≡ arc_value (texts_of rules) = ap (λ x. arc_value (texts_of x)) set.callback in
    IfOk-weaker c.print_begun.result _ _
    (λ clean whole. λ still fixed told state.
    let steady : IsSteady _ _ _ _ (file_system_of walk) (callback_of walk) given
    = record {
      file_system = subst g.S.FileSystem.IsFixed (sym over) fixed;
      callback = ignores_kept _ (Unit {0}) rules_held nothing_beside (subst g.X.Texts.IsFixed (sym from) told) (ap g.X.Texts.functions from) (ap settings_of set.callback) (ap (λ x. excluded_of (next_of x)) set.callback);
      clones = λ x y h. ap (λ chain. both (chain_worth chain) blank) h;
      default = λ x h. refl;
    } in
    first_as (ap (unpruned (sought_of takes_of (g.S.FileSystem.functions (arc_value c.args.disk.now)) c.args.printer.now.filter)) (whole_of made (ap g.S.FileSystem.functions over) set.options set.root (ap (λ chain. both (chain_worth chain) blank) (ap rules_held set.state ∙ state)))) (whole still given steady))
    c.print_begun.ensures.whole

pub returns-clause-yielded : goal.returns-clause-yielded
returns-clause-yielded g c =
    let set = c.with_ignore_files.ensures in
    IfOk-weaker c.print_begun.result _ _ (λ clean prints. λ known. printed_such (yielded_so _ (λ it is. subst (Sets _) (sym is) set)) (prints known)) c.print_begun.ensures.yielded
