use Rattle.std.proofs.Common.{◌≡◌, ◌∙◌, false, ap, subst, sym}
use Rattle.std.specs.Prelude.{is_some}
use Rattle.std.specs.Arc.{arc_value}
use Rattle.std.proofs.lemmas.Result.{IfOk-weaker}
use Rattle.jwalk.specs.jwalk_model.Options.{with_skip_hidden}
use Rattle.jwalk.specs.WalkDir.{file_system_of, options_of}
use Rattle.jwalk_ignore.specs.Callback.Given.{no_rules_yet}
use Rattle.jwalk_ignore.specs.Callback.States.{rules_held}
use Rattle.jwalk_ignore.specs.Callback.IgnoreViews.{ignoring, next_of, settings_of, texts_of as texts_in}
use Rattle.program_walks.specs.Crew.{ReadsBy, with_crew}
use Rattle.program_walks.proofs.CrewFacts.{hidden_by_crew}
use Rattle.seek_words.specs.Filter.{sought_of}
use Rattle.seek_found.specs.Prune.{unpruned}
use Rattle.seek_found.specs.SoughtTest.{takes_of}
use Rattle.seek_found.proofs.FirstFacts.{first_as}
use Rattle.seek_found.proofs.RootsFacts.{printed_such}
use Rattle.jwalk_ignore.specs.Callback.Excluding.{excluded_of, excluding}
use Rattle.seek_search.specs.Search.{excluded_asked, options_asked, settings_asked}
use Rattle.jwalk_ignore.proofs.KeptFacts.{ignoring_same}
use Rattle.seek_search.proofs.SearchFacts.{yielded_so}
use Rattle.seek_search.proofs.search.Search.search_kept.Goals as goal

pub returns-clause-whole : goal.returns-clause-whole
returns-clause-whole g c =
    let self = c.args.self.now in
    let asked = self.asked.now in
    let built = c.in_ok-walk.ensures in
    let walk = c.in_ok-walk.walk in
    let rules = c.then-rules.result in
    let excluded = excluded_asked asked c.args.root.now in
    let texts = g.X.Texts.functions (arc_value self.texts) in
    let over : arc_value (file_system_of walk) ≡ arc_value self.disk = ap arc_value built.file_system ∙ c.in_ok-disk.ensures.cases in
    let from : arc_value (texts_in rules) ≡ arc_value self.texts
    = ap arc_value (c.then-rules.ensures.texts ∙ c.in_ok-rules_of.ensures.texts) ∙ c.in_ok-texts.ensures.cases in
    let settings : settings_of rules ≡ settings_asked self.lines.now asked
    = c.then-rules.ensures.settings ∙ c.in_ok-rules_of.ensures.settings in
    let lines : excluded_of (next_of rules) ≡ excluded
    = ap excluded_of c.then-rules.ensures.next ∙ c.in_ok-excluding.ensures in
    let options : options_of walk ≡ with_crew (is_some c.args.crew.now) (options_asked asked)
    = built.options ∙ ap (with_crew (is_some c.args.crew.now)) c.options.ensures in
    IfOk-weaker c.search_walk.result _ _
    (λ clean whole. λ fixed told.
    first_as (ap (unpruned (sought_of takes_of (g.S.FileSystem.functions (arc_value self.disk)) c.args.printer.now.filter))
    (ignoring_same (ap g.S.FileSystem.functions over) (ap g.X.Texts.functions from) settings lines options (built.root ∙ c.in_ok-root.ensures.ok)
    ∙ hidden_by_crew (ignoring (settings_asked self.lines.now asked) texts (excluding excluded)) (is_some c.args.crew.now) (g.S.FileSystem.functions (arc_value self.disk)) (options_asked asked) c.args.root.now no_rules_yet))
    (whole fixed (subst g.S.FileSystem.IsFixed (sym over) fixed) (subst g.X.Texts.IsFixed (sym from) told) built.state))
    c.search_walk.ensures.whole

pub returns-clause-yielded : goal.returns-clause-yielded
returns-clause-yielded g c =
    let self = c.args.self.now in
    let asked = self.asked.now in
    let built = c.in_ok-walk.ensures in
    let set = c.then-rules.ensures in
    IfOk-weaker c.search_walk.result _ _
    (λ clean prints. λ known. printed_such (yielded_so _ (λ it is. record {
      over = ap arc_value (is.file_system ∙ built.file_system) ∙ c.in_ok-disk.ensures.cases;
      below = is.root ∙ built.root ∙ c.in_ok-root.ensures.ok;
      options = is.options ∙ ap (with_skip_hidden false) (built.options ∙ ap (with_crew (is_some c.args.crew.now)) c.options.ensures);
      by = subst (ReadsBy c.args.crew.now) (sym is.crew) built.crew;
      texts_read = ap (λ x. arc_value (texts_in x)) is.callback ∙ ap arc_value (set.texts ∙ c.in_ok-rules_of.ensures.texts) ∙ c.in_ok-texts.ensures.cases;
      settings = ap settings_of is.callback ∙ set.settings ∙ c.in_ok-rules_of.ensures.settings;
      excluded = ap (λ x. excluded_of (next_of x)) is.callback ∙ ap excluded_of set.next ∙ c.in_ok-excluding.ensures;
      begins = ap rules_held is.state ∙ built.state;
    })) (prints known))
    c.search_walk.ensures.yielded
