use Rattle.std.proofs.Common.{◌≡◌, ◌∙◌, ap, refl, subst, sym}
use Rattle.std.specs.Prelude.{is_some}
use Rattle.std.specs.Arc.{arc_value}
use Rattle.std.proofs.lemmas.Result.{IfOk-weaker}
use Rattle.jwalk.specs.jwalk_model.Counted.{blank}
use Rattle.jwalk.specs.jwalk_job.Job.{IsSteady}
use Rattle.jwalk.specs.WalkDir.{file_system_of, callback_of, options_of, root_of}
use Rattle.program_walks.specs.Crew.{ReadsBy, with_crew}
use Rattle.program_walks.proofs.CrewFacts.{same_by_crew}
use Rattle.jwalk.specs.jwalk_callbacks.Both.{chaining, first_of, second_of}
use Rattle.jwalk_ignore.specs.Callback.Excluding.{Excluded, excluded_of, excluding}
use Rattle.jwalk_ignore.specs.Callback.Kept.{given_excluding}
use Rattle.seek_search.specs.Search.{excluded_asked, leaving_out, named_below, options_asked}
use Rattle.seek_words.specs.Filter.{sought_of}
use Rattle.seek_found.specs.Prune.{unpruned}
use Rattle.seek_found.specs.SoughtTest.{takes_of}
use Rattle.seek_found.proofs.FirstFacts.{first_as}
use Rattle.jwalk_ignore.proofs.KeptFacts.{whole_of}
use Rattle.seek_search.proofs.SearchFacts.{yielded_so}
use Rattle.seek_found.proofs.RootsFacts.{printed_such}
use Rattle.seek_search.specs.Goes.{IsPlain}
use Rattle.seek_search.proofs.search.Search.search_all.Goals as goal

pub returns-clause-whole : goal.returns-clause-whole
returns-clause-whole g c =
    let self = c.args.self.now in
    let asked = self.asked.now in
    let built = c.in_ok-walk.ensures in
    let set = c.process_read_dir.ensures in
    let walk = c.process_read_dir.result in
    let excluded = excluded_asked asked c.args.root.now in
    let named = named_below self.lines.now c.args.root.now in
    let given = chaining (given_excluding named) (given_excluding excluded) in
    let over : arc_value (file_system_of walk) ≡ arc_value self.disk = ap arc_value (set.file_system ∙ built.file_system) ∙ c.in_ok-disk.ensures.cases in
    let names : excluded_of (first_of (callback_of walk)) ≡ named
    = ap (λ it. excluded_of (first_of it)) set.callback ∙ ap excluded_of c.new.ensures.first ∙ c.in_ok-naming.ensures in
    let lines : excluded_of (second_of (callback_of walk)) ≡ excluded
    = ap (λ it. excluded_of (second_of it)) set.callback ∙ ap excluded_of c.new.ensures.second ∙ c.in_ok-excluding.ensures in
    let options : options_of walk ≡ with_crew (is_some c.args.crew.now) (options_asked asked)
    = set.options ∙ built.options ∙ ap (with_crew (is_some c.args.crew.now)) c.options.ensures in
    let root : root_of walk ≡ c.args.root.now = set.root ∙ built.root ∙ c.in_ok-root.ensures.ok in
    IfOk-weaker c.print_begun.result _ _
    (λ clean whole. λ fixed.
    let steady : IsSteady _ _ _ _ (file_system_of walk) (callback_of walk) given
    = record {
      file_system = subst g.S.FileSystem.IsFixed (sym over) fixed;
      callback = record {
        first = given_excluding named;
        second = given_excluding excluded;
        first_made = λ depth path state list. ap (λ (x : Excluded). excluding x depth path state list) (sym names);
        second_made = λ depth path state list. ap (λ (x : Excluded). excluding x depth path state list) (sym lines);
        first_alike = (refl, refl, refl);
        second_alike = (refl, refl, refl);
        in_turn = λ depth path state list. refl;
      };
      clones = λ x y h. refl;
      default = λ x h. refl;
    } in
    first_as (ap (unpruned (sought_of takes_of (g.S.FileSystem.functions (arc_value self.disk)) c.args.printer.now.filter))
    (whole_of (leaving_out named excluded) (ap g.S.FileSystem.functions over) options root refl
    ∙ same_by_crew (leaving_out named excluded) (is_some c.args.crew.now) (g.S.FileSystem.functions (arc_value self.disk)) (options_asked asked) c.args.root.now blank))
    (whole fixed given steady))
    c.print_begun.ensures.whole

pub returns-clause-yielded : goal.returns-clause-yielded
returns-clause-yielded g c =
    let self = c.args.self.now in
    let asked = self.asked.now in
    let built = c.in_ok-walk.ensures in
    let set = c.process_read_dir.ensures in
    let walk = c.process_read_dir.result in
    let plain : IsPlain (arc_value self.disk) c.args.crew.now self.lines.now asked c.args.root.now walk = record {
      over = ap arc_value (set.file_system ∙ built.file_system) ∙ c.in_ok-disk.ensures.cases;
      below = set.root ∙ built.root ∙ c.in_ok-root.ensures.ok;
      options = set.options ∙ built.options ∙ ap (with_crew (is_some c.args.crew.now)) c.options.ensures;
      by = subst (ReadsBy c.args.crew.now) (sym set.crew) built.crew;
      named = ap (λ it. excluded_of (first_of it)) set.callback ∙ ap excluded_of c.new.ensures.first ∙ c.in_ok-naming.ensures;
      excluded = ap (λ it. excluded_of (second_of it)) set.callback ∙ ap excluded_of c.new.ensures.second ∙ c.in_ok-excluding.ensures;
    } in
    IfOk-weaker c.print_begun.result _ _ (λ clean prints. λ known. printed_such (yielded_so _ (λ it is. subst (IsPlain (arc_value self.disk) c.args.crew.now self.lines.now asked c.args.root.now) (sym is) plain)) (prints known)) c.print_begun.ensures.yielded
