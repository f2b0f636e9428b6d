use Rattle.std.proofs.Common.{◌≡◌, ◌∙◌, ap, true, refl, string_bytes, subst, sym}
use Rattle.std.specs.Prelude.{is_some, if◌then◌else◌}
use Rattle.std.specs.Arc.{arc_value}
use Rattle.std.proofs.lemmas.Result.{IfOk-weaker}
use Rattle.jwalk.specs.jwalk_model.Options.{crew, serial}
use Rattle.jwalk.specs.WalkDir.{file_system_of, options_of, root_of, stateless}
use Rattle.jwalk.proofs.AlikeFacts.{stateless_however_read}
use Rattle.jwalk.proofs.WholeFacts.{stateless_of}
use Rattle.program_walks.specs.Crew.{with_crew}
use Rattle.since_run.specs.Walks.{options_for}
use Rattle.since_run.specs.Yielded.{IsTyped}
use Rattle.since_run.proofs.FindFacts.{found_of}
use Rattle.since_run.proofs.find.find_typed.Goals as goal

pub returns : goal.returns
returns g c =
    let walk = c.in_ok-walk.walk in
    let made = c.in_ok-walk.ensures in
    let tree = c.args.tree.now in
    let reads = is_some c.args.crew.now in
    let chosen = options_for true tree.choice in
    let over : file_system_of walk ≡ c.args.disk = made.file_system in
    let options : options_of walk ≡ with_crew reads chosen = made.options ∙ ap (with_crew reads) c.options_for-options.ensures in
    let below : root_of walk ≡ string_bytes tree.root = made.root ∙ (c.in_ok-root.ensures.ok ∙ c.as_str.ensures.value) in
    let typed : IsTyped (arc_value c.args.disk) c.args.crew.now tree.choice (string_bytes tree.root) walk = record {
      over = ap arc_value over;
      below = below;
      options = options;
      by = made.crew;
    } in
    IfOk-weaker c.take_walk.result _ _
    (λ found takes.
    found_of _ _ _ _ _ walk stateless _ (IsTyped (arc_value c.args.disk) c.args.crew.now tree.choice (string_bytes tree.root)) _ tree found typed
    (λ fixed. record {
      file_system = subst (λ fs. g.S.FileSystem.IsFixed (arc_value fs)) (sym over) fixed;
      callback = λ depth path state list. refl;
      clones = λ x y is. refl;
      default = λ x is. refl;
    })
    (λ fixed.
    stateless_of (λ fs. g.S.FileSystem.functions (arc_value fs)) walk c.args.disk (with_crew reads chosen) _ over options below
    ∙ stateless_however_read (if reads then crew else serial) (g.S.FileSystem.functions (arc_value c.args.disk)) chosen _)
    takes)
    c.take_walk.ensures
