use Rattle.std.proofs.Common.{true, ◌≡◌, ◌∙◌, refl, sym, ap, subst, rules}
use Rattle.std.proofs.lemmas.Result.{IfOk-weaker}
use Rattle.jwalk.specs.jwalk_model.Counted.{blank}
use Rattle.jwalk.specs.jwalk_model.Options.{defaults, with_sort}
use Rattle.jwalk.specs.WalkDir.{file_system_of, options_of, state_of}
use Rattle.example_proofs.specs.HandsOnNames.{worth_of, names_handed_on}
use Rattle.example_proofs.proofs.hands_on_names.walk_handing_on_names.Goals as goal

pub returns : goal.returns
returns g c =
    let walk = c.process_read_dir-walk.result in
    let built = c.process_read_dir-walk.ensures in
    let file_system : file_system_of walk ≡ c.args.fs = built.file_system ∙ c.sort.ensures.file_system ∙ c.new.ensures.file_system in
    let options : options_of walk ≡ with_sort true defaults = built.options ∙ c.sort.ensures.options ∙ ap (with_sort true) c.new.ensures.options in
    let root = built.root ∙ c.sort.ensures.root ∙ c.new.ensures.root in
    let state : worth_of (state_of walk) ≡ blank = ap worth_of (built.state ∙ c.sort.ensures.state) ∙ ap worth_of c.new.ensures.state in
    IfOk-weaker c.walk_given.result _ _
    (λ found told fixed none.
    let whole = told names_handed_on
    (record { file_system = subst g.S.FileSystem.IsFixed (sym file_system) fixed; callback = refl; clones = λ x y is. search rules; default = λ x is. ap worth_of is })
    none in
    rw (file_system, options, root, state) at whole)
    c.walk_given.ensures
