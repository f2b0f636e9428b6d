use Rattle.std.proofs.Common.{◌∙◌, ap, eqb-true, length, sym}
use Rattle.std.proofs.lemmas.List.{nil_from_length}
use Rattle.jwalk_ignore.specs.Callback.Excluding.{excluded_in}
use Rattle.jwalk_ignore.proofs.callback.excluding.Excluding.of_text.Goals as goal

pub returns-then-is_empty : goal.returns-then-is_empty
returns-then-is_empty c =
    let text = c.args.text.now in
    ap (λ it. excluded_in it c.args.folder.now) (sym (nil_from_length text (eqb-true (length text) 0 (sym c.is_empty.ensures ∙ c.if-is_empty.true))))
