use Rattle.std.proofs.Common.{◌≡◌, ◌∙◌, ap, refl, rules, None, string_bytes, subst, sym}
use Rattle.std.specs.Prelude.{option_copied}
use Rattle.since_parts.specs.Tree.{own_below, own_texts, IsNamedBelow}
use Rattle.since_parts.proofs.tree.own_of.Goals as goal

pub returns-in_ok-own-in-Some : goal.returns-in_ok-own-in-Some
returns-in_ok-own-in-Some g c = λ fixed.
    let texts = g.X.Texts.functions c.args.texts.now in
    let same : c.as_str.result.now ≡ string_bytes c.in_ok-folder-in-Some.folder = search rules in
    subst (λ o. IsNamedBelow texts c.args.file.now o c.args.root.now (own_texts c.in_ok-own-in-Some.own))
    (ap option_copied (sym c.in-Some.is) ∙ c.file_name.ensures) (
      string_bytes c.in_ok-folder-in-Some.folder,
      ap texts.absolute_of (sym c.folder_in.ensures) ∙ c.in_ok-folder-in-Some.ensures fixed,
      c.in_ok-own-in-Some.ensures ∙ ap (λ folder. own_below folder c.in-Some.name.now c.args.root.now) same,
    )

pub returns-in-None : goal.returns-in-None
returns-in-None g c = λ fixed.
    subst (λ o. IsNamedBelow (g.X.Texts.functions c.args.texts.now) c.args.file.now o c.args.root.now None)
    (ap option_copied (sym c.in-None.is) ∙ c.file_name.ensures) refl
