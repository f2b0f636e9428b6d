use Rattle.std.proofs.Common.{ap, ap₂, refl, sym, ◌∙◌, ◌++◌}
use Rattle.jwalk_changes.specs.AtPath.{names, path_cmp}
use Rattle.jwalk_changes.proofs.TextFacts.{back_cmp, whole_cmp}
use Rattle.jwalk_changes.proofs.at_path.compare.Goals as goal

pub returns-in-Some : goal.returns-in-Some
returns-in-Some g c =
    let a = c.path_parts-a.result in
    let b = c.path_parts-b.result in
    let rest = c.in-Some.rest.now in
    c.compare_texts.ensures ∙ back_cmp a.0.now a.0.now a.1.now rest refl ∙ ap (path_cmp (names a.0.now ++ names a.1.now)) (sym c.in-Some.ensures)
    ∙ ap₂ path_cmp c.path_parts-a.ensures c.path_parts-b.ensures

pub returns-in-Some-behind : goal.returns-in-Some-behind
returns-in-Some-behind g c =
    let a = c.path_parts-a.result in
    let b = c.path_parts-b.result in
    let rest = c.in-Some-behind.rest.now in
    c.compare_texts-in-Some-behind.ensures ∙ back_cmp b.0.now b.0.now rest b.1.now refl ∙ ap (λ k. path_cmp k (names b.0.now ++ names b.1.now)) (sym c.in-Some-behind.ensures)
    ∙ ap₂ path_cmp c.path_parts-a.ensures c.path_parts-b.ensures

pub returns-in-None : goal.returns-in-None
returns-in-None g c =
    let a = c.path_parts-a.result in
    let b = c.path_parts-b.result in
    c.compare_whole.ensures ∙ whole_cmp a.0.now a.1.now b.0.now b.1.now ∙ ap₂ path_cmp c.path_parts-a.ensures c.path_parts-b.ensures
