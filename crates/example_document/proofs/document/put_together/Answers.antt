use Rattle.std.proofs.Common.{◌∙◌, sym, ap, map}
use Rattle.std.proofs.lemmas.List.{map-id}
use Rattle.std.proofs.lemmas.Result.{IfOk-weaker}
use Rattle.jwalk_board.specs.Plan.{readings_in_preorder, values}
use Rattle.example_document.specs.declared.document.Line.TheVariants.{Part}
use Rattle.example_document.specs.Document.{document_tree}
use Rattle.example_document.proofs.DocumentFacts.{told_whole}
use Rattle.example_document.proofs.document.put_together.Goals as goal

pub returns : goal.returns
returns g c =
    IfOk-weaker c.read_all.result _ _
    (λ v is.
    sym (map-id v.items)
    ∙ is tt tt
    ∙ ap (λ d. values (readings_in_preorder (document_tree d) (map (λ p. p) c.in_ok-vec.field-0.items))) c.in_ok-shared.ensures.ok
    ∙ ap (λ l. values (readings_in_preorder (document_tree c.args.document) l)) (map-id c.in_ok-vec.field-0.items ∙ c.in_ok-vec.ensures.items)
    ∙ told_whole c.args.document c.args.levels (Part c.args.part))
    c.read_all.ensures
