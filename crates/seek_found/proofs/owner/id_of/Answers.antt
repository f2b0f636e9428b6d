use Rattle.std.proofs.Common.{◌∙◌, sym}
use Rattle.seek_found.proofs.OwnerFacts.{by_number}
use Rattle.seek_found.proofs.owner.id_of.Goals as goal

pub returns-in-Some-clause-id : goal.returns-in-Some-clause-id
returns-in-Some-clause-id g c =
    by_number (g.X.Texts.IsFixed c.args.texts.now) (g.X.Texts.functions c.args.texts.now) c.args.file.now c.args.text.now c.in-Some.id (sym c.in-Some.is ∙ c.number_in.ensures)
