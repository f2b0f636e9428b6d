use Rattle.seek_found.proofs.OwnerFacts.{by_nothing}
use Rattle.seek_found.proofs.owner.part_of.Goals as goal

pub returns-in-empty-clause-part : goal.returns-in-empty-clause-part
returns-in-empty-clause-part g c =
    by_nothing (g.X.Texts.IsFixed c.args.texts.now) (g.X.Texts.functions c.args.texts.now) c.args.file.now c.args.text.now _ c.as_bytes.ensures.value c.in-empty.len_below
