use Rattle.std.proofs.Common.{Some, sym, ap, ◌∙◌}
use Rattle.std.specs.Option.{option_map}
use Rattle.jwalk_memory_fs.specs.Child.{child_seen}
use Rattle.jwalk_memory_fs.specs.Branch.{Branch, child_named}
use Rattle.jwalk_memory_fs.specs.Table.{branches}
use Rattle.jwalk_memory_fs.proofs.TableLemmas.{within_directory}
use Rattle.jwalk_memory_fs.proofs.memory_fs.MemoryFs.directory.Goals as goal

pub returns-in-Some-Dir-clause-within : goal.returns-in-Some-Dir-clause-within
returns-in-Some-Dir-clause-within g c =
    within_directory (branches c.args.self.now.table) c.args.self.now.sound c.in_ok-spot.spot.holder c.in_ok-spot.spot.name.now c.in-Some-Dir.index
    (ap (λ (b : Branch). child_named b.children c.in_ok-spot.spot.name.now) (sym c.directory.ensures) ∙ sym c.child.ensures ∙ ap (option_map (λ x. child_seen x.now)) c.in-Some-Dir.is
    ∙ ap (λ x. Some (child_seen x)) c.in-Some-Dir.field-0-is)
