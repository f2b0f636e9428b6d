use Rattle.std.proofs.Common.{false, Ok, Err, sym, ap, ◌∙◌}
use Rattle.jwalk_memory_fs.specs.Hit.{hit_seen, answer_seen}
use Rattle.jwalk_memory_fs.specs.Table.{branches}
use Rattle.jwalk_memory_fs.proofs.AnswerLemmas.{answer-err, metadata-found}
use Rattle.jwalk_memory_fs.proofs.memory_fs.MemoryFsFileSystem.symlink_metadata.Goals as goal

pub returns-in-Ok-clause-value : goal.returns-in-Ok-clause-value
returns-in-Ok-clause-value g c =
    metadata-found (branches c.args.self.now.table) c.args.self.now.sound false c.args.path.now (hit_seen c.in-Ok.named) (sym c.look_up.ensures.value ∙ ap answer_seen c.in-Ok.is)
    ∙ ap (λ m. Ok m) (sym c.metadata.ensures)

pub returns-in-Err-clause-value : goal.returns-in-Err-clause-value
returns-in-Err-clause-value g c =
    answer-err (branches c.args.self.now.table) c.args.self.now.sound false c.args.path.now _ c.in-Err.kind (sym c.look_up.ensures.value ∙ ap answer_seen c.in-Err.is)
    ∙ ap (λ k. Err k) (sym c.from.ensures)
