use Rattle.std.proofs.Common.{false, Ok, Err, is_err, sym, ap, ◌∙◌}
use Rattle.std.proofs.lemmas.Bool.{false≢true}
use Rattle.jwalk_memory_fs.specs.Hit.{on_dir, on_file, answer_seen}
use Rattle.jwalk_memory_fs.specs.Table.{branches}
use Rattle.jwalk_memory_fs.proofs.AnswerLemmas.{answer-err, target-found, no_target-found}
use Rattle.jwalk_memory_fs.proofs.memory_fs.MemoryFsFileSystem.read_link.Goals as goal

-- a link that is found is no error
pub returns-in_err-from_str-in-Ok-Link-clause-errors_need_no_memory : goal.returns-in_err-from_str-in-Ok-Link-clause-errors_need_no_memory
returns-in_err-from_str-in-Ok-Link-clause-errors_need_no_memory g c = λ is_error.
    let target = target-found (branches c.args.self.now.table) c.args.self.now.sound false c.args.path.now c.in-Ok-Link.field-0-0 c.in-Ok-Link.target.now
    (sym c.look_up.ensures.value ∙ ap answer_seen (c.in-Ok-Link.is ∙ ap (λ x. Ok x) c.in-Ok-Link.field-0-is)) in
    absurd (false≢true (sym (ap is_err target) ∙ is_error))

pub returns-in_ok-from_str-in-Ok-Link-clause-value : goal.returns-in_ok-from_str-in-Ok-Link-clause-value
returns-in_ok-from_str-in-Ok-Link-clause-value g c =
    target-found (branches c.args.self.now.table) c.args.self.now.sound false c.args.path.now c.in-Ok-Link.field-0-0 c.in-Ok-Link.target.now
    (sym c.look_up.ensures.value ∙ ap answer_seen (c.in-Ok-Link.is ∙ ap (λ x. Ok x) c.in-Ok-Link.field-0-is))
    ∙ ap (λ t. Ok t) (sym c.in_ok-from_str-in-Ok-Link.ensures.ok)

pub returns-in-Ok-File-clause-value : goal.returns-in-Ok-File-clause-value
returns-in-Ok-File-clause-value g c =
    no_target-found (branches c.args.self.now.table) c.args.self.now.sound false c.args.path.now (on_file c.in-Ok-File.field-0-0) tt
    (sym c.look_up.ensures.value ∙ ap answer_seen (c.in-Ok-File.is ∙ ap (λ x. Ok x) c.in-Ok-File.field-0-is))
    ∙ ap (λ k. Err k) (sym c.from.ensures)

pub returns-in-Ok-Dir-clause-value : goal.returns-in-Ok-Dir-clause-value
returns-in-Ok-Dir-clause-value g c =
    no_target-found (branches c.args.self.now.table) c.args.self.now.sound false c.args.path.now (on_dir c.in-Ok-Dir.field-0-0) tt
    (sym c.look_up.ensures.value ∙ ap answer_seen (c.in-Ok-Dir.is ∙ ap (λ x. Ok x) c.in-Ok-Dir.field-0-is))
    ∙ ap (λ k. Err k) (sym c.from-in-Ok-Dir.ensures)

pub returns-in-Err-clause-value : goal.returns-in-Err-clause-value
returns-in-Err-clause-value g c =
    answer-err (branches c.args.self.now.table) c.args.self.now.sound false c.args.path.now _ c.in-Err.kind (sym c.look_up.ensures.value ∙ ap answer_seen c.in-Err.is)
    ∙ ap (λ k. Err k) (sym c.from-in-Err.ensures)
