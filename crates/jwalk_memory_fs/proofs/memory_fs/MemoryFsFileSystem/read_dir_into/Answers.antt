use Rattle.std.proofs.Common.{true, Ok, Err, is_err, sym, ap, ◌∙◌}
use Rattle.std.proofs.lemmas.Bool.{false≢true}
use Rattle.jwalk_memory_fs.specs.Hit.{answer_seen}
use Rattle.jwalk_memory_fs.specs.Branch.{Branch, branch_at, listing_of}
use Rattle.jwalk_memory_fs.specs.Directory.{branch}
use Rattle.jwalk_memory_fs.specs.Table.{branches}
use Rattle.jwalk_memory_fs.proofs.AnswerLemmas.{answer-err, listing-found, no_listing-denied, no_listing-file, no_listing-link}
use Rattle.jwalk_memory_fs.proofs.memory_fs.MemoryFsFileSystem.read_dir_into.Goals as goal

pub returns-in-Some-clause-failed : goal.returns-in-Some-clause-failed
returns-in-Some-clause-failed g c =
    let at = c.directory-directory.ensures ∙ ap (branch_at (branches c.args.self.now.table)) c.in-Ok-Dir.index-is in
    no_listing-denied (branches c.args.self.now.table) c.args.self.now.sound true c.args.path.now c.in-Ok-Dir.index c.in-Some.kind
    (sym c.look_up.ensures.value ∙ ap answer_seen (c.in-Ok-Dir.is ∙ ap (λ x. Ok x) c.in-Ok-Dir.field-0-is))
    (ap (λ (b : Branch). b.denied) (sym at) ∙ c.in-Some.is)
    ∙ ap (λ k. Err k) (sym c.from.ensures)

pub returns-in_ok-list_into-in-Ok-Dir-clause-taken : goal.returns-in_ok-list_into-in-Ok-Dir-clause-taken
returns-in_ok-list_into-in-Ok-Dir-clause-taken g c = (
  listing_of (branch c.directory-directory.result.now).children,
  c.in_ok-list_into-in-Ok-Dir.ensures.items,
  listing-found (branches c.args.self.now.table) c.args.self.now.sound true c.args.path.now c.in-Ok-Dir.index (sym c.look_up.ensures.value ∙ ap answer_seen (c.in-Ok-Dir.is ∙ ap (λ x. Ok x) c.in-Ok-Dir.field-0-is))
      (branch c.directory-directory.result.now) (c.directory-directory.ensures ∙ ap (branch_at (branches c.args.self.now.table)) c.in-Ok-Dir.index-is) c.in_default.is
      c.list_into.ensures.found,
)

-- a directory that may be listed is no error
pub returns-in_err-list_into-in-Ok-Dir-clause-errors_need_no_memory : goal.returns-in_err-list_into-in-Ok-Dir-clause-errors_need_no_memory
returns-in_err-list_into-in-Ok-Dir-clause-errors_need_no_memory g c = λ is_error.
    let listed = listing-found (branches c.args.self.now.table) c.args.self.now.sound true c.args.path.now c.in-Ok-Dir.index (sym c.look_up.ensures.value ∙ ap answer_seen (c.in-Ok-Dir.is ∙ ap (λ x. Ok x) c.in-Ok-Dir.field-0-is))
    (branch c.directory-directory.result.now) (c.directory-directory.ensures ∙ ap (branch_at (branches c.args.self.now.table)) c.in-Ok-Dir.index-is) c.in_default.is
    c.list_into.ensures.found in
    absurd (false≢true (sym (ap is_err listed) ∙ is_error))

pub returns-in-Ok-File-clause-failed : goal.returns-in-Ok-File-clause-failed
returns-in-Ok-File-clause-failed g c =
    no_listing-file (branches c.args.self.now.table) c.args.self.now.sound true c.args.path.now c.in-Ok-File.field-0-0 (sym c.look_up.ensures.value ∙ ap answer_seen (c.in-Ok-File.is ∙ ap (λ x. Ok x) c.in-Ok-File.field-0-is))
    ∙ ap (λ k. Err k) (sym c.from-in-Ok-File.ensures)

pub returns-in-Ok-Link-clause-failed : goal.returns-in-Ok-Link-clause-failed
returns-in-Ok-Link-clause-failed g c =
    no_listing-link (branches c.args.self.now.table) c.args.self.now.sound true c.args.path.now c.in-Ok-Link.field-0-0 c.in-Ok-Link.field-0-1.now
    (sym c.look_up.ensures.value ∙ ap answer_seen (c.in-Ok-Link.is ∙ ap (λ x. Ok x) c.in-Ok-Link.field-0-is))
    ∙ ap (λ k. Err k) (sym c.from-in-Ok-Link.ensures)

pub returns-in-Err-clause-failed : goal.returns-in-Err-clause-failed
returns-in-Err-clause-failed g c =
    answer-err (branches c.args.self.now.table) c.args.self.now.sound true c.args.path.now _ c.in-Err.kind (sym c.look_up.ensures.value ∙ ap answer_seen c.in-Err.is)
    ∙ ap (λ k. Err k) (sym c.from-in-Err.ensures)
