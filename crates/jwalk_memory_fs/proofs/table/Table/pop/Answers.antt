use Rattle.std.proofs.Common.{◌≢◌, sym, ap, refl, ◌∙◌, arith}
use Rattle.std.specs.Prelude.{slice_set}
use Rattle.jwalk_memory_fs.specs.Branch.{branch_at}
use Rattle.jwalk_memory_fs.specs.Directory.{branch}
use Rattle.jwalk_memory_fs.specs.Table.{branches}
use Rattle.jwalk_memory_fs.proofs.EditLemmas.{edited-set, branch_there}
use Rattle.jwalk_memory_fs.proofs.SpareLemmas.{at_put}
use Rattle.jwalk_memory_fs.proofs.ReleaseLemmas.{pops-there}
use Rattle.jwalk_memory_fs.proofs.table.Table.pop.Goals as goal

pub returns-clause-cases : goal.returns-clause-cases
returns-clause-cases g c =
    let ne : c.args.place ≢ 0 = λ e. let r = c.requires.below_root in omega arith in
    let put = edited-set (branch c.args.self.now.root) c.args.self.now.others.items (λ b. branch c.pop.new.self) c.args.place c.pop.new.self c.index_mut.result.now ne c.requires.within c.index_mut.ensures.value refl in
    pops-there c.pop.result (branch c.index_mut.result.now) (branch c.pop.new.self) _ _
    (sym (branch_there (branch c.args.self.now.root) c.args.self.now.others.items c.args.place c.index_mut.result.now ne c.requires.within c.index_mut.ensures.value))
    (sym (ap (λ t. branch_at t c.args.place) put ∙ at_put (branches c.args.self.now) c.args.place (branch c.pop.new.self) c.requires.within)) c.pop.ensures.cases

pub returns-clause-others : goal.returns-clause-others
returns-clause-others g c =
    let ne : c.args.place ≢ 0 = λ e. let r = c.requires.below_root in omega arith in
    let put = edited-set (branch c.args.self.now.root) c.args.self.now.others.items (λ b. branch c.pop.new.self) c.args.place c.pop.new.self c.index_mut.result.now ne c.requires.within c.index_mut.ensures.value refl in
    put ∙ ap (λ b. slice_set (branches c.args.self.now) c.args.place b) (sym (ap (λ t. branch_at t c.args.place) put ∙ at_put (branches c.args.self.now) c.args.place (branch c.pop.new.self) c.requires.within))
