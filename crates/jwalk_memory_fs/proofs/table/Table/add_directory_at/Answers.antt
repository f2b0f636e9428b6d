use Rattle.std.proofs.Common.{List, ◌<◌, length, sym, ap, subst, ◌∙◌, arith}
use Rattle.jwalk_memory_fs.specs.Branch.{Branch, with_child, with_parent, with_parent_at}
use Rattle.jwalk_memory_fs.specs.Child.{Dir}
use Rattle.jwalk_memory_fs.specs.Directory.{branch}
use Rattle.jwalk_memory_fs.specs.Table.{branches}
use Rattle.jwalk_memory_fs.proofs.EditLemmas.{edited-set, length-edited}
use Rattle.jwalk_memory_fs.proofs.table.Table.add_directory_at.Goals as goal

pub returns-clause-ok : goal.returns-clause-ok
returns-clause-ok g c =
    edited-set (branch c.add.new.self.root) c.add.new.self.others.items (with_parent c.args.holder) c.args.place c.set_parent.new.self c.index_mut.result.now
    (λ e. let r = c.requires.below_root in omega arith) (subst (λ n. c.args.place < n) (sym (ap (λ (bs : List Branch). length bs) c.in_ok-add.ensures.ok ∙ length-edited (with_child c.args.name.now (Dir c.args.place)) (branches c.args.self.now) c.args.holder)) c.requires.place) c.index_mut.ensures.value c.set_parent.ensures
    ∙ ap (λ t. with_parent_at t c.args.place c.args.holder) c.in_ok-add.ensures.ok
