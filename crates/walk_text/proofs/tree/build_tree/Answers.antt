use Rattle.std.proofs.Common.{ap, ◌∙◌}
use Rattle.std.proofs.lemmas.Iterator.Consumers.{YieldsList-from_first, YieldsList-so_far, YieldsList-turn, YieldsList-end}
use Rattle.std.proofs.lemmas.Result.{err_from_is_err_and}
use Rattle.jwalk_memory_fs.specs.MemoryFs.{tree_of}
use Rattle.walk_text.specs.TextLines.{numbered_from}
use Rattle.walk_text.specs.NumberedLines.{lines_left, numbered}
use Rattle.walk_text.proofs.BuiltFacts.{adds_more, builds, names_first}
use Rattle.walk_text.proofs.tree.build_tree.Goals as goal

pub loop-number-preserved : goal.loop-number-preserved
loop-number-preserved g c =
    adds_more c.loop-number.yielded (c.in-Some.number, c.in-Some.line) (tree_of c.new-fs.result) (tree_of c.loop-number.fs) (tree_of c.add_line.new.fs) c.loop-number.invariant c.in_ok-add_line.ensures.ok

pub returns-clause-built : goal.returns-clause-built
returns-clause-built g c =
    let from = YieldsList-from_first numbered lines_left {s = c.into_iter-number-iterator.result} (numbered_from 1 c.args.lines.now) (ap lines_left c.into_iter-number-iterator.ensures.into_iter_gives ∙ c.new-number-items.ensures) in
    let end = YieldsList-end from c.loop-number.yielded c.loop-number.number-iterator c.loop-number.yielded_by c.next.result c.next.new.self c.in-None.is c.next.ensures.steps in
    builds c.args.lines.now c.loop-number.yielded (tree_of c.new-fs.result) (tree_of c.loop-number.fs) end.0 c.new-fs.ensures c.loop-number.invariant

pub returns-in_err-add_line-clause-bad : goal.returns-in_err-add_line-clause-bad
returns-in_err-add_line-clause-bad g c =
    let from = YieldsList-from_first numbered lines_left {s = c.into_iter-number-iterator.result} (numbered_from 1 c.args.lines.now) (ap lines_left c.into_iter-number-iterator.ensures.into_iter_gives ∙ c.new-number-items.ensures) in
    let before = YieldsList-so_far from c.loop-number.yielded c.loop-number.number-iterator c.loop-number.yielded_by in
    let here = YieldsList-turn from c.loop-number.yielded c.loop-number.number-iterator c.loop-number.yielded_by c.next.result c.next.new.self (c.in-Some.number, c.in-Some.line) c.in-Some.is c.next.ensures.steps in
    let p = err_from_is_err_and c.from_residual.result c.from_residual.ensures.1 in
    rw (p.1, p.2) (names_first c.args.lines.now c.loop-number.yielded (c.in-Some.number, c.in-Some.line) (tree_of c.new-fs.result) (tree_of c.loop-number.fs) c.in_err-add_line.field-0.0 before here.0 here.1 c.new-fs.ensures c.loop-number.invariant c.in_err-add_line.ensures.bad)
