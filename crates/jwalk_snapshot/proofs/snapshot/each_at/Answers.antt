use Rattle.std.proofs.Common.{rules, ◌≡◌, ◌++◌, ◌∷◌, [], map}
use Rattle.std.proofs.lemmas.Result.{err_from_is_err_and}
use Rattle.std.proofs.lemmas.List.{map_push}
use Rattle.jwalk_snapshot.specs.Reading.{folder_at, list_at}
use Rattle.jwalk_snapshot.specs.Text.{folder_of}
use Rattle.jwalk_snapshot.proofs.ListFacts.{goes_on, fails, is_done}
use Rattle.jwalk_snapshot.proofs.snapshot.each_at.Goals as goal

pub returns-in_err-block : goal.returns-in_err-block
returns-in_err-block c =
    let p = err_from_is_err_and c.from_residual.result c.from_residual.ensures.1 in
    rw (p.1, p.2) (fails folder_at c.in_err-block.field-0.0 (map folder_of c.loop.blocks.items) c.args.count c.loop.counter c.loop.rest.now (list_at folder_at c.args.count c.args.text.now) c.loop-test.true c.in_err-block.ensures c.loop.invariant.1)

pub loop-preserved : goal.loop-preserved
loop-preserved c =
    let e : map folder_of c.push.new.self.items ≡ map folder_of c.loop.blocks.items ++ (folder_of c.in_ok-block.block) ∷ [] = rw c.in_ok-push.ensures.items (map_push folder_of c.loop.blocks.items c.in_ok-block.block) in
    (search rules, rw e (goes_on folder_at (map folder_of c.loop.blocks.items) c.args.count c.loop.counter c.loop.rest.now (folder_of c.in_ok-block.block) c.in_ok-block.after.now (list_at folder_at c.args.count c.args.text.now) c.loop-test.true c.in_ok-block.ensures c.loop.invariant.1))

pub returns : goal.returns
returns c = is_done folder_at (map folder_of c.loop.blocks.items) c.args.count c.loop.counter c.loop.rest.now (list_at folder_at c.args.count c.args.text.now) c.loop-test.false c.loop.invariant.1
