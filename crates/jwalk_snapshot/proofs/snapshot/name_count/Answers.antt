use Rattle.std.proofs.Common.{◌≡◌, ◌^◌, ◌≤◌, ◌+◌, drop, arith}
use Rattle.std.specs.List.{sum_by}
use Rattle.jwalk_snapshot.proofs.ListFacts.{names_in, count_on, count_done, count_fits, count_exceeds}
use Rattle.jwalk_snapshot.proofs.snapshot.name_count.Goals as goal

pub returns-in_err-count : goal.returns-in_err-count
returns-in_err-count c =
    let one = count_on c.args.blocks.now c.loop-block.block-index c.block-item.result c.loop-block.count (sum_by names_in c.args.blocks.now) c.loop-block-test.true c.block-item.is c.loop-block.invariant.0 in
    let many : 2 ^ 64 ≤ sum_by names_in c.args.blocks.now = omega (arith, one, c.in_err-count.ensures, c.len.ensures, c.block-item.result.names.ok.0) in
    rw c.from_residual.ensures (count_exceeds c.args.blocks.now many)

pub loop-block-preserved : goal.loop-block-preserved
loop-block-preserved c =
    let one = count_on c.args.blocks.now c.loop-block.block-index c.block-item.result c.loop-block.count (sum_by names_in c.args.blocks.now) c.loop-block-test.true c.block-item.is c.loop-block.invariant.0 in
    (omega (arith, one, c.in_ok-count.ensures.1, c.len.ensures, c.block-item.result.names.ok.0), omega (arith, c.in_ok-count.ensures.0, c.in_ok-count.ensures.1))

pub returns : goal.returns
returns c = count_fits c.args.blocks.now c.loop-block.count (count_done c.args.blocks.now c.loop-block.block-index c.loop-block.count c.loop-block-test.false c.loop-block.invariant.0) c.loop-block.invariant.1
