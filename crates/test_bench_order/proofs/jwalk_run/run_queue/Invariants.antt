use Rattle.std.proofs.Common.{◌≡◌}
use Rattle.test_bench_order.proofs.jwalk_run.run_queue.Given as goal

-- Each item that was pushed is pending.
abbrev pub invariant-loop-value : goal.invariant-loop-value
invariant-loop-value l = l.queue.pending ≡ l.value
