use Rattle.test_bench_order.proofs.scrambled.address.Given as goal

abbrev pub decreases-loop-node : goal.decreases-loop-node
decreases-loop-node l = l.node
