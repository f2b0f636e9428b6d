use Rattle.std.proofs.Common.{◌≡◌}
use Rattle.std.proofs.lemmas.Result.{on_ok_weaker}
use Rattle.walk_text.proofs.PrintFacts.{then}
use Rattle.walk_text.proofs.print.print_loop.Goals as goal

pub returns : goal.returns
returns g c =
    let child : c.as_bytes.result.now ≡ c.args.child.now = c.as_bytes.ensures.value in
    let ancestor : c.as_bytes-2.result.now ≡ c.args.ancestor.now = c.as_bytes-2.ensures.value in
    on_ok_weaker c.write_all-6.result
    (λ last. rw (← child, ← ancestor) (then _ _ _ _ _ c.in_ok-write_all.ensures.bytes
    (then _ _ _ _ _ c.in_ok-write_number.ensures
    (then _ _ _ _ _ c.in_ok-write_all-2.ensures.bytes
    (then _ _ _ _ _ c.in_ok-write_all-3.ensures.bytes
    (then _ _ _ _ _ c.in_ok-write_all-4.ensures.bytes
    (then _ _ _ _ _ c.in_ok-write_all-5.ensures.bytes last)))))))
    c.write_all-6.ensures.bytes
