use Rattle.std.proofs.Common.{◌≡◌, ◌++◌, ◌-◌, length, replicate}
use Rattle.seek_details.proofs.columns.push_padded.Given as goal

-- the bytes so far, and those that are missing
abbrev pub invariant-loop-missing : goal.invariant-loop-missing
invariant-loop-missing l =
    l.out.items ++ replicate l.missing l.fill ≡ l.fn.out.items ++ replicate (l.fn.width - length l.fn.text) l.fn.fill

abbrev pub decreases-loop-missing : goal.decreases-loop-missing
decreases-loop-missing l = l.missing
