use Rattle.std.proofs.Common.{◌≡◌, ◌++◌, take}
use Rattle.seek_words.specs.Layout.{slashed}
use Rattle.seek_words.proofs.layout.push_slashed.Given as goal

-- the bytes of the line so far are behind those that were there
abbrev pub invariant-loop-byte : goal.invariant-loop-byte
invariant-loop-byte l = l.out.items ≡ l.fn.out.items ++ slashed l.slash (take l.byte-index l.line)
