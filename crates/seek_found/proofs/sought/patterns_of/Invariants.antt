use Rattle.std.proofs.Common.{take}
use Rattle.program_parts.specs.Values.{texts_of}
use Rattle.seek_found.specs.Sought.{ArePatternsOf}
use Rattle.seek_found.proofs.sought.patterns_of.Given as goal

-- the patterns of the texts so far
abbrev pub invariant-loop-text : goal.invariant-loop-text
invariant-loop-text l = ArePatternsOf l.asked (texts_of (take l.text-index l.texts)) l.patterns.items
