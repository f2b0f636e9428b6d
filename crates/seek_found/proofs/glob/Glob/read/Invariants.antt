use Rattle.std.proofs.Common.{◌≡◌, Some, drop, map, string_bytes}
use Rattle.seek_found.specs.Glob.{added, patterns_in, values_of}
use Rattle.seek_found.proofs.glob.Glob.read.Given as goal

-- the patterns of the texts so far, and those of the others, are all
abbrev pub invariant-loop-text : goal.invariant-loop-text
invariant-loop-text l =
    added (Some (values_of l.patterns.items)) (patterns_in l.ignores_case (drop l.text-index (map string_bytes l.texts))) ≡ patterns_in l.ignores_case (map string_bytes l.texts)
