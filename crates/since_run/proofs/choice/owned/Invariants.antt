use Rattle.std.proofs.Common.{◌≡◌, map, string_bytes, take}
use Rattle.program_parts.specs.Values.{texts_of}
use Rattle.since_run.proofs.choice.owned.Given as goal

abbrev pub invariant-loop-text : goal.invariant-loop-text
invariant-loop-text l = map string_bytes l.own.items ≡ texts_of (take l.text-index l.texts)
