use Rattle.std.proofs.Common.{◌≡◌, map, take}
use Rattle.std.specs.Prelude.{string_bytes}
use Rattle.program_parts.specs.Values.{texts_of}
use Rattle.tally_run.proofs.exclude_files.with_texts.Given as goal

-- the texts so far
abbrev pub invariant-loop-text : goal.invariant-loop-text
invariant-loop-text l = texts_of l.excludes.items ≡ map string_bytes (take l.text-index l.read)
