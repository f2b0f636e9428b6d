use Rattle.std.proofs.Common.{◌≡◌, Ok, map, take}
use Rattle.std.specs.Prelude.{string_bytes}
use Rattle.program_parts.specs.Values.{texts_of}
use Rattle.tally_run.proofs.exclude_files.texts_at.Given as goal

-- the texts of the files so far
abbrev pub invariant-loop-path : goal.invariant-loop-path
invariant-loop-path g l =
    g.X.Texts.IsFixed l.texts → map ((g.X.Texts.functions l.texts).bytes_of) (texts_of (take l.path-index l.paths)) ≡ map Ok (map string_bytes l.read.items)
