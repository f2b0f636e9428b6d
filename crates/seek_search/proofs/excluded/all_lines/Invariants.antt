use Rattle.std.proofs.Common.{◌≡◌, map, string_bytes, take}
use Rattle.std.specs.List.{flat_map}
use Rattle.program_parts.specs.Values.{texts_of}
use Rattle.seek_search.specs.Search.{lines_of}
use Rattle.seek_search.proofs.excluded.all_lines.Given as goal

-- the lines of those so far
abbrev pub invariant-loop-line : goal.invariant-loop-line
invariant-loop-line l = map string_bytes l.all.items ≡ flat_map lines_of (texts_of (take l.line-index l.lines))
