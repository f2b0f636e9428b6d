use Rattle.std.proofs.Common.{map, take}
use Rattle.std.specs.Io.KnownBytes.{append_known, Appends}
use Rattle.jwalk_snapshot.specs.Text.{folder_of}
use Rattle.since_parts.specs.Row.{rows_of}
use Rattle.since_run.proofs.rows.write_rows.Given as goal

abbrev pub invariant-loop-block : goal.invariant-loop-block
invariant-loop-block g l =
    Appends (g.W.Write.contents l.fn.out) (append_known (g.W.Write.contents l.out) l.gathered.bytes.items) (rows_of l.style (map folder_of (take l.block-index l.blocks)))
