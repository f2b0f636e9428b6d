use Rattle.std.proofs.Common.{◌≡◌, map, take}
use Rattle.std.specs.Prelude.{flat_map}
use Rattle.seek_search.specs.RulesRead.{lines_at}
use Rattle.seek_search.proofs.rules_read.lines_read.Given as goal

-- the lines of the files so far
abbrev pub invariant-loop-path : goal.invariant-loop-path
invariant-loop-path g l =
    g.X.Texts.IsFixed l.texts → l.lines.items ≡ flat_map (lines_at (g.X.Texts.functions l.texts)) (map (λ it. it.now) (take l.path-index l.paths))
