use Rattle.std.proofs.Common.{◌≡◌, ◌++◌, map, drop}
use Rattle.jwalk_ignore.specs.Callback.Excluding.{lines_text}
use Rattle.jwalk_ignore.proofs.callback.excluding.text_of.Given as goal

abbrev pub invariant-loop-line : goal.invariant-loop-line
invariant-loop-line l = l.text.items ++ lines_text (map (λ it. it.now) (drop l.line-index l.lines)) ≡ lines_text (map (λ it. it.now) l.lines)
