use Rattle.std.proofs.Common.{◌≡◌, ◌≤◌, length, drop, false}
use Rattle.jwalk_ignore_rules.specs.Rules.Line.{trimmed}
use Rattle.jwalk_ignore_rules.proofs.LineFacts.{whole_end}
use Rattle.jwalk_ignore_rules.proofs.rules.line.trimmed.Given as goal

-- where what is kept ends, by what is kept of the rest
abbrev pub invariant-loop-place : goal.invariant-loop-place
invariant-loop-place l = record {
  within : l.end ≤ l.place;
  same : length (trimmed false l.text) ≡ whole_end l.end l.place (length (trimmed l.escaped (drop l.place l.text)));
}
