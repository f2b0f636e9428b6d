use Rattle.std.proofs.Common.{◌≡◌, map}
use Rattle.std.specs.List.{filter}
use Rattle.jwalk.specs.jwalk_job.Entry.{item}
use Rattle.jwalk_ignore.proofs.callback.kept.kept.Given as goal

-- what is kept so far is left of what was gone over, by each test that decided at the start, and it still does
abbrev pub invariant-loop-found : goal.invariant-loop-found
invariant-loop-found g l = record {
  same : (test : _) → g.K.Keeps.decides_by l.fn.rules test → g.K.Keeps.decides_by l.rules test;
  kept : (test : _) → g.K.Keeps.decides_by l.fn.rules test → map item l.kept.items ≡ filter test (map item l.yielded);
}
