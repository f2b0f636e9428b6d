use Rattle.std.proofs.Common.{rules}
use Rattle.std.proofs.lemmas.Fn.{All-from_retain}
use Rattle.jwalk.specs.jwalk_job.Entry.{item}
use Rattle.test_fixtures.proofs.Depths.{IsAt, all_at}
use Rattle.test_fixtures.proofs.refused.callbacks.keep_depth.Goals as goal

pub returns : goal.returns
returns g c = all_at item c.args.depth _ (All-from_retain _ (IsAt item c.args.depth) _ (λ x b f' k. search rules) _ _ c.retain.ensures.filtered)
