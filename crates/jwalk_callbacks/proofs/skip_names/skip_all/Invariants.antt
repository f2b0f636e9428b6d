use Rattle.std.proofs.Common.{map, string_bytes}
use Rattle.jwalk_job.specs.Entry.{item}
use Rattle.jwalk_callbacks.specs.SkipNames.{skipped_item}
use Rattle.jwalk_callbacks.proofs.SkipFacts.{IsChangedTo}
use Rattle.jwalk_callbacks.proofs.skip_names.skip_all.Given as goal

-- those so far are skipped
abbrev pub invariant-loop-found : goal.invariant-loop-found
invariant-loop-found g l = IsChangedTo item (skipped_item (map string_bytes l.names)) l.fn.list.items l.found-index l.found-items
