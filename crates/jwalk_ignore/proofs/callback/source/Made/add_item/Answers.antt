use Rattle.std.proofs.Common.{◌∷◌, [], map}
use Rattle.std.proofs.lemmas.List.{map-append}
use Rattle.jwalk.specs.jwalk_job.Entry.{item}
use Rattle.jwalk_ignore.specs.Callback.MadeDepths.{append_at}
use Rattle.jwalk_ignore.proofs.callback.source.Made.add_item.Goals as goal

pub returns-clause-depth : goal.returns-clause-depth
returns-clause-depth g c = λ depth one before.
    let old = c.args.self.now.list.items in
    let added = c.args.found ∷ [] in
    rw (c.in_ok-push.ensures.items, map-append item old added) (append_at depth (map item old) (map item added) before one)
