use Rattle.std.proofs.Common.{[], ◌∷◌, Ok, refl, sym, append-nil}
use Rattle.jwalk_fs.specs.Views.{named_as}
use Rattle.jwalk_job.proofs.GatheredFacts.{gathered_more}
use Rattle.jwalk_job.proofs.job.gathering.GatheringSink.take_seen.Goals as goal

pub returns-in_ok-push-in-Some : goal.returns-in_ok-push-in-Some
returns-in_ok-push-in-Some g c = λ first before so_far.
    let deep = rw c.in-Some.is at c.in_ok-item.ensures.depth in
    gathered_more g.S.FileSystem g.C.DirEntryState.Default first c.args.self.now _ before (Ok (named_as c.args.name.now c.args.seen)) (c.in-Some.item ∷ []) refl refl c.in_ok-push-in-Some.ensures.items deep
    c.in_ok-item.ensures.asks
    (λ given fixed default inside. rw c.in-Some.is at (c.in_ok-item.ensures.value given fixed default inside)) so_far

pub returns-in-None : goal.returns-in-None
returns-in-None g c = λ first before so_far.
    gathered_more g.S.FileSystem g.C.DirEntryState.Default first c.args.self.now _ before (Ok (named_as c.args.name.now c.args.seen)) [] refl refl (sym (append-nil c.args.self.now.items.items)) tt
    c.in_ok-item.ensures.asks
    (λ given fixed default inside. rw c.in-None.is at (c.in_ok-item.ensures.value given fixed default inside)) so_far
