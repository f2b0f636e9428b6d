use Rattle.std.proofs.Common.{◌++◌, ◌∷◌, [], ap, ◌∙◌, rules}
use Rattle.std.proofs.lemmas.List.{append_assoc}
use Rattle.jwalk_fs.proofs.SinkFacts.{takes_none, takes_on}
use Rattle.jwalk_memory_fs.specs.Branch.{listing_of}
use Rattle.jwalk_memory_fs.proofs.DirectoryLemmas.{named, found-named}
use Rattle.jwalk_memory_fs.proofs.directory.Directory.list_into.Goals as goal

pub loop-name-init : goal.loop-name-init
loop-name-init g c = (
  [],
  takes_none g.K.Sink.Took c.args.sink.now,
  ap (λ es. listing_of (named es)) c.into_iter-name-iterator.ensures.into_iter_gives.0,
)

pub loop-name-preserved : goal.loop-name-preserved
loop-name-preserved g c =
    let so_far = c.loop-name.invariant in (
      so_far.0 ++ _ ∷ [],
      takes_on g.K.Sink.Took so_far.0 (_ ∷ []) c.args.sink.now c.loop-name.sink c.take_seen.new.self so_far.1 c.in_ok-take_seen.ensures,
      append_assoc so_far.0 (_ ∷ []) (listing_of (named c.next.new.self)) ∙ ap (λ l. so_far.0 ++ l) (search rules) ∙ so_far.2,
    )

pub returns-clause-found : goal.returns-clause-found
returns-clause-found g c = found-named c.args.self.now.children.entries c.into_iter-name-iterator.ensures.into_iter_gives.4

pub returns-in_err-take_seen-clause-found : goal.returns-in_err-take_seen-clause-found
returns-in_err-take_seen-clause-found g c = found-named c.args.self.now.children.entries c.into_iter-name-iterator.ensures.into_iter_gives.4
