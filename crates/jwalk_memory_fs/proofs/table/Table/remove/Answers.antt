use Rattle.std.proofs.Common.{ℕ, List, length, Some, sym, ap, subst, ◌∙◌}
use Rattle.std.specs.Option.{option_map}
use Rattle.jwalk_memory_fs.specs.Child.{child_seen}
use Rattle.jwalk_memory_fs.specs.Branch.{Branch, tree_of_table, IsSound, IsLoose, AreSpare, IsRemoved}
use Rattle.jwalk_memory_fs.specs.Table.{branches, free_places}
use Rattle.jwalk_memory_fs.proofs.ReleaseLemmas.{sound-removed, spare-removed, loose-removed, removed-leaf}
use Rattle.jwalk_memory_fs.proofs.table.Table.remove.Goals as goal
use Rattle.jwalk_memory_fs.proofs.table.Table.remove.Goals.{in-Some-Dir, in-Some, in-None}

pub release-requires-clause-sound : goal.release-requires-clause-sound
release-requires-clause-sound g c = subst IsSound (sym c.take.ensures.others) (sound-removed (branches c.args.self.now) c.requires.sound c.args.holder c.args.name.now c.requires.within)

pub release-requires-clause-spare : goal.release-requires-clause-spare
release-requires-clause-spare g c =
    subst (λ (ks : List ℕ). AreSpare (branches c.take.new.self) ks (length ks)) (sym (c.take.ensures.kept ∙ c.reserve.ensures.items))
    (subst (λ (t : List Branch). AreSpare t (free_places c.args.self.now) (length (free_places c.args.self.now))) (sym c.take.ensures.others)
    (spare-removed (branches c.args.self.now) (free_places c.args.self.now) c.requires.spare c.args.holder c.args.name.now c.requires.within c.requires.kept))

pub release-requires-clause-loose : goal.release-requires-clause-loose
release-requires-clause-loose g c =
    subst (λ (t : List Branch). IsLoose t c.in-Some-Dir.index) (sym c.take.ensures.others)
    (loose-removed (branches c.args.self.now) c.requires.sound c.args.holder c.args.name.now c.requires.within c.in-Some-Dir.index
    (sym c.take.ensures.value ∙ ap (option_map child_seen) c.in-Some-Dir.is ∙ ap (λ x. Some (child_seen x)) c.in-Some-Dir.field-0-is))

pub returns-clause-ok : goal.returns-clause-ok
returns-clause-ok g c =
    let leaf = removed-leaf (branches c.args.self.now) (free_places c.args.self.now) c.args.holder c.args.name.now c.requires.sound c.requires.spare c.requires.within c.requires.kept
    (branches c.take.new.self) (free_places c.take.new.self) c.take.ensures.others (c.take.ensures.kept ∙ c.reserve.ensures.items) in
    elim c.match-take.branch [
      | in-Some-Dir w ↦
          subst (λ t. IsRemoved (branches c.args.self.now) c.args.holder c.args.name.now (branches t) (free_places t)) (sym w.self-is)
          (record {
            sound = w.release.ensures.sound;
            spare = w.release.ensures.spare;
            tree = λ q. w.release.ensures.tree q ∙ ap (λ t. tree_of_table t q) c.take.ensures.others;
          })
      | in-Some w ↦ subst (λ t. IsRemoved (branches c.args.self.now) c.args.holder c.args.name.now (branches t) (free_places t)) (sym w.self-is) leaf
      | in-None w ↦ subst (λ t. IsRemoved (branches c.args.self.now) c.args.holder c.args.name.now (branches t) (free_places t)) (sym w.self-is) leaf
    ]
