use Rattle.std.proofs.Common.{◌≡◌, ℕ, ◌+◌, List, [], ◌∷◌, ◌++◌, length, sym, ap, subst, ◌∙◌, arith}
use Rattle.std.specs.Prelude.{vec_capacity}
use Rattle.std.proofs.lemmas.List.{length-append}
use Rattle.jwalk_memory_fs.specs.Branch.{Branch}
use Rattle.jwalk_memory_fs.specs.Table.{branches, free_places, IsReleasing}
use Rattle.jwalk_memory_fs.proofs.ReleaseLemmas.{first-releasing, room-first}
use Rattle.jwalk_memory_fs.proofs.table.Table.release.Goals as goal

pub set_free-requires : goal.set_free-requires
set_free-requires g c =
    room-first (branches c.args.self.now) (free_places c.args.self.now) c.args.index (vec_capacity c.args.self.now.free) c.requires.sound c.requires.spare c.requires.loose c.requires.once c.requires.room

pub loop-next-init : goal.loop-next-init
loop-next-init g c =
    let count : length (free_places c.args.self.now) ≡ c.len-next.result = let l = c.len-next.ensures in omega arith in
    let first = first-releasing (branches c.args.self.now) (free_places c.args.self.now) c.args.index c.requires.sound c.requires.spare c.requires.loose c.requires.once in (
      subst (IsReleasing (branches c.args.self.now) (branches c.set_free.new.self) (free_places c.set_free.new.self)) count
          (subst (λ (ks : List ℕ). IsReleasing (branches c.args.self.now) (branches c.set_free.new.self) ks (length (free_places c.args.self.now))) (sym c.set_free.ensures.pushed)
          (subst (λ (t : List Branch). IsReleasing (branches c.args.self.now) t (free_places c.args.self.now ++ c.args.index ∷ []) (length (free_places c.args.self.now))) (sym c.set_free.ensures.same) first)),
      (let p : length (free_places c.set_free.new.self) ≡ length (free_places c.args.self.now) + 1 = ap (λ (ks : List ℕ). length ks) c.set_free.ensures.pushed ∙ length-append (free_places c.args.self.now) (c.args.index ∷ []) in omega arith),
      (let r = c.requires.room in let k = c.set_free.ensures.room in omega arith),
    )
