use Rattle.std.proofs.Common.{◌≡◌, ℕ, List, [], ◌∷◌, ◌++◌, length, sym, ap, subst, ◌∙◌, string_bytes, arith}
use Rattle.std.specs.Prelude.{slice_set, vec_capacity}
use Rattle.std.proofs.lemmas.Grind.{get_or_default_zero}
use Rattle.jwalk_memory_fs.specs.Child.{child_seen}
use Rattle.jwalk_memory_fs.specs.Branch.{branch_at, children_at, empty_branch, PopsLast}
use Rattle.jwalk_memory_fs.specs.Table.{branches, free_places, IsTurn}
use Rattle.jwalk_memory_fs.proofs.ReleaseLemmas.{set-twice, turn-leaf, turn-directory, turn-empty, room-directory}
use Rattle.jwalk_memory_fs.proofs.table.Table.turn.Goals as goal
use Rattle.jwalk_memory_fs.proofs.table.Table.turn.Goals.{in-Dir, in-File, in-Link}

pub returns-in_default-clause-turn : goal.returns-in_default-clause-turn
returns-in_default-clause-turn g c =
    let at = c.index-place.ensures ∙ get_or_default_zero (free_places c.args.self.now) c.args.next c.index-place.result.now c.requires.within in
    turn-empty (branches c.args.self.now) (free_places c.args.self.now) c.args.next c.requires.sound c.requires.spare c.requires.within (branches c.clear.new.self) (free_places c.clear.new.self)
    (subst (λ p. children_at (branches c.args.self.now) p ≡ []) at c.in_default.ensures.cases)
    (c.clear.ensures.cleared ∙ ap (λ t. slice_set t c.index-place.result.now (empty_branch 0)) c.pop.ensures.others
    ∙ set-twice (branches c.args.self.now) c.index-place.result.now (branch_at (branches c.pop.new.self) c.index-place.result.now) (empty_branch 0)
    ∙ ap (λ p. slice_set (branches c.args.self.now) p (empty_branch 0)) at)
    (c.clear.ensures.kept ∙ c.pop.ensures.kept)

pub set_free-requires : goal.set_free-requires
set_free-requires g c =
    let at = c.index-place.ensures ∙ get_or_default_zero (free_places c.args.self.now) c.args.next c.index-place.result.now c.requires.within in
    let others = subst (λ p. branches c.pop.new.self ≡ slice_set (branches c.args.self.now) p (branch_at (branches c.pop.new.self) p)) at c.pop.ensures.others in
    let pops = subst (λ p. PopsLast (branch_at (branches c.args.self.now) p) (string_bytes c.in-Some.field-0-0) (child_seen c.in-Some.child) (branch_at (branches c.pop.new.self) p)) at c.in-Some.ensures.cases in
    let room = room-directory (branches c.args.self.now) (free_places c.args.self.now) c.args.next c.requires.sound c.requires.spare c.requires.within (string_bytes c.in-Some.field-0-0) (child_seen c.in-Some.child)
    (branches c.pop.new.self) others pops c.in-Dir.below (vec_capacity c.args.self.now.free) (ap child_seen c.in-Dir.is) c.requires.room in
    let same : length (free_places c.pop.new.self) ≡ length (free_places c.args.self.now) = ap (λ (ks : List ℕ). length ks) c.pop.ensures.kept in
    let capacity = c.pop.ensures.room in
    omega arith

pub returns-clause-turn : goal.returns-clause-turn
returns-clause-turn g c =
    let at = c.index-place.ensures ∙ get_or_default_zero (free_places c.args.self.now) c.args.next c.index-place.result.now c.requires.within in
    let others = subst (λ p. branches c.pop.new.self ≡ slice_set (branches c.args.self.now) p (branch_at (branches c.pop.new.self) p)) at c.pop.ensures.others in
    let pops = subst (λ p. PopsLast (branch_at (branches c.args.self.now) p) (string_bytes c.in-Some.field-0-0) (child_seen c.in-Some.child) (branch_at (branches c.pop.new.self) p)) at c.in-Some.ensures.cases in
    elim c.match-child.branch [
      | in-Dir w ↦
          subst (λ n. IsTurn (branches c.args.self.now) c.args.next (branches c.match-child.self) (free_places c.match-child.self) n) (sym w.result-is)
          (turn-directory (branches c.args.self.now) (free_places c.args.self.now) c.args.next c.requires.sound c.requires.spare c.requires.within (string_bytes c.in-Some.field-0-0) (child_seen c.in-Some.child)
          (branches c.pop.new.self) others pops w.in-Dir.below (ap child_seen w.in-Dir.is) (branches c.match-child.self) (free_places c.match-child.self)
          (ap branches w.self-is ∙ w.set_free.ensures.same) (ap free_places w.self-is ∙ w.set_free.ensures.pushed ∙ ap (λ ks. ks ++ w.in-Dir.below ∷ []) c.pop.ensures.kept))
      | in-File w ↦
          subst (λ t. IsTurn (branches c.args.self.now) c.args.next (branches t) (free_places t) c.match-child.result) (sym w.self-is)
          (subst (λ n. IsTurn (branches c.args.self.now) c.args.next (branches c.pop.new.self) (free_places c.pop.new.self) n) (sym w.result-is)
          (turn-leaf (branches c.args.self.now) (free_places c.args.self.now) c.args.next c.requires.sound c.requires.spare c.requires.within (string_bytes c.in-Some.field-0-0) (child_seen c.in-Some.child)
          (branches c.pop.new.self) others pops (free_places c.pop.new.self) c.pop.ensures.kept))
      | in-Link w ↦
          subst (λ t. IsTurn (branches c.args.self.now) c.args.next (branches t) (free_places t) c.match-child.result) (sym w.self-is)
          (subst (λ n. IsTurn (branches c.args.self.now) c.args.next (branches c.pop.new.self) (free_places c.pop.new.self) n) (sym w.result-is)
          (turn-leaf (branches c.args.self.now) (free_places c.args.self.now) c.args.next c.requires.sound c.requires.spare c.requires.within (string_bytes c.in-Some.field-0-0) (child_seen c.in-Some.child)
          (branches c.pop.new.self) others pops (free_places c.pop.new.self) c.pop.ensures.kept))
    ]
