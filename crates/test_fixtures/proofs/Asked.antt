-- The two functions over a gate at a call: what each is given, and what a caller has of it. Assumes `Logic`.
use Rattle.std.proofs.Common.{◌≡◌, ℕ, ◌+◌, List, [], ◌∷◌, Bool, refl, ap}
use seplogic.Ra.Ura.{Ura}
use mir.Val.{Val, vunit, vbool, vptr}
use base.Logic.{SProp, ent, sep, ex, guard, id⊢}
use base.Fml.{Lft, Share, ftrue, fsep, flft}
use prog.Memory.{Memory, size, align, up}
use prog.Routine.{Routine}
use types.Logic.{Logic, sem}
use contract.Monad.{Fun}
use types.Kit.{‵, ◌⊛◌, some, later, ◌$◌, ◌∵◌, !, qed, move, keep, use1, split, join, pick, fjoin, feq_i, feq_l, check, await, updating, now as at_once, show, done}
use denote.Memory.{hidden_shr}
use denote.Builtin.{bool, unit}
use denote.Steps.{nothing, only}
use denote.Triple.Statement.{Contract}
use denote.Triple.Spec.{triple_of}
use Rattle.std.proofs.alloc.Calls.{Al, α}
use Rattle.test_fixtures.specs.contracts.refusing_alloc.Gate as G
use Rattle.test_fixtures.specs.contracts.refusing_alloc.refuses as R
use Rattle.test_fixtures.specs.contracts.refusing_alloc.takes_back as B

-- the place of the inner allocator, of one at a place
abbrev pub inner_at : Al → ℕ × ℕ → ℕ × ℕ
inner_at Z at = (at.0, at.1 + up (align (α Z)) 0)

-- the place of its gate
abbrev pub gate_at : Al → ℕ × ℕ → ℕ × ℕ
gate_at Z at = (at.0, at.1 + up 8 (up (align (α Z)) 0 + size (α Z)))

-- a gate, shared
abbrev pub shown : Lft → ℕ × ℕ → G.the_row.Denot → base.Fml.Fml
shown κ at g = hidden_shr G.the_row κ g at.0 at.1

module _ {M : Type 1} {𝓤 : Ura M} (𝓛 : Logic 𝓤) (at_mem : Memory → SProp 𝓤) (run : Routine → Fun 𝓤) where
  abbrev pub Refuses : Contract 𝓤
  Refuses = triple_of 𝓛 R.signature (R.spec 𝓛 at_mem run)

  abbrev pub TakesBack : Contract 𝓤
  TakesBack = triple_of 𝓛 B.signature (B.spec 𝓛 at_mem run)

  abbrev pub of_gate : Lft → Share → ℕ × ℕ → G.the_row.Denot → Refuses.Ghost
  of_gate κ q at g = (((κ, tt), (q, tt), tt, (record { ref_ptr = at; now = g }, tt), (vptr at.0 at.1 ∷ [], tt)), tt)

  abbrev pub to_gate : Lft → Share → ℕ × ℕ → G.the_row.Denot → TakesBack.Ghost
  to_gate κ q at g = (((κ, tt), (q, tt), tt, (record { ref_ptr = at; now = g }, tt), (vptr at.0 at.1 ∷ [], tt)), tt)

module _ {M : Type 1} {𝓤 : Ura M} (𝓛 : Logic 𝓤) (at_mem : Memory → SProp 𝓤) (run : Routine → Fun 𝓤) (κ : Lft) (q : Share) (at : ℕ × ℕ) (g : G.the_row.Denot) where
  open 𝓛 use {H, A}

  pub asks : ent 𝓤 (sep 𝓤 (sem 𝓛 (shown κ at g)) (A.lft κ q)) ((Refuses 𝓛 at_mem run).pre (of_gate 𝓛 at_mem run κ q at g))
  asks =
      qed 𝓛 (‵ (shown κ at g) ∷ ‵ (flft κ q) ∷ []) ∵
      feq_i ! (List Val) (vptr at.0 at.1 ∷ []) (vptr at.0 at.1 ∷ []) refl $ fjoin ! $ nothing ! $ move ! (1 ∷ []) $ fjoin ! $
      nothing ! $ move ! (2 ∷ []) $ join ! $ join ! $ nothing ! $ move ! (1 ∷ []) $ done !

  -- both are given the same
  pub gives : ent 𝓤 (sep 𝓤 (sem 𝓛 (shown κ at g)) (A.lft κ q)) ((TakesBack 𝓛 at_mem run).pre (to_gate 𝓛 at_mem run κ q at g))
  gives = asks

  -- the token comes back, beside a truth value
  abbrev pub Told : Val → SProp 𝓤
  Told v = ex 𝓤 (λ (y : Bool). guard 𝓤 (v ≡ vbool y) (A.lft κ q))

  pub tells : (v : Val) → ent 𝓤 ((Refuses 𝓛 at_mem run).post (of_gate 𝓛 at_mem run κ q at g) v) (H.⇛ (Told v))
  tells v =
      qed 𝓛 (types.Kit.raw ((Refuses 𝓛 at_mem run).post (of_gate 𝓛 at_mem run κ q at g) v) ∷ []) ∵ updating ! $
      use1 𝓛 (later (some (λ (y : Bool). ((‵ (flft κ q) ⊛ ‵ ftrue) ⊛ ‵ (bool.own_val y (v ∷ []))) ⊛ some (λ (ws : Unit {0} × Unit {0}). ‵ (fsep ftrue ftrue) ⊛ ‵ ftrue)))) (id⊢ 𝓤 _) $
      await ! tt $ pick ! (λ y. split ! $ split ! $ move ! (1 ∷ []) $ feq_l ! (λ e. split ! $ at_once ! $ show ! (λ (z : Bool). guard 𝓤 (v ≡ vbool z) (A.lft κ q)) y $ check ! (ap only e) $ keep ! (0 ∷ []) $ done !))

  pub back : (v : Val) → ent 𝓤 ((TakesBack 𝓛 at_mem run).post (to_gate 𝓛 at_mem run κ q at g) v) (H.⇛ (guard 𝓤 (v ≡ vunit) (A.lft κ q)))
  back v =
      qed 𝓛 (types.Kit.raw ((TakesBack 𝓛 at_mem run).post (to_gate 𝓛 at_mem run κ q at g) v) ∷ []) ∵ updating ! $
      use1 𝓛 (later (some (λ (r : Unit {0}). ((‵ (flft κ q) ⊛ ‵ ftrue) ⊛ ‵ (unit.own_val r (v ∷ []))) ⊛ some (λ (ws : Unit {0} × Unit {0}). ‵ (fsep ftrue ftrue) ⊛ ‵ ftrue)))) (id⊢ 𝓤 _) $
      await ! tt $ pick ! (λ _. split ! $ split ! $ move ! (1 ∷ []) $ feq_l ! (λ e. split ! $ at_once ! $ check ! (ap only e) $ keep ! (0 ∷ []) $ done !))
