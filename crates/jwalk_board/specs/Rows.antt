-- A small plan, its preorder and a run of moves: a root 0 with the children 1 and 2, and 1 with the one child 3.
use Rattle.std.specs.Prelude.{◌≡◌, ℕ, ◌-◌, ◌<◌, true, false, cond, ◌==◌, List, [], ◌∷◌, None, All, refl}
use Rattle.std.proofs.Common.{arith}
use Rattle.std.proofs.lemmas.Bool.{eqb-true}
use Rattle.std.proofs.lemmas.List.Elements.{All-nil, All-cons}
use Rattle.jwalk_order.specs.Addressed.{Addressed, addresses_of}
use Rattle.jwalk_board.specs.Plan.{PlanTree, Falls, readings_in_preorder, specs_in_preorder}
use Rattle.jwalk_board.specs.Run.{run_of_moves}
use Rattle.jwalk_board.specs.declared.board.moves.Move.TheVariants.{Take, Finish, HandOut}

abbrev pub family : PlanTree ℕ ℕ
family = record {
  reading = λ s. s;
  children = λ s. cond (s == 0) (1 ∷ 2 ∷ []) (cond (s == 1) (3 ∷ []) []);
  height = λ s. 4 - s;
}

pub family-falls : Falls family
family-falls s =
    let P : ℕ → Type 0 = λ c. 4 - c < 4 - s in
    elim (s == 0) as (λ b. (s == 0) ≡ b → All P (cond b (1 ∷ 2 ∷ []) (cond (s == 1) (3 ∷ []) []))) [
      | true ↦ λ e. let z : s ≡ 0 = eqb-true s 0 e in All-cons P 1 (2 ∷ []) (omega arith) (All-cons P 2 [] (omega arith) (All-nil P))
      | false ↦ λ _.
          elim (s == 1) as (λ b. (s == 1) ≡ b → All P (cond b (3 ∷ []) [])) [
            | true ↦ λ e. let z : s ≡ 1 = eqb-true s 1 e in All-cons P 3 [] (omega arith) (All-nil P)
            | false ↦ λ _. All-nil P
          ] refl
    ] refl

abbrev value_at : List ℕ → ℕ → ℕ → Addressed ℕ
value_at a value count = record { at = a; value = value; child_count = count }

pub family_in_preorder : readings_in_preorder family (0 ∷ [])
    ≡ value_at (0 ∷ []) 0 2 ∷ value_at (0 ∷ 0 ∷ []) 1 1 ∷ value_at (0 ∷ 0 ∷ 0 ∷ []) 3 0 ∷ value_at (0 ∷ 1 ∷ []) 2 0 ∷ []
family_in_preorder = refl

pub family_run : run_of_moves (addresses_of (specs_in_preorder family (0 ∷ []))) 2
    (Take 0 ∷ Finish 0 ∷ Take 1 ∷ Take 0 ∷ Finish 0 ∷ HandOut ∷ HandOut ∷ Take 0 ∷ Take 2 ∷ Finish 1 ∷ HandOut ∷ HandOut ∷ Take 1 ∷ Finish 1 ∷ HandOut ∷ HandOut ∷ [])
    ≡ record {
      taken = (0 ∷ []) ∷ (0 ∷ 0 ∷ []) ∷ (0 ∷ 1 ∷ []) ∷ (0 ∷ 0 ∷ 0 ∷ []) ∷ [];
      hands = None ∷ None ∷ [];
      finished = (0 ∷ 0 ∷ 0 ∷ []) ∷ (0 ∷ 0 ∷ []) ∷ (0 ∷ 1 ∷ []) ∷ (0 ∷ []) ∷ [];
      handed_out = 4;
    }
family_run = refl

-- A worker that is not there takes nothing.
pub no_worker : run_of_moves (addresses_of (specs_in_preorder family (0 ∷ []))) 0 (Take 0 ∷ HandOut ∷ []) ≡ record { taken = []; hands = []; finished = []; handed_out = 0 }
no_worker = refl
