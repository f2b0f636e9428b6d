-- The directories of a reading are one deeper than its own.
use Rattle.std.proofs.Common.{◌≡◌, ℕ, ◌+◌, ◌-◌, ◌<◌, List, [], ◌∷◌, Some, None, Ok, Err, inl, inr, option_to_list, arith}
use Rattle.std.specs.Prelude.{All, flat_map, option_map}
use Rattle.std.proofs.lemmas.Bool.Decides.{leb_tells}
use Rattle.std.proofs.lemmas.List.Elements.{All-nil, All-cons, All-append, All-weaker}
use Rattle.jwalk_model.specs.Entry.{Entry, Item, AtDepth}
use Rattle.jwalk_model.specs.ReadDir.{Spec, Reading, Outcome, IsLawfulReading, spec_of, spec_below, children, children_of}
use Rattle.jwalk_model.specs.Job.{Job, KeepsDepthsOf, reading}
use Rattle.jwalk_model.proofs.ReadingFacts.{readings_lawful}
use Rattle.jwalk_board.specs.Plan.{Falls}
use Rattle.jwalk_job.specs.Plan.{tree_of}

-- Each of these directories is nearer to the greatest depth than this one.
abbrev AreNearer : {R : Type 0} → ℕ → Spec R → List (Spec R) → Type 0
AreNearer max_depth s specs = All (λ c. max_depth - c.depth < max_depth - s.depth) specs

module _ {R E : Type 0} where
  -- the directory of an entry is as deep as the entry
  one_deeper : (depth : ℕ) (state : R) (e : Entry R E) → e.depth ≡ depth → All (λ s. s.depth ≡ depth) (option_to_list (spec_of {E = E} state (Ok e)))
  one_deeper depth state e h =
      elim e.read_children as (λ o. All (λ (s : Spec R). s.depth ≡ depth) (option_to_list (option_map (spec_below state e) o))) [
        | None ↦ All-nil _
        | Some c ↦ All-cons (λ (s : Spec R). s.depth ≡ depth) (spec_below state e c) [] h (All-nil _)
      ]

  -- those of a list are as deep as its entries
  children_deeper : (depth : ℕ) (state : R) (l : List (Item R E)) → AtDepth depth l → All (λ s. s.depth ≡ depth) (flat_map (λ item. option_to_list (spec_of state item)) l)
  children_deeper depth state [] h = All-nil _
  children_deeper depth state (Err f ∷ l) h = children_deeper depth state l h
  children_deeper depth state (Ok e ∷ l) h = All-append (λ (s : Spec R). s.depth ≡ depth) (option_to_list (spec_of {E = E} state (Ok e))) _ (one_deeper depth state e h.0) (children_deeper depth state l h.1)

  -- those of a lawful list are nearer to the greatest depth than the directory that was listed
  nearer_below : (max_depth : ℕ) (s : Spec R) (r : Reading R E) → IsLawfulReading {E = E} max_depth s (Ok r) → AreNearer max_depth s (children r)
  nearer_below max_depth s r lawful =
      elim (leb_tells max_depth s.depth) [
        | inl deep ↦ rw (lawful.1 deep.1) (All-nil _)
        | inr higher ↦
            All-weaker (λ (c : Spec R). c.depth ≡ s.depth + 1) (λ c. max_depth - c.depth < max_depth - s.depth) (λ c is. omega (arith, is, higher.1)) (children r)
            (children_deeper (s.depth + 1) r.state r.list lawful.0)
      ]

  -- and so are those of any lawful outcome
  nearer_of : (max_depth : ℕ) (s : Spec R) (outcome : Outcome R E) → IsLawfulReading max_depth s outcome → AreNearer max_depth s (children_of outcome)
  nearer_of max_depth s (Ok r) lawful = nearer_below max_depth s r lawful
  nearer_of max_depth s (Err f) lawful = All-nil _

  -- where the callback keeps depths, the tree of readings ends
  pub tree_of-falls : (job : Job R E) → KeepsDepthsOf job.processed → Falls (tree_of job)
  tree_of-falls job keeps s = nearer_of job.options.max_depth s (reading job s) (readings_lawful job keeps s)
