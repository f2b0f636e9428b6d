-- What an iterator of a walk has received and not passed on yet.
use Rattle.std.specs.Prelude.{◌≡◌, ℕ, zero, suc, ◌+◌, ◌-◌, ◌*◌, ◌^◌, Bool, true, false, not, List, [], ◌∷◌, flat_map, Option, Some, None, MatchBool}
use Rattle.jwalk_model.specs.Entry.{Item, has_directory}
use Rattle.jwalk_model.specs.ReadDir.{Spec, Outcome}
use Rattle.jwalk_model.specs.Listing.{Pair, Source, nothing, unread, was_read, listing, is_answered, answers}

abbrev pub first_source : {R E : Type 0} → Bool → List (Spec R) → Source R E
first_source false specs = nothing
first_source true [] = nothing
first_source true (spec ∷ specs) = unread spec

abbrev pub after_first : {R : Type 0} → Bool → List (Spec R) → List (Spec R)
after_first false specs = specs
after_first true [] = []
after_first true (spec ∷ specs) = specs

-- Each item that has a directory takes the next of the unread specifications.
abbrev pub pair_up : {R E : Type 0} → List (Item R E) → List (Spec R) → List (Pair R E)
pair_up [] specs = []
pair_up (x ∷ items) specs = record { item = x; source = first_source (has_directory x) specs } ∷ pair_up items (after_first (has_directory x) specs)

-- what an iterator that holds these pairs will yield
abbrev pub to_come : {R E : Type 0} → (Spec R → Outcome R E) → ℕ → ℕ → List (Pair R E) → List (Item R E)
to_come reading min_depth max_depth held = answers min_depth (listing reading max_depth held)

-- whether nothing comes from a source
abbrev pub is_plain : {R E : Type 0} → Source R E → Bool
is_plain nothing = true
is_plain (unread spec) = false
is_plain (was_read spec outcome) = false

-- the specification of a source that is unread
abbrev unread_in : {R E : Type 0} → Source R E → List (Spec R)
unread_in nothing = []
unread_in (unread spec) = spec ∷ []
unread_in (was_read spec outcome) = []

-- If no directory comes before the first item that the least depth keeps, that item is yielded and what follows it is held then. If none is kept and there is no directory, `None` is returned and nothing is held.
abbrev pub AnswersPlainly : {R E : Type 0} → ℕ → List (Pair R E) → Option (Item R E) → List (Pair R E) → Type 0
AnswersPlainly min_depth [] answer held = (answer ≡ None) × (held ≡ [])
AnswersPlainly min_depth (p ∷ rest) answer held =
    MatchBool (is_plain p.source)
    (MatchBool (is_answered min_depth p.item) ((answer ≡ Some p.item) × (held ≡ rest)) (AnswersPlainly min_depth rest answer held))
    (Unit {0})

-- At most how many answers come from a pair that is n levels above the greatest depth. These are itself, and as many as a list can have, each with what is below it.
unfoldable pub bound : ℕ → ℕ
bound zero = 1
bound (suc levels) = 1 + 2 ^ 64 * bound levels

abbrev pub source_weight : {R E : Type 0} → ℕ → Source R E → ℕ
source_weight max_depth nothing = 1
source_weight max_depth (unread spec) = bound (max_depth - spec.depth)
source_weight max_depth (was_read spec outcome) = bound (max_depth - spec.depth)

-- at most how many answers are to come from what is held
abbrev pub weight : {R E : Type 0} → ℕ → List (Pair R E) → ℕ
weight max_depth [] = 0
weight max_depth (p ∷ held) = source_weight max_depth p.source + weight max_depth held

-- at most how many readings are to come from specifications
abbrev pub spec_weight : {R : Type 0} → ℕ → List (Spec R) → ℕ
spec_weight max_depth [] = 0
spec_weight max_depth (spec ∷ specs) = bound (max_depth - spec.depth) + spec_weight max_depth specs

-- the unread specifications of what is held
abbrev pub sources : {R E : Type 0} → List (Pair R E) → List (Spec R)
sources = flat_map (λ p. unread_in p.source)

-- Each item that has a directory, and no other, has a source.
abbrev pub AreSourced : {R E : Type 0} → List (Pair R E) → Type 0
AreSourced [] = Unit {0}
AreSourced (p ∷ held) = (is_plain p.source ≡ not (has_directory p.item)) × AreSourced held
