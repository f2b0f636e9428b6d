-- The words of a call.
use Rattle.std.specs.Prelude.{◌≡◌, ℕ, true, List, [], ◌∷◌, ◌++◌, Some, codes}
use Rattle.walk_text.specs.Number.{IsNumber, value_of}
use Rattle.walk_text.specs.Asked.{nothing, also}
use Rattle.walk_text.specs.declared.asked.Asked.{Asked}
use Rattle.walk_text.specs.declared.asked.Choice.{Choice}
use Rattle.walk_text.specs.declared.asked.Choice.TheVariants.{Tree, Sort, Hidden, Follow, Usage, Min, Max, Read}
use Rattle.walk_text.specs.declared.read_by.ReadBy.TheVariants.{Batch, Crew}

-- The words begin with a number, and these are behind it.
abbrev pub BeginWithNumber : List (List ℕ) → ℕ → List (List ℕ) → Type 0
BeginWithNumber words n others = (digits : List ℕ) × (words ≡ digits ∷ others) × IsNumber digits × (value_of digits ≡ n)

-- The words begin with a name and a number.
abbrev pub BeginWithNamedNumber : List ℕ → List (List ℕ) → ℕ → List (List ℕ) → Type 0
BeginWithNamedNumber name words n others = (behind : List (List ℕ)) × (words ≡ name ∷ behind) × BeginWithNumber behind n others

-- The words begin with an option, and these are behind it.
abbrev pub Begin : List (List ℕ) → Choice → List (List ℕ) → Type 0
Begin words Tree others = words ≡ codes "--tree" ∷ others
Begin words Sort others = words ≡ codes "--sort" ∷ others
Begin words Hidden others = words ≡ codes "--hidden" ∷ others
Begin words Follow others = words ≡ codes "--follow" ∷ others
Begin words Usage others = words ≡ codes "--usage" ∷ others
Begin words (Min depth) others = BeginWithNamedNumber (codes "--min") words depth others
Begin words (Max depth) others = BeginWithNamedNumber (codes "--max") words depth others
Begin words (Read (Batch width)) others = BeginWithNamedNumber (codes "--batch") words width others
Begin words (Read (Crew workers)) others = BeginWithNamedNumber (codes "--crew") words workers others

-- The words are these options, one after another, and add what they ask for to what was asked for before.
abbrev pub AddAll : List Choice → List (List ℕ) → Asked → Asked → Type 0
AddAll [] words old new = (words ≡ []) × (new ≡ old)
AddAll (choice ∷ choices) words old new =
    (others : List (List ℕ)) × (mid : Asked) × Begin words choice others × (also choice old ≡ Some mid) × AddAll choices others mid new

-- The words are options, each at most once, that add what they ask for to what was asked for before.
abbrev pub Add : List (List ℕ) → Asked → Asked → Type 0
Add words old new = (choices : List Choice) × AddAll choices words old new

-- The words ask for this and name the root: options come first, and the last word is the root.
abbrev pub Ask : List (List ℕ) → Asked → List ℕ → Type 0
Ask words asked root = (options : List (List ℕ)) × (words ≡ options ++ root ∷ []) × Add options nothing asked

-- The words ask for a walk.
abbrev pub AreGood : List (List ℕ) → Type 0
AreGood words = (asked : Asked) × (root : List ℕ) × Ask words asked root

-- The words ask for a walk over a tree.
abbrev pub AskForTree : List (List ℕ) → Type 0
AskForTree words = (asked : Asked) × (root : List ℕ) × Ask words asked root × (asked.tree ≡ true)
