-- When a list fits a pattern, of bytes and of names alike.
use Rattle.std.specs.Prelude.{◌≡◌, ℕ, List, [], ◌∷◌, ◌++◌, drop}
use Rattle.jwalk_ignore_rules.specs.declared.pattern.part.Part.{Part}
use Rattle.jwalk_ignore_rules.specs.declared.pattern.part.Part.TheVariants.{Many, One}

module _ {T X : Type 0} (takes : T → X → Type 0) where
  -- The items fit the parts: `Many` skips any number of items, and `One` takes one item that fits its test.
  abbrev pub Fits : List (Part T) → List X → Type 0
  Fits [] items = items ≡ []
  Fits (Many ∷ parts) items = (n : ℕ) × Fits parts (drop n items)
  Fits (One test ∷ parts) items = (item : X) × (rest : List X) × (items ≡ item ∷ rest) × takes test item × Fits parts rest

module _ {X : Type 0} (fits : X → Type 0) where
  -- the first of the items fits, and these are behind it
  abbrev pub FirstFits : List X → List X → Type 0
  FirstFits items behind = (item : X) × (items ≡ item ∷ behind) × fits item

  -- the last of the items fits, and these are in front of it
  abbrev pub LastFits : List X → List X → Type 0
  LastFits items front = (item : X) × (items ≡ front ++ item ∷ []) × fits item

-- a part with its test by value
abbrev pub part_map : {T S : Type 0} → (T → S) → Part T → Part S
part_map value Many = Many
part_map value (One test) = One (value test)
