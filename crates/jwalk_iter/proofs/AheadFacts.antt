-- Where a walk is at a directory, and what is ahead where nothing is to be read.
use Rattle.std.proofs.Common.{◌≡◌, ◌≢◌, ◌∙◌, false, true, List, [], ◌∷◌, ℕ, refl, sym, ap}
use Rattle.jwalk_model.specs.Entry.{Item, has_directory}
use Rattle.jwalk_model.specs.ReadDir.{Spec}
use Rattle.jwalk_readings.specs.ReadAhead.{ReadAhead, nothing_ahead, BeginsWith}
use Rattle.jwalk_iter.specs.Step.{IsAtDirectory}
use Rattle.jwalk_iter.specs.Entries.{Position}

-- no directory is to be read below an item that has none
pub alone_at : {R E : Type 0} (items rest : List (Item R E)) (x : Item R E) (specs : List (Spec R)) → items ≡ x ∷ rest → has_directory x ≡ false → ¬ IsAtDirectory items specs
alone_at [] rest x specs is none = absurd cc
alone_at (y ∷ items) rest x specs is none = λ at. let no : false ≡ true = sym none ∙ ap has_directory (let same : x ≡ y = cc in same) ∙ at.0 in cc

-- nor where nothing is left to be read
pub at_nothing : {R E : Type 0} (items : List (Item R E)) (specs : List (Spec R)) → specs ≡ [] → ¬ IsAtDirectory items specs
at_nothing [] specs none = λ at. at
at_nothing (x ∷ items) specs none = λ at. at.1 none

-- a directory is to be read below an item that has one, where something is left to be read
pub at_first : {R E : Type 0} (items rest : List (Item R E)) (x : Item R E) (specs more : List (Spec R)) (first : Spec R) → items ≡ x ∷ rest → has_directory x ≡ true → specs ≡ first ∷ more → IsAtDirectory items specs
at_first [] rest x specs more first is dir took = absurd cc
at_first (y ∷ items) rest x specs more first is dir took = (ap has_directory (let same : y ≡ x = cc in same) ∙ dir, λ none. let no : first ∷ more ≡ [] = sym took ∙ none in cc)

-- a directory is to be read below an entry that has one, where something is left to be read
pub at_entry : {R E : Type 0} (items rest : List (Item R E)) (x : Item R E) (specs : List (Spec R)) → items ≡ x ∷ rest → has_directory x ≡ true → specs ≢ [] → IsAtDirectory items specs
at_entry items rest x specs is has some = rw is (has, some)

-- and none below one that has none
pub not_at_entry : {R E : Type 0} (items rest : List (Item R E)) (x : Item R E) (specs : List (Spec R)) → items ≡ x ∷ rest → has_directory x ≡ false → ¬ IsAtDirectory items specs
not_at_entry items rest x specs is has = rw is (λ at. (let no : false ≡ true = sym has ∙ at.0 in cc))

-- nothing is to be read below no item
pub none_at : {R E : Type 0} (items : List (Item R E)) (specs : List (Spec R)) → items ≡ [] → ¬ IsAtDirectory items specs
none_at items specs none = rw none (λ at. at)

module _ {R : Type 0} where
  -- where nothing is to be read, nothing is queued
  pub begins_with_none : (specs : List (Spec R)) (frontier : List (List ℕ)) (ahead : ReadAhead R) → specs ≡ [] → frontier ≡ [] → ahead ≡ nothing_ahead → BeginsWith specs frontier ahead
  begins_with_none specs frontier ahead none nowhere nothing = rw (none, nowhere, nothing) (record { queue = record { moves = []; below = tt; is = refl }; done = refl; to_enter = refl })

-- positions are the same where their parts are
pub same_position : {R E : Type 0} {items others : List (Item R E)} {unread left : List (Spec R)} {frontier addresses : List (List ℕ)} {ahead then : ReadAhead R} → items ≡ others → unread ≡ left → frontier ≡ addresses → ahead ≡ then
    → ◌≡◌ {A = Position R E} (record { items = items; unread = unread; frontier = frontier; ahead = ahead }) (record { items = others; unread = left; frontier = addresses; ahead = then })
same_position these those addresses ahead = cc
