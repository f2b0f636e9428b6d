-- Names that lie one behind another in a text.
use Rattle.std.specs.Prelude.{◌≡◌, ℕ, List, [], ◌∷◌, take, drop}
use Rattle.std.specs.Str.{IsCharBoundary}
use Rattle.jwalk_indexed_fs.specs.Name.{Name}
use Rattle.jwalk_indexed_fs.specs.declared.names.Piece.{Piece}

-- the names that pieces cut from a text
abbrev pub names_in : List ℕ → List Piece → List Name
names_in text [] = []
names_in text (p ∷ ps) = record { name = take p.len text; file_type = p.file_type } ∷ names_in (drop p.len text) ps

-- Pieces cut a text between characters, and nothing is left of it.
abbrev pub IsCut : List ℕ → List Piece → Type 0
IsCut text [] = text ≡ []
IsCut text (p ∷ ps) = IsCharBoundary text p.len × IsCut (drop p.len text) ps
