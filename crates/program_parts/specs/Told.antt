-- How an error is told.
use Rattle.std.specs.Prelude.{ℕ, List, ◌++◌, codes, Option, None, Some, ⊤}
use Rattle.std.specs.Io.KnownBytes.{Appends}
use Rattle.program_parts.specs.declared.errors.Told.{Told}
use Rattle.program_parts.specs.declared.errors.Told.TheVariants.{Line, Lost, Output}

-- a line in the name of a program: the name, a colon, a space, what is said, and a line feed
abbrev pub line_by : List ℕ → List ℕ → List ℕ
line_by program what = program ++ (codes ": " ++ (what ++ codes "\n"))

module _ {E : Type 0} (contents : E → Option (List ℕ)) (program : List ℕ) where
  -- The last that a writer took is a line in the name of a program.
  pub record TookLine (err : E) : Type 0 where
    pub before : E
    pub what : List ℕ
    pub line : Appends (contents before) (contents err) (line_by program what)

  -- An error was told in this way: the writer took its line, unless that couldn't be written, or there is none.
  abbrev pub IsToldBy : Option Told → E → Type 0
  IsToldBy None err = ⊥
  IsToldBy (Some Line) err = TookLine err
  IsToldBy (Some Lost) err = ⊤
  IsToldBy (Some Output) err = ⊤
