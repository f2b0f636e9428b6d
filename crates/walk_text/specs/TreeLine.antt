-- The lines of a tree.
use Rattle.std.specs.Prelude.{◌≡◌, ◌≢◌, ◌<◌, ℕ, List, [], ◌∷◌, ◌++◌, length, get_or, ◌⊎◌, codes}
use Rattle.walk_text.specs.Number.{IsNumber, value_of}
use Rattle.walk_text.specs.declared.tree_line.TreeLine.{TreeLine}
use Rattle.walk_text.specs.declared.tree_line.TreeLine.TheVariants.{Dir, File, Link, Deny}

-- the byte of a space
abbrev pub space : ℕ
space = 32

-- the byte of a tab
abbrev pub tab : ℕ
tab = 9

-- no byte of the text is a tab
abbrev pub HasNoTab : List ℕ → Type 0
HasNoTab text = (i : ℕ) → i < length text → get_or text i 0 ≢ tab

-- a length and a path: `LEN PATH`, where PATH isn't empty
abbrev pub IsSizedPath : List ℕ → List ℕ → List ℕ → Type 0
IsSizedPath text digits path = (text ≡ digits ++ space ∷ path) × IsNumber digits × (path ≢ [])

-- a target and a path, parted by the first tab: `TARGET<tab>PATH`, where PATH isn't empty
abbrev pub IsLinkedPath : List ℕ → List ℕ → List ℕ → Type 0
IsLinkedPath text target path = (text ≡ target ++ tab ∷ path) × HasNoTab target × (path ≢ [])

-- the text is a letter and a path that isn't empty
abbrev pub IsPathLine : List ℕ → List ℕ → List ℕ → Type 0
IsPathLine letter text path = (text ≡ letter ++ space ∷ path) × (path ≢ [])

-- the text says what the line does: `d PATH`, `f LEN PATH`, `l TARGET<tab>PATH` or `x PATH`, where PATH isn't empty
abbrev pub Says : List ℕ → TreeLine → Type 0
Says text (Dir path) = IsPathLine (codes "d") text path.now
Says text (File len path) =
    (digits : List ℕ) × (text ≡ codes "f " ++ (digits ++ space ∷ path.now)) × IsNumber digits × (value_of digits ≡ len) × (path.now ≢ [])
Says text (Link target path) = (text ≡ codes "l " ++ (target.now ++ tab ∷ path.now)) × HasNoTab target.now × (path.now ≢ [])
Says text (Deny path) = IsPathLine (codes "x") text path.now

-- the text is a length and a path
abbrev pub HasSizedPath : List ℕ → Type 0
HasSizedPath text = (digits : List ℕ) × (path : List ℕ) × IsSizedPath text digits path

-- the text is a target and a path
abbrev pub HasLinkedPath : List ℕ → Type 0
HasLinkedPath text = (target : List ℕ) × (path : List ℕ) × IsLinkedPath text target path

-- the text is a line of a tree
abbrev pub IsTreeLine : List ℕ → Type 0
IsTreeLine text =
    ((path : List ℕ) × IsPathLine (codes "d") text path)
    ⊎ ((rest : List ℕ) × (text ≡ codes "f " ++ rest) × HasSizedPath rest)
    ⊎ ((rest : List ℕ) × (text ≡ codes "l " ++ rest) × HasLinkedPath rest)
    ⊎ ((path : List ℕ) × IsPathLine (codes "x") text path)
