-- Path texts by their components, as in `std::path` on Unix. A text is the list of its bytes.
use Rattle.std.specs.Prelude.{ℕ, Bool, true, false, ◌||◌, ◌&&◌, List, [], ◌∷◌, ◌++◌, map, find, Option, Some, None, if◌then◌else◌, ◌==◌, bytes_eq, flat_map, fold}
use Rattle.std.specs.List.{slice_split}

-- one component of a path
pub data Component : Type 0 where
  root : Component
  here : Component
  up : Component
  plain : List ℕ → Component

-- the byte `/`
abbrev pub slash : ℕ
slash = 47

-- the texts `.` and `..`
abbrev pub dot : List ℕ
dot = 46 ∷ []

abbrev pub dots : List ℕ
dots = 46 ∷ 46 ∷ []

-- what is between the slashes of a text
abbrev pub parts : List ℕ → List (List ℕ)
parts = slice_split (λ b. b == slash)

-- what a part after the first one gives: nothing if it is empty or `.`
abbrev pub component_of : List ℕ → List Component
component_of part =
    if bytes_eq part [] || bytes_eq part dot then []
    else if bytes_eq part dots then up ∷ []
    else plain part ∷ []

-- what the first part gives: `.` counts there, and an empty one before a slash is the root
abbrev pub first_component : List ℕ → List (List ℕ) → List Component
first_component [] [] = []
first_component [] (part ∷ others) = root ∷ []
first_component (c ∷ cs) others = if bytes_eq (c ∷ cs) dot then here ∷ [] else component_of (c ∷ cs)

abbrev pub components_of : List (List ℕ) → List Component
components_of [] = []
components_of (part ∷ others) = first_component part others ++ flat_map component_of others

-- the components of a path, from the front (`Path::components`)
abbrev pub components : List ℕ → List Component
components text = components_of (parts text)

abbrev pub component_eq : Component → Component → Bool
component_eq root root = true
component_eq here here = true
component_eq up up = true
component_eq (plain a) (plain b) = bytes_eq a b
component_eq _ _ = false

abbrev pub components_eq : List Component → List Component → Bool
components_eq [] [] = true
components_eq (a ∷ cs) (b ∷ ds) = component_eq a b && components_eq cs ds
components_eq _ _ = false

-- whether two paths have the same components (`Path`'s own `==`)
abbrev pub same_path : List ℕ → List ℕ → Bool
same_path a b = components_eq (components a) (components b)

-- a normalised path after `..`, its last component first: a name is taken away, the root stays, and else `..` is added
abbrev pub after_up : List Component → List Component
after_up (plain name ∷ before) = before
after_up (root ∷ before) = root ∷ before
after_up before = up ∷ before

-- the same after any component: `.` is dropped
abbrev pub after_one : List Component → Component → List Component
after_one before root = root ∷ before
after_one before here = before
after_one before up = after_up before
after_one before (plain name) = plain name ∷ before

-- the components of a path, normalised from the front, the last first
abbrev pub normalised : List ℕ → List Component
normalised text = fold after_one [] (components text)

-- whether two paths are the same place by their texts: equal components once they are normalised
abbrev pub same_place : List ℕ → List ℕ → Bool
same_place a b = components_eq (normalised a) (normalised b)

-- the last component, if there is one
abbrev pub last_of : List Component → Option Component
last_of [] = None
last_of (c ∷ []) = Some c
last_of (c ∷ d ∷ cs) = last_of (d ∷ cs)

-- all components but the last
abbrev pub all_but_last : List Component → List Component
all_but_last [] = []
all_but_last (c ∷ []) = []
all_but_last (c ∷ d ∷ cs) = c ∷ all_but_last (d ∷ cs)

-- the name that a last component is
abbrev pub name_of : Option Component → Option (List ℕ)
name_of None = None
name_of (Some root) = None
name_of (Some here) = None
name_of (Some up) = None
name_of (Some (plain name)) = Some name

-- the last component, if it is a plain name (`Path::file_name`)
abbrev pub file_name : List ℕ → Option (List ℕ)
file_name text = name_of (last_of (components text))

-- the beginnings of a text, the shortest first
abbrev pub beginnings : List ℕ → List (List ℕ)
beginnings [] = [] ∷ []
beginnings (c ∷ cs) = [] ∷ map (λ rest. c ∷ rest) (beginnings cs)

-- the shortest beginning of a text that has these components
abbrev pub shortest_with : List Component → List ℕ → Option (List ℕ)
shortest_with wanted text = find (λ front. components_eq (components front) wanted) (beginnings text)

-- a path whose last component is the root, or that has none, has no parent
abbrev pub parent_before : List ℕ → Option Component → Option (List ℕ)
parent_before text None = None
parent_before text (Some root) = None
parent_before text (Some last) = shortest_with (all_but_last (components text)) text

-- the shortest beginning of a path that has all its components but the last (`Path::parent`)
abbrev pub parent : List ℕ → Option (List ℕ)
parent text = parent_before text (last_of (components text))

abbrev pub starts_with_slash : List ℕ → Bool
starts_with_slash [] = false
starts_with_slash (c ∷ cs) = c == slash

-- a path that a name may follow: one slash is at its end, unless it is empty
abbrev pub with_slash : List ℕ → List ℕ
with_slash [] = []
with_slash (c ∷ []) = if c == slash then c ∷ [] else c ∷ slash ∷ []
with_slash (c ∷ d ∷ cs) = c ∷ with_slash (d ∷ cs)

-- b below a, and b alone where it starts with a slash (`Path::join`)
abbrev pub join : List ℕ → List ℕ → List ℕ
join a b = if starts_with_slash b then b else with_slash a ++ b
