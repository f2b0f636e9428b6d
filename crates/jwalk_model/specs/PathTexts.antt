-- Components as texts, as `std::path` gives them.
use Rattle.std.specs.Prelude.{◌≢◌, ℕ, List, [], ◌∷◌, map, if◌then◌else◌, bytes_eq}
use Rattle.std.specs.Path.{HasNoSlash, components_remaining}
use Rattle.std.specs.declared.path.components.Component.{Component as StdComponent}
use Rattle.std.specs.declared.path.components.Component.TheVariants.{RootDir, CurDir, ParentDir, Normal}
use Rattle.std.specs.declared.path.components.Components.{Components}
use Rattle.jwalk_model.specs.Paths.{Component, root, here, up, plain, slash, dot, dots}

-- the text of a component
abbrev pub component_text : Component → List ℕ
component_text root = slash ∷ []
component_text here = dot
component_text up = dots
component_text (plain name) = name

-- the component that has this text
abbrev pub component_read : List ℕ → Component
component_read text =
    if bytes_eq text (slash ∷ []) then root
    else if bytes_eq text dot then here
    else if bytes_eq text dots then up
    else plain text

-- the component that a component of `std::path` is
abbrev pub component_seen : StdComponent → Component
component_seen RootDir = root
component_seen CurDir = here
component_seen ParentDir = up
component_seen (Normal name) = plain name.now

-- the components that an iterator of `std::path` still has to give
abbrev pub components_left : Components → List Component
components_left s = map component_read (components_remaining s)

-- a name that a component can be: not empty, neither `.` nor `..`, and with no slash
pub record IsName (name : List ℕ) : Type 0 where
  pub some : name ≢ []
  pub not_dot : name ≢ dot
  pub not_dots : name ≢ dots
  pub no_slash : HasNoSlash name

-- A component that is a name is a proper one.
abbrev pub IsProper : Component → Type 0
IsProper root = Unit {0}
IsProper here = Unit {0}
IsProper up = Unit {0}
IsProper (plain name) = IsName name

-- It is neither the root nor `.`.
abbrev pub IsStep : Component → Type 0
IsStep root = ⊥
IsStep here = ⊥
IsStep up = Unit {0}
IsStep (plain name) = IsName name

-- Only `..` and proper names are there.
abbrev pub AreSteps : List Component → Type 0
AreSteps [] = Unit {0}
AreSteps (c ∷ cs) = IsStep c × AreSteps cs

-- The components are proper, and only the first may be the root or `.`.
abbrev pub AreProper : List Component → Type 0
AreProper [] = Unit {0}
AreProper (c ∷ cs) = IsProper c × AreSteps cs
