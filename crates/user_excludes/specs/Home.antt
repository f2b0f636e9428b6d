-- Where a user's own files are.
use Rattle.std.specs.Prelude.{ℕ, ◌==◌, List, length, take, drop, bytes_eq, codes, Option, Some, None, option_map, if◌then◌else◌}
use Rattle.jwalk_model.specs.Paths.{join}
use Rattle.user_excludes.specs.declared.home.Home.{Home as CodeHome}

-- The values of the variables that say where a user's own files are, empty where one isn't set.
pub record Home : Type 0 where
  pub home : List ℕ
  pub config : List ℕ

abbrev pub home_value : CodeHome → Home
home_value home = record { home = home.home.now; config = home.config.now }

-- the path of a name below the user's folder, if that is known
abbrev pub below_home : Home → List ℕ → Option (List ℕ)
below_home home name = if length home.home == 0 then None else Some (join home.home name)

-- the path of a name in the folder of configurations, if that is known
abbrev pub in_config : Home → List ℕ → Option (List ℕ)
in_config home name =
    if length home.config == 0 then option_map (λ folder. join folder name) (below_home home (codes ".config"))
    else Some (join home.config name)

-- a path with the user's folder in place of a `~` in front
abbrev pub expanded : Home → List ℕ → List ℕ
expanded home path = if bytes_eq (take 2 path) (codes "~/") then join home.home (drop 2 path) else path
