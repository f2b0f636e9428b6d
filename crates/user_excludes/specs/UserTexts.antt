-- Texts in which repositories have the user's excludes.
use Rattle.std.specs.Prelude.{ℕ, List, [], ◌∷◌, ◌++◌, Option, Some, None, option_map, Result, Ok, Err, if◌then◌else◌}
use Rattle.std.specs.declared.io.ErrorKind.{ErrorKind}
use Rattle.std.specs.declared.io.ErrorKind.TheVariants as kind
use Rattle.jwalk_ignore_rules.specs.Rules.Texts.{Texts}
use Rattle.jwalk_ignore_rules.specs.Rules.WithExcludes.{is_exclude, with_excludes}
use Rattle.user_excludes.specs.Excludes.{user_excludes}
use Rattle.user_excludes.specs.Home.{Home}
use Rattle.user_excludes.specs.Named.{Failure}
use Rattle.user_excludes.specs.Repository.{config_path, folder_of}
use Rattle.user_excludes.specs.OwnHome.{own_home_value}
use Rattle.user_excludes.specs.declared.user_texts.UserTexts.{UserTexts}

abbrev pub texts_behind : {T : Type 0} → UserTexts T → T
texts_behind it = it.texts

abbrev pub home_of : {T : Type 0} → UserTexts T → Option Home
home_of it = option_map own_home_value it.home

-- the `.git` that has a file of excludes
abbrev pub git_of : List ℕ → List ℕ
git_of path = folder_of (folder_of path)

-- the user's excludes in the repository that has this file of excludes
abbrev pub excludes_at : Home → Texts → List ℕ → Result (List ℕ) Failure
excludes_at home texts path = user_excludes texts home (Some (config_path texts (git_of path)))

-- a file of excludes behind these lines, if they are known
abbrev pub bytes_behind : Result (List ℕ) Failure → Texts → List ℕ → Result (List ℕ) ErrorKind
bytes_behind (Ok excludes) texts path = (with_excludes (excludes ++ 10 ∷ []) texts).bytes_of path
bytes_behind (Err failure) texts path = Err kind.Other

abbrev with_own : Home → Texts → Texts
with_own home texts = record texts {
  bytes_of = λ path. if is_exclude path then bytes_behind (excludes_at home texts path) texts path else texts.bytes_of path;
  target_type_of = (with_excludes (10 ∷ []) texts).target_type_of;
}

-- Texts in which each repository has the excludes of the user whose files are there, in front of its own, if there is
-- such a user. They are read with these, and an error is one of that file.
abbrev pub with_user : Option Home → Texts → Texts
with_user None texts = texts
with_user (Some home) texts = with_own home texts
