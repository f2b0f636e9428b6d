-- The slashes at both ends of a pattern.
use Rattle.std.specs.Prelude.{ℕ, Bool, ◌-◌, List, [], ◌∷◌, length, get_or, take, if◌then◌else◌}
use Rattle.std.specs.List.{list_any}
use Rattle.jwalk_ignore_rules.specs.Pattern.ByteTest.{ByteTest}
use Rattle.jwalk_ignore_rules.specs.Pattern.Names.{is_slash}
use Rattle.jwalk_ignore_rules.specs.declared.pattern.part.Part.{Part}
use Rattle.jwalk_ignore_rules.specs.declared.pattern.part.Part.TheVariants.{Many}

-- a text without the slash that it begins with
abbrev pub without_first_slash : List ℕ → List ℕ
without_first_slash [] = []
without_first_slash (byte ∷ behind) = if is_slash byte then behind else byte ∷ behind

-- whether a text ends with a slash
abbrev pub ends_with_slash : List ℕ → Bool
ends_with_slash text = is_slash (get_or text (length text - 1) 0)

-- a text without the slash that it ends with
abbrev pub without_last_slash : List ℕ → List ℕ
without_last_slash text = if ends_with_slash text then take (length text - 1) text else text

-- the parts in front of those of a text: without a slash it matches at any depth
abbrev pub first_parts : List ℕ → List (Part (List (Part ByteTest)))
first_parts text = if list_any is_slash text then [] else Many ∷ []
