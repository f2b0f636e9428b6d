-- The patterns of texts, row by row.
use Rattle.std.specs.Prelude.{◌≡◌, ℕ, true, false, List, [], ◌∷◌, Some, None, codes, refl}
use Rattle.jwalk_ignore_rules.specs.Pattern.ByteTest.{ByteTest, Byte, OneOf}
use Rattle.jwalk_ignore_rules.specs.Pattern.{pattern_in}
use Rattle.jwalk_ignore_rules.specs.declared.pattern.class_item.ClassItem.TheVariants.{Range}
use Rattle.jwalk_ignore_rules.specs.declared.pattern.part.Part.{Part}
use Rattle.jwalk_ignore_rules.specs.declared.pattern.part.Part.TheVariants.{Many, One}

-- a name of one byte
abbrev name : ℕ → Part (List (Part ByteTest))
name byte = One (One (Byte byte) ∷ [])

row_comment : pattern_in (codes "#a") ≡ None
row_comment = refl

row_any_depth : pattern_in (codes "a") ≡ Some (record { keeps = false; only_dirs = false; parts = Many ∷ name 97 ∷ [] })
row_any_depth = refl

row_dir : pattern_in (codes "a/") ≡ Some (record { keeps = false; only_dirs = true; parts = Many ∷ name 97 ∷ [] })
row_dir = refl

row_rooted : pattern_in (codes "/a") ≡ Some (record { keeps = false; only_dirs = false; parts = name 97 ∷ [] })
row_rooted = refl

row_kept : pattern_in (codes "!a/b") ≡ Some (record { keeps = true; only_dirs = false; parts = name 97 ∷ name 98 ∷ [] })
row_kept = refl

row_stars : pattern_in (codes "a/**/b") ≡ Some (record { keeps = false; only_dirs = false; parts = name 97 ∷ Many ∷ name 98 ∷ [] })
row_stars = refl

row_below : pattern_in (codes "a/**") ≡ Some (record { keeps = false; only_dirs = false; parts = name 97 ∷ Many ∷ One (Many ∷ Many ∷ []) ∷ [] })
row_below = refl

row_escaped : pattern_in (codes "\\#") ≡ Some (record { keeps = false; only_dirs = false; parts = Many ∷ name 35 ∷ [] })
row_escaped = refl

row_class : pattern_in (codes "[]a-c]") ≡ Some (record {
  keeps = false;
  only_dirs = false;
  parts = Many ∷ One (One (OneOf (record { negated = false; either_case = false; items = Range 93 93 ∷ Range 97 97 ∷ Range 97 99 ∷ [] })) ∷ []) ∷ [];
})
row_class = refl

row_open_class : pattern_in (codes "[a") ≡ None
row_open_class = refl
