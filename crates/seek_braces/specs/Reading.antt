-- The texts of a glob that is read from its end, as they are kept.
use Rattle.std.specs.Prelude.{◌≡◌, ◌≤◌, ◌<◌, ◌+◌, ◌-◌, ℕ, List, [], ◌∷◌, ◌++◌, length, map, take, drop, reverse, slice_index_or}
use Rattle.std.specs.declared.vec.Vec.{Vec}
use Rattle.seek_braces.specs.Expanded.{Group, Read}
use Rattle.seek_braces.specs.declared.reading.OpenGroup.{OpenGroup}
use Rattle.seek_braces.specs.declared.reading.Reading.{Reading}

-- the bytes of texts
abbrev pub bytes_of : {A : Type 0} → List (Vec ℕ A) → List (List ℕ)
bytes_of texts = map (λ text. text.items) texts

-- the texts, of which the kept ones are in reverse
abbrev pub forward : List (List ℕ) → List (List ℕ)
forward kept = reverse (map reverse kept)

-- texts with one more byte behind each, from one of them on
abbrev pub pushed : ℕ → ℕ → List (List ℕ) → List (List ℕ)
pushed start byte kept = take start kept ++ map (λ text. text ++ byte ∷ []) (drop start kept)

-- texts, and then the last ones without their ends
abbrev pub copied : ℕ → ℕ → List (List ℕ) → List (List ℕ)
copied width cut kept = kept ++ map (λ text. take (length text - cut) text) (drop (length kept - width) kept)

-- the length of the last text
abbrev pub last_len : List (List ℕ) → ℕ
last_len kept = length (slice_index_or kept (length kept - 1) [])

-- the texts that begin with the other alternatives of open groups
abbrev pub others_of : List Group → List (List ℕ)
others_of [] = []
others_of (group ∷ groups) = group.others ++ others_of groups

-- the number of texts of what was read
abbrev pub size : Read → ℕ
size read = length read.texts + length (others_of read.groups)

-- The first texts are those behind a group, with the same bytes in front of each.
pub record Begins (behind texts : List (List ℕ)) : Type 0 where
  pub front : List ℕ
  pub rest : List (List ℕ)
  pub is : texts ≡ map (λ text. front ++ text) behind ++ rest

-- A group, as it is kept.
pub record IsGroup (group : Group) (around : List Group) (kept : OpenGroup) : Type 0 where
  pub start : kept.start ≡ length (others_of around)
  pub width : kept.width ≡ length group.behind
  pub some : 0 < length group.behind
  pub len : kept.len ≡ length (slice_index_or group.behind 0 [])

-- Groups that are around these texts, as they are kept, from the innermost one on.
abbrev pub AreGroups : List (List ℕ) → List Group → List OpenGroup → Type 0
AreGroups texts [] [] = Unit {0}
AreGroups texts (group ∷ groups) (kept ∷ others) = Begins group.behind texts × IsGroup group groups kept × AreGroups group.behind groups others
AreGroups texts _ _ = ⊥

-- What was read of a glob, by the texts, where those of the alternative begin, and the groups.
pub record HoldsBy (read : Read) (kept : List (List ℕ)) (from : ℕ) (around : List OpenGroup) : Type 0 where
  pub texts : forward kept ≡ read.texts ++ others_of read.groups
  pub start : from ≡ length (others_of read.groups)
  pub some : 0 < length read.texts
  pub most : length kept ≤ 1024
  pub groups : AreGroups read.texts read.groups around

-- What was read of a glob, as it is kept.
abbrev pub Holds : Read → Reading → Type 0
Holds read reading = HoldsBy read (bytes_of reading.texts.items) reading.start (reverse reading.groups.items)

-- Something more was read.
abbrev pub Follows : (Read → Read) → Reading → Reading → Type 0
Follows more old new = (read : Read) → Holds read old → Holds (more read) new

-- With something more there are too many texts.
abbrev pub Exceeds : (Read → Read) → Reading → Type 0
Exceeds more old = (read : Read) → Holds read old → 1024 < size (more read)
