use Rattle.std.proofs.Common.{◌≡◌, Some, map, take}
use Rattle.program_parts.specs.Values.{texts_of}
use Rattle.seek_words.specs.Size.{size_in}
use Rattle.seek_words.proofs.words.sizes_of.Given as goal

-- the sizes of the texts so far
abbrev pub invariant-loop-text : goal.invariant-loop-text
invariant-loop-text l = map Some l.sizes.items ≡ map size_in (texts_of (take l.text-index l.texts))
