-- The entries that are looked for, apart from the pattern.
use Rattle.std.specs.Prelude.{ℕ, Bool, ◌&&◌, List, map, Option}
use Rattle.jwalk_model.specs.declared.file_type.FileType.{FileType}
use Rattle.jwalk_model.specs.declared.metadata.Metadata.{Metadata}
use Rattle.seek_words.specs.Depths.{has_depth}
use Rattle.seek_words.specs.Kinds.{has_kind}
use Rattle.seek_words.specs.Extension.{has_one}
use Rattle.seek_words.specs.Owner.{has_owner}
use Rattle.seek_words.specs.Size.{is_sized}
use Rattle.seek_words.specs.Times.{is_timed}
use Rattle.seek_words.specs.declared.depths.Depths.{Depths}
use Rattle.seek_words.specs.declared.kinds.Kinds.{Kinds}
use Rattle.seek_words.specs.declared.owner.Owner.{Owner}
use Rattle.seek_words.specs.declared.size.Size.{Size}
use Rattle.seek_words.specs.declared.times.Times.{Times}
use Rattle.seek_words.specs.declared.wanted.Wanted.{Wanted}

-- the depths, types, extensions, sizes, owner and times of what is looked for
pub record Wants : Type 0 where
  pub depths : Depths
  pub kinds : Kinds
  pub extensions : List (List ℕ)
  pub sizes : List Size
  pub owner : Option Owner
  pub times : Times

abbrev pub wants_of : Wanted → Wants
wants_of wanted = record {
  depths = wanted.depths;
  kinds = wanted.kinds;
  extensions = map (λ it. it.now) wanted.extensions.now;
  sizes = wanted.sizes.now;
  owner = wanted.owner;
  times = wanted.times;
}

-- whether an entry of this depth, type, name and metadata is looked for
abbrev pub is_wanted : Wants → ℕ → FileType → List ℕ → Option Metadata → Bool
is_wanted wants depth type name seen =
    has_depth wants.depths depth && (has_kind wants.kinds type seen && (has_one name wants.extensions && (is_sized wants.sizes type seen && (has_owner wants.owner seen && is_timed wants.times seen))))
