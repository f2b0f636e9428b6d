-- Roots and the paths of their entries, and a root that is not asked alike.
use Rattle.std.specs.Prelude.{◌≡◌, true, List, [], ◌∷◌, flat_map, Option, Some, Result, Ok, Err, if◌then◌else◌, bytes_eq, codes, refl}
use Rattle.std.specs.declared.io.ErrorKind.{ErrorKind}
use Rattle.std.specs.declared.io.ErrorKind.TheVariants as kind
use Rattle.jwalk_model.specs.declared.file_type.FileType.TheVariants as type
use Rattle.jwalk_model.specs.declared.metadata.Metadata.{Metadata}
use Rattle.jwalk_model.specs.Metadata.{metadata}
use Rattle.jwalk_model.specs.FileSystem.{Functions}
use Rattle.jwalk_model.specs.Options.{defaults, with_keep_metadata}
use Rattle.jwalk_model.specs.Entry.{Item, metadata_of}
use Rattle.jwalk_model.specs.Counted.{Worth}
use Rattle.jwalk_model.specs.Listing.{below}
use Rattle.jwalk_model.specs.Walk.{whole_walk, stateless_walk}
use Rattle.jwalk_usage_laws.specs.Agreement.{own_path}

plain_root : own_path (codes "/t/a") ≡ codes "/t/a"
plain_root = refl

relative_root : own_path (codes "a") ≡ codes "a"
relative_root = refl

root_of_dots : own_path (codes "../..") ≡ codes "../.."
root_of_dots = refl

the_root : own_path (codes "/") ≡ codes "/"
the_root = refl

-- of these another path is asked
root_with_slash : own_path (codes "/t/") ≡ codes "/t"
root_with_slash = refl

root_with_dot : own_path (codes "/t/.") ≡ codes "/t"
root_with_dot = refl

-- a link to a directory that a text with a slash at its end leads through
abbrev behind_a_slash : Functions
behind_a_slash = record {
  list_of = λ path. Err kind.PermissionDenied;
  meta_of = λ path. Ok (metadata type.Dir 0);
  link_meta_of = λ path. if bytes_eq path (codes "/l/") then Ok (metadata type.Dir 0) else Ok (metadata type.Symlink 1);
  target_of = λ path. Ok (codes "/d");
}

-- what an entry keeps, and what asking returns
abbrev kept_and_asked : Functions → Item Worth Worth → List (Option Metadata × Result Metadata ErrorKind)
kept_and_asked fs (Ok e) = (e.seen, metadata_of fs e) ∷ []
kept_and_asked fs (Err f) = []

not_asked_alike : flat_map (kept_and_asked behind_a_slash) (stateless_walk behind_a_slash (with_keep_metadata true defaults) (codes "/l/"))
    ≡ (Some (metadata type.Dir 0), Ok (metadata type.Symlink 1)) ∷ []
unfolding whole_walk below
not_asked_alike = refl
