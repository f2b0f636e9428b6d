-- File systems whose listings agree with what asking returns, and what a walk over one keeps.
use Rattle.std.specs.Prelude.{◌≡◌, ℕ, List, All, Some, Ok, Err}
use Rattle.jwalk_model.specs.declared.metadata.Metadata.{Metadata}
use Rattle.jwalk_model.specs.declared.seen.Seen.TheVariants.{Whole}
use Rattle.jwalk_model.specs.FileSystem.{Listed, Functions}
use Rattle.jwalk_model.specs.Paths.{join}
use Rattle.jwalk_model.specs.Options.{Options}
use Rattle.jwalk_model.specs.Entry.{Item, metadata_of}
use Rattle.jwalk_model.specs.Job.{own_name, own_parent}
use Rattle.jwalk_model.specs.Walk.{stateless_walk}

-- the path of the entry that is made of a path: its parent and its name, joined
abbrev pub own_path : List ℕ → List ℕ
own_path path = join (own_parent path) (own_name path)

-- All that an item of a directory's listing says of its name, if it says all, is what asking at the joined path returns.
abbrev pub SaysWhatIs : Functions → List ℕ → Listed → Type 0
SaysWhatIs fs path (Ok n) = (m : Metadata) → n.seen ≡ Ok (Whole m) → fs.link_meta_of (join path n.name) ≡ Ok m
SaysWhatIs fs path (Err kind) = Unit {0}

-- The file system agrees with itself: its listings say what asking returns, and what it returns through links at a path, it returns at the path of the entry that is made of it.
pub record Agrees (fs : Functions) : Type 0 where
  pub listed : (path : List ℕ) (items : List Listed) → fs.list_of path ≡ Ok items → All (SaysWhatIs fs path) items
  pub through : (path : List ℕ) (m : Metadata) → fs.meta_of path ≡ Ok m → fs.meta_of (own_path path) ≡ Ok m

-- What the file system returns of a root's text, it returns of the path of the root's entry. So it is where these are one text. A text that ends in a slash may lead through a link, and the entry's path not.
abbrev pub IsAskedAlike : Functions → List ℕ → Type 0
IsAskedAlike fs root = (m : Metadata) → fs.link_meta_of root ≡ Ok m → fs.link_meta_of (own_path root) ≡ Ok m

-- What an entry keeps, if it keeps metadata, is what asking for its metadata returns.
abbrev pub KeepsWhatIs : {R E : Type 0} → Functions → Item R E → Type 0
KeepsWhatIs fs (Ok e) = (m : Metadata) → e.seen ≡ Some m → metadata_of fs e ≡ Ok m
KeepsWhatIs fs (Err f) = Unit {0}

-- Over a file system that agrees with itself, what the entries of a walk keep is what asking returns.
abbrev pub KeptIsWhatAskingReturns : Type 0
KeptIsWhatAskingReturns = (fs : Functions) (options : Options) (root : List ℕ) → Agrees fs → IsAskedAlike fs root → All (KeepsWhatIs fs) (stateless_walk fs options root)

-- A root is asked alike where its text is the path of its entry.
abbrev pub OwnRootsAreAskedAlike : Type 0
OwnRootsAreAskedAlike = (fs : Functions) (root : List ℕ) → own_path root ≡ root → IsAskedAlike fs root
