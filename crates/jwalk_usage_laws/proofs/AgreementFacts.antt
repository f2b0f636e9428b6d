-- Over a file system that agrees with itself, what entries keep is what asking returns.
use Rattle.std.proofs.Common.{◌≡◌, ℕ, Bool, true, false, cond, List, All, Option, Some, None, Result, Ok, Err, ap, ◌∙◌}
use Rattle.std.proofs.lemmas.List.Elements.{All-weaker}
use Rattle.std.specs.declared.io.ErrorKind.{ErrorKind}
use Rattle.jwalk_model.specs.Seen.{metadata_seen}
use Rattle.jwalk_model.specs.declared.metadata.Metadata.{Metadata}
use Rattle.jwalk_model.specs.declared.seen.Seen.{Seen}
use Rattle.jwalk_model.specs.declared.seen.Seen.TheVariants.{TypeAlone, Whole}
use Rattle.jwalk_model.specs.FileSystem.{Functions}
use Rattle.jwalk_model.specs.Options.{Options}
use Rattle.jwalk_model.specs.Entry.{Entry, Item, metadata_of}
use Rattle.jwalk_model.specs.Counted.{Worth, blank}
use Rattle.jwalk_model.specs.Walk.{stateless_job, stateless_walk}
use Rattle.jwalk_usage_laws.specs.Agreement.{SaysWhatIs, Agrees, IsAskedAlike, KeepsWhatIs, KeptIsWhatAskingReturns, OwnRootsAreAskedAlike}
use Rattle.jwalk_usage_laws.proofs.EachFacts.{HoldsOf, HoldsAsMade, as_all, walk_holds}

-- what is kept, if it is, is what there is
kept_is : (keep : Bool) (seen : Option Metadata) (m : Metadata) → cond keep seen None ≡ Some m → seen ≡ Some m
kept_is true seen m is = is
kept_is false seen m is = cc

seen_whole : (seen : Seen) (m : Metadata) → metadata_seen seen ≡ Some m → seen ≡ Whole m
seen_whole (TypeAlone type) m is = cc
seen_whole (Whole n) m is = cc

found_is : (found : Result Metadata ErrorKind) (m n : Metadata) → found ≡ Ok m → Some m ≡ Some n → found ≡ Ok n
found_is found m n is same = cc

-- What an entry keeps is what asking returns.
abbrev Keeps : Functions → Entry Worth Worth → Type 0
Keeps fs e = (m : Metadata) → e.seen ≡ Some m → metadata_of fs e ≡ Ok m

module _ (fs : Functions) (options : Options) (agrees : Agrees fs) where
  abbrev keep : Bool
  keep = options.keep_metadata

  keeps_as_made : HoldsAsMade (stateless_job fs options) (Keeps fs) (SaysWhatIs fs)
  keeps_as_made = record {
    stays = λ e c h. h;
    by_callback = λ depth path state list h. h;
    said = agrees.listed;
    listed = λ spec n seen says is m kept. says m (is ∙ ap Ok (seen_whole seen m (kept_is keep (metadata_seen seen) m kept)));
    through = λ depth path ancestors m is n kept. found_is _ m n (agrees.through path m is) (kept_is keep (Some m) n kept);
  }

  of_item : (x : Item Worth Worth) → HoldsOf (Keeps fs) x → KeepsWhatIs fs x
  of_item (Ok e) h = h
  of_item (Err f) h = tt

  walk_keeps : (root : List ℕ) → IsAskedAlike fs root → All (KeepsWhatIs fs) (stateless_walk fs options root)
  walk_keeps root alike =
      All-weaker (HoldsOf (Keeps fs)) (KeepsWhatIs fs) of_item (stateless_walk fs options root)
      (as_all (Keeps fs) (stateless_walk fs options root)
      (walk_holds (stateless_job fs options) (Keeps fs) (SaysWhatIs fs) keeps_as_made root blank
      (λ ancestors m is n kept. found_is _ m n (alike m is) (kept_is keep (Some m) n kept))))

pub kept_is_what_asking_returns : KeptIsWhatAskingReturns
kept_is_what_asking_returns fs options root agrees alike = walk_keeps fs options agrees root alike

pub own_roots_are_asked_alike : OwnRootsAreAskedAlike
own_roots_are_asked_alike fs root own m is = ap fs.link_meta_of own ∙ is
