-- Where entries keep what asking returns, what they keep comes to the same as asking.
use Rattle.std.proofs.Common.{◌≡◌, ◌+◌, ℕ, Bool, true, false, cond, not, ◌&&◌, List, [], ◌∷◌, map, All, Option, Some, None, Result, Ok, Err, refl, sym, ap, ap₂, ◌∙◌, arith}
use Rattle.std.specs.Prelude.{is_err}
use Rattle.std.specs.Option.{is_none}
use Rattle.std.specs.List.{sum_by, list_all}
use Rattle.std.specs.declared.io.ErrorKind.{ErrorKind}
use Rattle.std.proofs.lemmas.List.Elements.{All-head, All-tail}
use Rattle.std.proofs.lemmas.List.Sums.{sum_by-cons}
use Rattle.jwalk_model.specs.declared.file_type.FileType.{FileType}
use Rattle.jwalk_model.specs.declared.metadata.Metadata.{Metadata}
use Rattle.jwalk_model.specs.declared.seen.Seen.{Seen}
use Rattle.jwalk_model.specs.declared.seen.Seen.TheVariants.{TypeAlone, Whole}
use Rattle.jwalk_model.specs.FileType.{is_dir, is_file, is_symlink}
use Rattle.jwalk_model.specs.Metadata.{type_of}
use Rattle.jwalk_model.specs.Seen.{type_seen, metadata_seen}
use Rattle.jwalk_model.specs.FileSystem.{Functions}
use Rattle.jwalk_model.specs.Options.{Options, with_keep_metadata}
use Rattle.jwalk_model.specs.Entry.{Entry, Item, metadata_of}
use Rattle.jwalk_model.specs.Counted.{Worth, blank}
use Rattle.jwalk_model.specs.Kept.{forgotten_item}
use Rattle.jwalk_model.specs.Walk.{stateless_job}
use Rattle.jwalk_model.proofs.KeptFacts.{metadata_changes_nothing_else}
use Rattle.jwalk_usage.specs.declared.report.Usage.{Usage}
use Rattle.jwalk_usage.specs.Totals.{one_if, is_other, has_failed, length_in, entry_of, is_asked, errors_of, bytes_of, totals}
use Rattle.jwalk_usage.specs.Kept.{length_kept, is_known, errors_kept, bytes_kept, kept_totals}
use Rattle.jwalk_usage_laws.specs.Agreement.{KeepsWhatIs}
use Rattle.jwalk_usage_laws.specs.Totals.{keeping_walk, asking_walk, SaysAllOfFile, SaysAllOfFiles, KeptTotalsAreTotals, FilesKeepMetadata}
use Rattle.jwalk_usage_laws.proofs.EachFacts.{Each, HoldsAsMade, walk_holds}
use Rattle.jwalk_usage_laws.proofs.AgreementFacts.{kept_is_what_asking_returns}

-- usages whose numbers are the same are the same

abbrev made_by : ℕ → ℕ → ℕ → ℕ → ℕ → ℕ → Usage
made_by files dirs links others errors bytes = record { files = files; dirs = dirs; links = links; others = others; errors = errors; bytes = bytes }

by_numbers : (f f' d d' l l' o o' e e' b b' : ℕ) → f ≡ f' → d ≡ d' → l ≡ l' → o ≡ o' → e ≡ e' → b ≡ b' → made_by f d l o e b ≡ made_by f' d' l' o' e' b'
by_numbers f f' d d' l l' o o' e e' b b' files dirs links others errors bytes = cc

-- one answer: its errors and its bytes
errors_if : (failed : ℕ) (file : Bool) (seen : Option Metadata) (found : Result Metadata ErrorKind) → ((m : Metadata) → seen ≡ Some m → found ≡ Ok m) → not (file && is_none seen) ≡ true
    → failed ≡ failed + one_if (file && is_err found)
errors_if failed false seen found says known = omega arith
errors_if failed true None found says known = absurd cc
errors_if failed true (Some m) found says known = rw (says m refl) (omega arith)

bytes_if : (file : Bool) (seen : Option Metadata) (found : Result Metadata ErrorKind) → ((m : Metadata) → seen ≡ Some m → found ≡ Ok m) → not (file && is_none seen) ≡ true
    → cond file (length_kept seen) 0 ≡ cond file (length_in found) 0
bytes_if false seen found says known = refl
bytes_if true None found says known = absurd cc
bytes_if true (Some m) found says known = rw (says m refl) refl

both_true : (a b : Bool) → (a && b) ≡ true → (a ≡ true) × (b ≡ true)
both_true true b is = (refl, is)
both_true false b is = absurd cc

module _ {R E : Type 0} (fs : Functions) where
  -- Each of two counts is the same for an item and for the one without metadata.
  abbrev CountsAlike : (Item R E → ℕ) → (Item R E → ℕ) → Type 0
  CountsAlike f g = (x : Item R E) → KeepsWhatIs fs x → is_known x ≡ true → f x ≡ g (forgotten_item x)

  same_type : (is : FileType → Bool) → CountsAlike (entry_of is) (entry_of is)
  same_type is (Ok e) keeps known = refl
  same_type is (Err f) keeps known = refl

  same_errors : CountsAlike errors_kept (errors_of fs)
  same_errors (Ok e) keeps known = errors_if (one_if (has_failed e.read_children)) (is_file e.file_type) e.seen (metadata_of fs e) keeps known
  same_errors (Err f) keeps known = refl

  same_bytes : CountsAlike bytes_kept (bytes_of fs)
  same_bytes (Ok e) keeps known = bytes_if (is_file e.file_type) e.seen (metadata_of fs e) keeps known
  same_bytes (Err f) keeps known = refl

  same_sum : (f g : Item R E → ℕ) → CountsAlike f g → (l : List (Item R E)) → All (KeepsWhatIs fs) l → list_all is_known l ≡ true → sum_by f l ≡ sum_by g (map forgotten_item l)
  same_sum f g alike [] keeps known = refl
  same_sum f g alike (x ∷ l) keeps known =
      let both = both_true (is_known x) (list_all is_known l) known in
      sum_by-cons f x l
      ∙ ap₂ (λ a b. a + b) (alike x (All-head (KeepsWhatIs fs) x l keeps) both.0) (same_sum f g alike l (All-tail (KeepsWhatIs fs) x l keeps) both.1)
      ∙ sym (sum_by-cons g (forgotten_item x) (map forgotten_item l))

  same_totals : (l : List (Item R E)) → All (KeepsWhatIs fs) l → list_all is_known l ≡ true → kept_totals l ≡ totals fs (map forgotten_item l)
  same_totals l keeps known = by_numbers _ _ _ _ _ _ _ _ _ _ _ _
      (same_sum _ _ (same_type is_file) l keeps known) (same_sum _ _ (same_type is_dir) l keeps known) (same_sum _ _ (same_type is_symlink) l keeps known) (same_sum _ _ (same_type is_other) l keeps known)
      (same_sum _ _ same_errors l keeps known) (same_sum _ _ same_bytes l keeps known)

-- the walk that keeps no metadata is the other, with metadata forgotten
asking_is_forgotten : (fs : Functions) (options : Options) (root : List ℕ) → map forgotten_item (keeping_walk fs options root) ≡ asking_walk fs options root
asking_is_forgotten fs options root = (metadata_changes_nothing_else (stateless_job fs (with_keep_metadata true options)) (λ depth path state list. refl)).walks root blank

pub kept_totals_are_totals : KeptTotalsAreTotals
kept_totals_are_totals fs options root agrees alike known =
    same_totals fs (keeping_walk fs options root) (kept_is_what_asking_returns fs (with_keep_metadata true options) root agrees alike) known
    ∙ ap (totals fs) (asking_is_forgotten fs options root)

-- a file that keeps metadata is known
known_if : (file : Bool) (m : Metadata) → not (file && is_none (Some m)) ≡ true
known_if true m = refl
known_if false m = refl

known_seen : (seen : Seen) → ((type : FileType) → seen ≡ TypeAlone type → is_file type ≡ false) → not (is_file (type_seen seen) && is_none (metadata_seen seen)) ≡ true
known_seen (TypeAlone type) says = rw (says type refl) refl
known_seen (Whole m) says = known_if (is_file (type_of m)) m

abbrev IsKnown : Entry Worth Worth → Type 0
IsKnown e = not (is_asked e) ≡ true

all_known : (l : List (Item Worth Worth)) → Each IsKnown l → list_all is_known l ≡ true
all_known [] h = refl
all_known (Ok e ∷ l) h = rw h.0 (all_known l h.1)
all_known (Err f ∷ l) h = all_known l h.1

module _ (fs : Functions) (options : Options) (says : SaysAllOfFiles fs) where
  known_as_made : HoldsAsMade (stateless_job fs (with_keep_metadata true options)) IsKnown (λ path. SaysAllOfFile)
  known_as_made = record {
    stays = λ e c h. h;
    by_callback = λ depth path state list h. h;
    said = says;
    listed = λ spec n seen of_file is. known_seen seen (λ type same. of_file type (is ∙ ap Ok same));
    through = λ depth path ancestors m is. known_if (is_file (type_of m)) m;
  }

  walk_known : (root : List ℕ) → list_all is_known (keeping_walk fs options root) ≡ true
  walk_known root =
      all_known (keeping_walk fs options root)
      (walk_holds (stateless_job fs (with_keep_metadata true options)) IsKnown (λ path. SaysAllOfFile) known_as_made root blank (λ ancestors m is. known_if (is_file (type_of m)) m))

pub files_keep_metadata : FilesKeepMetadata
files_keep_metadata fs options root says = walk_known fs options says root
