-- Readings and walks whose states are left aside.
use Rattle.std.proofs.Common.{◌≡◌, ℕ, List, map, refl, ap}
use Rattle.std.specs.Prelude.{option_map}
use Rattle.jwalk_model.specs.FileSystem.{Listed}
use Rattle.jwalk_model.specs.Entry.{Item}
use Rattle.jwalk_model.specs.ReadDir.{Spec, Outcome}
use Rattle.jwalk_model.specs.Counted.{Worth, blank}
use Rattle.jwalk_model.specs.Job as value
use Rattle.jwalk_model.specs.Job.{Job}
use Rattle.jwalk_model.specs.Listing.{after_reading}
use Rattle.jwalk_model.specs.States.{bare_children, bare_spec, bare_item, bare_outcome, without_callback, StatesChangeNothingElse}
use Rattle.jwalk_model.proofs.ViewFacts.{View, viewed-after_reading, viewed-ordered, viewed-root_item, goes_as_viewed}

-- the view of entries in which states are left aside
abbrev bare_view : {R E : Type 0} → View R E Worth Worth
bare_view = record {
  state_by = λ _. blank;
  mark = λ _. blank;
  seen_by = λ seen. seen;
  children_by = bare_children;
  read_children_by = option_map bare_children;
  is_each = λ o. refl;
  same_new = λ path. refl;
  same_failed = λ f c. refl;
  same_below = λ depth ancestors state c. refl;
}

pub bare-after_reading : {R E : Type 0} (outcome : Outcome R E) (x : Item R E) → bare_item (after_reading outcome x) ≡ after_reading (bare_outcome outcome) (bare_item x)
bare-after_reading outcome x = viewed-after_reading bare_view outcome x

module _ {R E : Type 0} (job : Job R E) where
  abbrev plain : Job Worth Worth
  plain = without_callback job

  -- a list in the order that is asked for
  pub bare-ordered : (spec : Spec R) (items : List Listed) → map bare_item (value.ordered job spec items) ≡ value.ordered plain (bare_spec spec) items
  bare-ordered spec items = viewed-ordered bare_view job.options.keep_metadata plain.processed job (λ seen. refl) spec items

  pub bare-root_item : (path : List ℕ) → bare_item (value.root_item job path) ≡ value.root_item plain path
  bare-root_item path = viewed-root_item bare_view job.options.keep_metadata plain.processed job (λ seen. refl) path

pub states_change_nothing_else : {R E : Type 0} → StatesChangeNothingElse R E
states_change_nothing_else job changes =
    let it = goes_as_viewed bare_view job.options.keep_metadata (without_callback job).processed job (λ seen. refl) (λ depth path state list. ap (λ l. record { state = blank; list = l }) (changes depth path state list)) in
    record { readings = it.readings; root_lists = it.root_lists; walks = it.walks }
