-- Readings and walks whose metadata is forgotten.
use Rattle.std.specs.Prelude.{false, Some, None, option_map}
use Rattle.std.proofs.Common.{◌≡◌, refl, sym}
use Rattle.jwalk_model.specs.Kept.{MetadataChangesNothingElse}
use Rattle.jwalk_model.proofs.ViewFacts.{View, goes_as_viewed}

-- the view of entries in which their metadata is forgotten
abbrev forgetful_view : {R E : Type 0} → View R E R E
forgetful_view = record {
  state_by = λ state. state;
  mark = λ state. state;
  seen_by = λ _. None;
  children_by = λ c. c;
  read_children_by = λ o. o;
  is_each = λ o. elim o as (λ o. o ≡ option_map (λ c. c) o) [ None ↦ refl | Some c ↦ refl ];
  same_new = λ path. refl;
  same_failed = λ f c. refl;
  same_below = λ depth ancestors state c. refl;
}

pub metadata_changes_nothing_else : {R E : Type 0} → MetadataChangesNothingElse R E
metadata_changes_nothing_else job ignores =
    let it = goes_as_viewed forgetful_view false job.processed job (λ seen. refl) (λ depth path state list. sym (ignores depth path state list)) in
    record { readings = it.readings; root_lists = it.root_lists; walks = it.walks }
