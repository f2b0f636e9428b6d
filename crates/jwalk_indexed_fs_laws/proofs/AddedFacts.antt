-- Records that are added one after another.
use Rattle.std.proofs.Common.{◌≡◌, ◌∙◌, ℕ, Bool, true, false, cond, List, Option, Some, None, ap, refl, sym, subst}
use Rattle.std.specs.Str.{bytes_eq}
use Rattle.std.proofs.lemmas.Slice.Eq.{bytes_eq-Decides}
use Rattle.jwalk_model.specs.FileSystem.{Functions}
use Rattle.jwalk_model.specs.declared.metadata.Moment.{Moment}
use Rattle.jwalk_indexed_fs.specs.Index.{record_at, AreOf, IsRecordOf}
use Rattle.jwalk_indexed_fs.specs.declared.index.Index.{Index}
use Rattle.jwalk_indexed_fs.specs.declared.records.Record.{Record}
use Rattle.jwalk_indexed_fs.specs.declared.stamp.Stamp.{Stamp}
use Rattle.jwalk_indexed_fs_laws.specs.Records.{RecordsAddUp}

-- what is kept at a path once a record was added: that one, or an earlier one
module _ (start : Moment) (fs : Functions) (old : Index) (path : List ℕ) (kept : Record) (are : AreOf start fs old) (one : (s : Stamp) → kept.stamp ≡ Some s → IsRecordOf start fs path kept s) where
  kept_at : (at : List ℕ) (r : Record) (s : Stamp) (b : Bool) → bytes_eq path at ≡ b → cond b (Some kept) (record_at old at) ≡ Some r → r.stamp ≡ Some s → IsRecordOf start fs at r s
  kept_at at r s false e is_kept has = are at r s is_kept has
  kept_at at r s true e is_kept has =
      let same : kept ≡ r = cc in
      subst (λ p. IsRecordOf start fs p r s) ((bytes_eq-Decides path at).0 e)
      (subst (λ k. IsRecordOf start fs path k s) same (one s (ap (λ (k : Record). k.stamp) same ∙ has)))

none_kept : (kept : Option Record) (r : Record) → kept ≡ None → kept ≡ Some r → ⊥
none_kept kept r none some = let clash : ◌≡◌ {A = Option Record} None (Some r) = sym none ∙ some in cc

pub records_add_up : RecordsAddUp
records_add_up = record {
  none = λ start fs index none path r s is_kept has. absurd (none_kept (record_at index path) r (none path) is_kept);
  one_more = λ start fs old new path kept are one added at r s is_kept has.
      kept_at start fs old path kept are one at r s (bytes_eq path at) refl (sym (added at) ∙ is_kept) has;
}
