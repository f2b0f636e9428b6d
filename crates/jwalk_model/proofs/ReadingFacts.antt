-- The depths of a reading's entries.
use Rattle.std.proofs.Common.{ℕ, ◌+◌, ◌<◌, Bool, true, false, cond, ◌&&◌, List, [], ◌∷◌, Option, Some, Result, Ok, Err, inl, inr, refl, arith}
use Rattle.std.proofs.lemmas.Bool.Decides.{leb_tells}
use Rattle.std.specs.Result.{result_and}
use Rattle.std.specs.declared.io.ErrorKind.{ErrorKind}
use Rattle.jwalk_model.specs.declared.metadata.Identity.{Identity}
use Rattle.jwalk_model.specs.declared.metadata.Metadata.{Metadata}
use Rattle.jwalk_model.specs.declared.seen.Seen.{Seen}
use Rattle.jwalk_model.specs.FileType.{is_symlink}
use Rattle.jwalk_model.specs.Paths.{join}
use Rattle.jwalk_model.specs.FileSystem.{Named, Listed}
use Rattle.jwalk_model.specs.Error.{Failure, io}
use Rattle.jwalk_model.specs.Entry.{Entry, Item, AtDepth, is_hidden, path_of}
use Rattle.jwalk_model.specs.ReadDir.{Spec, IsLawfulReading}
use Rattle.jwalk_model.specs.Job as value
use Rattle.jwalk_model.specs.Job.{Job, either, KeepsDepthsOf, ReadingsAreLawful}
use Rattle.jwalk_model.proofs.HeldFacts.{AtDepth-append}
use Rattle.jwalk_model.proofs.DepthFacts.{AtDepth-in_order}

module _ {R E : Type 0} (job : Job R E) where
  -- an item alone
  abbrev At : ℕ → Item R E → Type 0
  At depth x = AtDepth depth (x ∷ [])

  cond_at : (depth : ℕ) (b : Bool) (x y : Item R E) → At depth x → At depth y → At depth (cond b x y)
  cond_at depth true x y h k = h
  cond_at depth false x y h k = k

  and_at : (x : Entry R E) (r : Result (Unit {0}) Failure) → At x.depth (result_and r (Ok x))
  and_at x (Ok leads) = (refl, tt)
  and_at x (Err error) = tt

  reached_at : (within : Option Identity) (e : Entry R E) (m : Metadata) → At e.depth (value.reached job within e m)
  reached_at within e m = and_at (value.behind job within e m) (value.leads_on job.fs e.depth e.ancestors e.parent_path (path_of e) m)

  -- an entry after the link rule is where it was
  followed_at : (within : Option Identity) (e : Entry R E) → At e.depth (value.followed job within e)
  followed_at within e =
      cond_at e.depth (job.options.follow_links && is_symlink e.file_type) (either (value.reached job within e) (λ kind. Err (io e.depth (Some (path_of e)) kind)) (job.fs.meta_of (path_of e))) (Ok e)
      (elim (job.fs.meta_of (path_of e)) as (λ m. At e.depth (either (value.reached job within e) (λ kind. Err (io e.depth (Some (path_of e)) kind)) m)) [
        | Ok d ↦ reached_at within e d
        | Err kind ↦ tt
      ])
      (refl, tt)

  shown_at : (spec : Spec R) (name : List ℕ) (seen : Seen) (skips : Bool) → AtDepth (spec.depth + 1) (cond skips [] (value.followed job (value.within job spec) (value.entry_in job spec name seen) ∷ []))
  shown_at spec name seen true = tt
  shown_at spec name seen false = followed_at (value.within job spec) (value.entry_in job spec name seen)

  named_at : (spec : Spec R) (n : Named) → AtDepth (spec.depth + 1) (value.named job spec n)
  named_at spec n = elim n.seen as (λ t. AtDepth (spec.depth + 1) (either (value.shown job spec n.name) (λ kind. Err (io (spec.depth + 1) (Some (join spec.path n.name)) kind) ∷ []) t)) [
    | Ok type ↦ shown_at spec n.name type (job.options.skip_hidden && is_hidden n.name)
    | Err kind ↦ tt
  ]

  raw_at : (spec : Spec R) (items : List Listed) → AtDepth (spec.depth + 1) (value.raw job spec items)
  raw_at spec [] = tt
  raw_at spec (Ok n ∷ items) = AtDepth-append (spec.depth + 1) (value.named job spec n) (value.raw job spec items) (named_at spec n) (raw_at spec items)
  raw_at spec (Err kind ∷ items) = raw_at spec items

  module _ (keeps : KeepsDepthsOf job.processed) where
    above : (spec : Spec R) → spec.depth < job.options.max_depth → (answer : Result (List Listed) ErrorKind)
        → IsLawfulReading job.options.max_depth spec (either (λ items. Ok (job.processed (Some spec.depth) spec.path spec.state (value.ordered job spec items))) (λ kind. Err (io spec.depth (Some spec.path) kind)) answer)
    above spec higher (Ok items) = (keeps (Some spec.depth) spec.path spec.state (value.ordered job spec items) (AtDepth-in_order (spec.depth + 1) job.options.sort (value.raw job spec items) (raw_at spec items)), λ deep. absurd (omega (arith, higher, deep)))
    above spec higher (Err kind) = (higher, λ is. cc)

    reading_at : (spec : Spec R) → IsLawfulReading job.options.max_depth spec (value.reading job spec)
    reading_at spec =
        elim (leb_tells job.options.max_depth spec.depth) [
          | inl deep ↦ rw deep.0 (tt, λ at. refl)
          | inr higher ↦ rw higher.0 (above spec higher.1 (job.fs.list_of spec.path))
        ]

pub readings_lawful : {R E : Type 0} → ReadingsAreLawful R E
readings_lawful job keeps spec = reading_at job keeps spec
