-- Which crew reads below a root.
use Rattle.std.proofs.Common.{◌≡◌, ◌⊎◌, ◌∙◌, ℕ, Bool, true, false, List, Option, Some, None, inl, inr, ap, refl, sym}
use Rattle.std.specs.Prelude.{◌&&◌, is_some, if◌then◌else◌}
use Rattle.jwalk.specs.jwalk_model.FileSystem.{Functions}
use Rattle.program_walks.specs.Folders.{crew_at, found_in, has_folders, IsCrewAt}

module _ {W : Type 0} {fixed : Type 0} {fs : Functions} {follow : Bool} {root : List ℕ} (crew : Option W) where
  -- the crew reads below a root that directories may be in
  pub reads_below : (fixed → has_folders follow (found_in (fs.meta_of root)) ≡ true) → IsCrewAt fixed fs follow crew root crew
  reads_below has = record { own = inl refl; by = λ still. ap (λ (b : Bool). if b then crew else None) (sym (has still)) }

  -- no crew reads below others
  pub none_reads_below : (fixed → has_folders follow (found_in (fs.meta_of root)) ≡ false) → IsCrewAt fixed fs follow crew root None
  none_reads_below has_none = record { own = inr refl; by = λ still. ap (λ (b : Bool). if b then crew else None) (sym (has_none still)) }

-- a crew that is there reads if it is needed
crew_if : {W : Type 0} (crew : Option W) (needed : Bool) → (if is_some crew && needed then crew else None) ≡ (if needed then crew else None)
crew_if None true = refl
crew_if None false = refl
crew_if (Some it) true = refl
crew_if (Some it) false = refl

module _ {W : Type 0} {fixed : Type 0} {fs : Functions} {follow : Bool} {root : List ℕ} (crew : Option W) where
  -- what reads is the crew if there is one, and directories may be in the root
  pub reads_if : (needed : Bool) → (fixed → needed ≡ is_some crew && has_folders follow (found_in (fs.meta_of root))) → {reads : Option W} → reads ≡ (if needed then crew else None) → IsCrewAt fixed fs follow crew root reads
  reads_if true is it = record { own = inl it; by = λ still. it ∙ ap (λ (b : Bool). if b then crew else None) (is still) ∙ crew_if crew (has_folders follow (found_in (fs.meta_of root))) }
  reads_if false is it = record { own = inr it; by = λ still. it ∙ ap (λ (b : Bool). if b then crew else None) (is still) ∙ crew_if crew (has_folders follow (found_in (fs.meta_of root))) }

-- the same of another name of the disk, which may be fixed more seldom
pub reads_as : {W : Type 0} {follow : Bool} {crew : Option W} {fixed fixed' : Type 0} {fs fs' : Functions} → (fixed' → fixed) → fs ≡ fs' → (root : List ℕ) (reads : Option W) → IsCrewAt fixed fs follow crew root reads → IsCrewAt fixed' fs' follow crew root reads
reads_as {follow = follow} {crew} stays over root reads at = record { own = at.own; by = λ still. at.by (stays still) ∙ ap (λ (f : Functions). crew_at f follow crew root) over }
