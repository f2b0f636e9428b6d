-- Clones of the same directories.
use Rattle.std.proofs.Common.{◌∙◌, List, [], ◌∷◌, map, sym}
use Rattle.std.specs.declared.clone.Clone as Clone
use Rattle.std.specs.List.{AllZip}
use Rattle.jwalk_model.specs.ReadDir.{Spec, IsClone, AreClones}
use Rattle.jwalk_model.proofs.CloneFacts.{counted_clones}
use Rattle.jwalk_job.specs.declared.read_dir_spec.ReadDirSpec.{ReadDirSpec}
use Rattle.jwalk_job.specs.ReadDirSpec.{spec}
use Rattle.jwalk_readings.specs.Origin.{CountAlike}

-- clones of the same directories count alike
pub alike_clones : {R : Type 0} (clone : Clone.Ghosts R) (specs these those : List (Spec R)) → AreClones clone.is_clone specs these → AreClones clone.is_clone specs those → CountAlike clone these those
alike_clones clone specs these those made others view kept = counted_clones clone.is_clone view kept specs these made ∙ sym (counted_clones clone.is_clone view kept specs those others)

-- so do clones that were made one by one
zipped_clones : {C A R E : Type 0} (clone : Clone.Ghosts R) (specs made : List (ReadDirSpec C A R E)) → AllZip (λ x y. IsClone clone.is_clone (spec x) (spec y)) specs made → AreClones clone.is_clone (map spec specs) (map spec made)
zipped_clones clone [] [] zipped = tt
zipped_clones clone [] (y ∷ made) zipped = absurd zipped
zipped_clones clone (x ∷ specs) [] zipped = absurd zipped
zipped_clones clone (x ∷ specs) (y ∷ made) zipped = (zipped.0, zipped_clones clone specs made zipped.1)

pub alike_copies : {C A R E : Type 0} (clone : Clone.Ghosts R) (specs made : List (ReadDirSpec C A R E)) → AllZip (λ x y. IsClone clone.is_clone (spec x) (spec y)) specs made → CountAlike clone (map spec made) (map spec specs)
alike_copies clone specs made zipped view kept = counted_clones clone.is_clone view kept (map spec specs) (map spec made) (zipped_clones clone specs made zipped)
