-- What the entries of one directory share.
use Rattle.std.specs.Prelude.{◌≡◌, IfSome, Option, None, Some, List, [], Vec, map}
use Rattle.jwalk_model.specs.declared.metadata.Identity.{Identity}
use Rattle.jwalk_model.specs.FileSystem.{Functions}
use Rattle.jwalk_model.specs.ReadDir.{Spec}
use Rattle.jwalk_model.specs.Job as value
use Rattle.jwalk_job.specs.Ancestors.{texts}
use Rattle.jwalk_job.specs.declared.job.inside.Inside.{Inside}

abbrev known_by : {A : Type 0} → Option (Vec (Option Identity) A) → List (Option Identity)
known_by None = []
known_by (Some known) = known.items

module _ {A : Type 0} where
  -- the identities of the ancestors, and nothing before they were asked for
  abbrev pub known_of : Inside A → List (Option Identity)
  known_of inside = known_by inside.identities

  -- What was asked for so far is what the file system knows of the ancestors.
  abbrev pub IsAsked : Functions → Inside A → Type 0
  IsAsked fs inside = IfSome inside.identities (λ known. known.items ≡ map (value.identity_at fs) (texts inside.ancestors))

  -- More may have been asked for: all else is the same.
  pub record AsksOn (fs : Functions) (old new : Inside A) : Type 0 where
    pub ancestors : new.ancestors ≡ old.ancestors
    pub within : new.within ≡ old.within
    pub asked : IsAsked fs old → IsAsked fs new

  -- It is what the entries of this directory share.
  pub record IsInside {R E : Type 0} (job : value.Job R E) (spec : Spec R) (inside : Inside A) : Type 0 where
    pub ancestors : texts inside.ancestors ≡ value.ancestors_in job spec
    pub within : inside.within ≡ value.within job spec
    pub asked : IsAsked job.fs inside
