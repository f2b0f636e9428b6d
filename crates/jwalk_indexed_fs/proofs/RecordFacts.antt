-- Records that are given to a sink, and when they vouch.
use Rattle.std.proofs.Common.{◌≡◌, ◌++◌, ◌∷◌, [], ◌∙◌, ℕ, List, map, ap, sym, subst, Bor}
use Rattle.std.proofs.lemmas.List.{map-append}
use Rattle.jwalk_model.specs.FileSystem.{Listed}
use Rattle.jwalk_model.specs.declared.file_type.FileType.{FileType}
use Rattle.jwalk_fs.specs.Views.{TakesAll}
use Rattle.jwalk_fs.proofs.SinkFacts.{takes_on}
use Rattle.jwalk_indexed_fs.specs.Name.{Name}
use Rattle.jwalk_indexed_fs.specs.Records.{item_kept, list_kept}
use Rattle.jwalk_indexed_fs.specs.Index.{RecordsVouch}

-- a name that the iterator yields
abbrev pub name_given : Bor (List ℕ) × FileType → Name
name_given item = record { name = item.0.now; file_type = item.1 }

-- the items of names that were yielded
abbrev pub given : List (Bor (List ℕ) × FileType) → List Listed
given yielded = list_kept (map name_given yielded)

given_more : (yielded : List (Bor (List ℕ) × FileType)) (item : Bor (List ℕ) × FileType) → given (yielded ++ item ∷ []) ≡ given yielded ++ item_kept (name_given item) ∷ []
given_more yielded item =
    ap list_kept (map-append name_given yielded (item ∷ [])) ∙ map-append item_kept (map name_given yielded) (name_given item ∷ [])

pub takes_more : {K : Type 0} (took : K → List Listed → K → Type 0) (yielded : List (Bor (List ℕ) × FileType)) (item : Bor (List ℕ) × FileType) (a b c : K) → TakesAll took (given yielded) a b → TakesAll took (item_kept (name_given item) ∷ []) b c → TakesAll took (given (yielded ++ item ∷ [])) a c
takes_more took yielded item a b c some one =
    subst (λ l. TakesAll took l a c) (sym (given_more yielded item)) (takes_on took (given yielded) (item_kept (name_given item) ∷ []) a b c some one)

pub records_vouch : RecordsVouch
records_vouch start before after index tell made path r current =
    let was = made path r current.stamp current.is_kept current.has_stamp in
    tell path current.stamp was.settled was.is_there current.is_there ∙ was.held
