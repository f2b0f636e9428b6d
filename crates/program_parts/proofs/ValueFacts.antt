-- The values of options.
use Rattle.std.proofs.Common.{◌≡◌, ℕ, List, [], map, Option, None, Some, Result, Ok, Err, unwrap_or, option_map, refl, sym, ◌∙◌, ap, Bor}
use Rattle.std.specs.Prelude.{is_some}
use Rattle.std.specs.Str.Parse.{ParsesUnsigned}
use Rattle.clap.specs.Words.{ReadsOne}
use Rattle.program_parts.specs.Values.{IsNumberOf, texts_of}

module _ {E : Type 0} (gives : List ℕ → Result ℕ E → Type 0) (sound : (text : List ℕ) (r : Result ℕ E) → gives text r → ParsesUnsigned 64 10 text r) where
  of_text : (text : List ℕ) (r : Option ℕ) → ReadsOne gives text r → IsNumberOf (Some text) r
  of_text text (Some n) reads = sound text (Ok n) reads
  of_text text None (e, reads) = sound text (Err e) reads

  -- the number of a text, if there is one
  pub number_read : (o : Option (List ℕ)) (r : Option ℕ) → (o ≡ None → r ≡ None) → ((text : List ℕ) → o ≡ Some text → ReadsOne gives text r) → IsNumberOf o r
  number_read None r none value = none refl
  number_read (Some text) r none value = of_text text r (value text refl)

-- the texts of values, if there are some
pub values_some : (values : Bor (List (Bor (List ℕ)))) (items : List (Bor (List ℕ))) (r : Option (Bor (List (Bor (List ℕ))))) (all : Option (List (List ℕ)))
    → r ≡ Some values → option_map (λ s. map (λ v. v.now) s.now) r ≡ all → items ≡ values.now → texts_of items ≡ unwrap_or all []
values_some values items r all is found copy = ap texts_of copy ∙ ap (λ o. unwrap_or o []) (ap (option_map (λ s. map (λ v. v.now) s.now)) (sym is) ∙ found)

-- and if there are none
pub values_none : (r : Option (Bor (List (Bor (List ℕ))))) (all : Option (List (List ℕ))) → r ≡ None → option_map (λ s. map (λ v. v.now) s.now) r ≡ all → [] ≡ unwrap_or all []
values_none r all is found = ap (λ o. unwrap_or o []) (ap (option_map (λ s. map (λ v. v.now) s.now)) (sym is) ∙ found)

-- a view of a value that may be there
pub some_mapped : {X Y : Type 0} (f : X → Y) (o : Option X) → is_some o ≡ is_some (option_map f o)
some_mapped f None = refl
some_mapped f (Some x) = refl
