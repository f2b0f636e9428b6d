-- The lines of users and groups, one after another.
use Rattle.std.proofs.Common.{◌≡◌, ◌∙◌, ℕ, Bool, true, false, List, [], ◌∷◌, ◌++◌, Option, None, Some, ap, refl, sym}
use Rattle.std.specs.Prelude.{bytes_eq, option_to_list, if◌then◌else◌}
use Rattle.std.specs.List.{after_first, before_first, filter_map}
use Rattle.jwalk_ignore_rules.proofs.PiecesFacts.{first_line}
use Rattle.jwalk_ignore_rules.specs.Pattern.Pieces.{is_byte, pieces}
use Rattle.seek_found.specs.Accounts.{first_id, id_in_line, id_named}

no_id : (b : Bool) → ◌≡◌ {A = Option ℕ} (if b then None else None) None
no_id true = refl
no_id false = refl

-- the empty line has no number
empty_line : (name : List ℕ) → id_in_line name [] ≡ None
empty_line name = no_id (bytes_eq [] name)

module _ (name text line behind : List ℕ) (is : line ≡ before_first (is_byte 10) text) (rest : behind ≡ after_first (is_byte 10) text) where
  ids : filter_map (id_in_line name) (pieces 10 text) ≡ option_to_list (id_in_line name line) ++ filter_map (id_in_line name) (pieces 10 behind)
  ids = first_line (id_in_line name) (empty_line name) text line behind is rest

  -- a line of the name
  pub id_found : (id : ℕ) → id_in_line name line ≡ Some id → Some id ≡ id_named text name
  id_found id found = sym (ap first_id ids ∙ ap (λ (o : Option ℕ). first_id (option_to_list o ++ filter_map (id_in_line name) (pieces 10 behind))) found)

  -- another line
  pub id_behind : id_in_line name line ≡ None → id_named behind name ≡ id_named text name
  id_behind none = sym (ap first_id ids ∙ ap (λ (o : Option ℕ). first_id (option_to_list o ++ filter_map (id_in_line name) (pieces 10 behind))) none)

-- no lines
pub id_nowhere : (name : List ℕ) → None ≡ id_named [] name
id_nowhere name = sym (ap (λ (o : Option ℕ). first_id (filter_map (λ (l : List ℕ). o) ([] ∷ []))) (empty_line name))
