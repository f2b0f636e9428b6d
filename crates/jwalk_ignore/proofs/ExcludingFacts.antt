-- What lines of an ignore file leave out of lists.
use Rattle.std.proofs.Common.{◌≡◌, ◌∙◌, ℕ, Bool, true, false, List, [], ◌++◌, map, Option, None, Some, Ok, Err, ap, refl, subst, sym}
use Rattle.std.specs.Prelude.{◌&&◌, ◌||◌, is_some, not}
use Rattle.std.specs.List.{filter}
use Rattle.std.specs.Option.{option_map_or}
use Rattle.jwalk.specs.jwalk_model.Entry.{Item, AtDepth}
use Rattle.jwalk.specs.jwalk_model.FileType.{is_dir}
use Rattle.jwalk.specs.jwalk_model.ReadDir.{Reading}
use Rattle.jwalk.specs.jwalk_model.Counted.{Worth}
use Rattle.jwalk.specs.jwalk_job.Given.{Given, counted_item, counted_reading, IsProcessed}
use Rattle.jwalk_ignore.specs.Callback.MadeDepths.{filter_at}
use Rattle.jwalk_ignore.specs.Pattern.{Pattern}
use Rattle.jwalk_ignore.proofs.ListFacts.{filter_by, filter_none}
use Rattle.jwalk_ignore.specs.Callback.Failed.{behind, failed_path, is_hidden_path}
use Rattle.jwalk_ignore.specs.Callback.Excluding.{Excluded, Excludes, drops_at, excluding, is_included, leaves_out, leaves_out_any, place_of}

-- no patterns leave nothing out, where errors of hidden names stay
none_dropped : (hidden errors drops : Bool) → hidden ≡ false → drops ≡ false → not (hidden || (errors && drops)) ≡ true
none_dropped false false drops is none = refl
none_dropped false true drops is none = ap not none
none_dropped true errors drops is none = absurd (cc)

path_kept : (excluded : Excluded) → excluded.patterns ≡ [] → excluded.drops_hidden ≡ false → (path : Option (List ℕ)) → not (option_map_or (drops_at excluded) path false) ≡ true
path_kept excluded is shows None = refl
path_kept excluded is shows (Some path) =
    none_dropped (excluded.drops_hidden && is_hidden_path path) excluded.drops_errors (leaves_out_any excluded.patterns (behind excluded.root_len path))
    (ap (λ (b : Bool). b && is_hidden_path path) shows) (ap (λ (ps : List Pattern). leaves_out_any ps (behind excluded.root_len path)) is)

module _ {R E : Type 0} where
  included_all : (excluded : Excluded) → excluded.patterns ≡ [] → excluded.drops_hidden ≡ false → (place : List ℕ) (x : Item R E) → is_included excluded place x ≡ true
  included_all excluded is shows place (Ok e) = ap (λ (ps : List Pattern). not (leaves_out ps (place ++ e.file_name) (is_dir e.file_type))) is
  included_all excluded is shows place (Err f) = path_kept excluded is shows (failed_path f)

  pub excludes_nothing : (excluded : Excluded) → excluded.patterns ≡ [] → excluded.drops_hidden ≡ false → (depth : Option ℕ) (path : List ℕ) (state : R) (list : List (Item R E))
      → excluding excluded depth path state list ≡ record { state = state; list = list }
  excludes_nothing excluded is shows None path state list = refl
  excludes_nothing excluded is shows (Some depth) path state list =
      let place = place_of excluded.root_len path in
      let left : List (Item R E) → Reading R E = λ l. record { state = state; list = l } in
      ap left (filter_none (is_included excluded place) (included_all excluded is shows place) list)

module _ {R E : Type 0} (given : Given R E) where
  included_by : (excluded : Excluded) (place : List ℕ) (x : Item R E) → is_included excluded place (counted_item given x) ≡ is_included excluded place x
  included_by excluded place (Ok e) = refl
  included_by excluded place (Err f) = refl

  -- what stays doesn't go by states
  pub excluding_by : (excluded : Excluded) (depth : Option ℕ) (path : List ℕ) (state : R) (list : List (Item R E))
      → excluding excluded depth path (given.read_dir_state state) (map (counted_item given) list) ≡ counted_reading given (excluding excluded depth path state list)
  excluding_by excluded None path state list = refl
  excluding_by excluded (Some depth) path state list =
      let test = is_included {R = Worth} {E = Worth} excluded (place_of excluded.root_len path) in
      let own = is_included {R = R} {E = E} excluded (place_of excluded.root_len path) in
      let left : List (Item Worth Worth) → Reading Worth Worth = λ l. record { state = given.read_dir_state state; list = l } in
      ap left (filter_by (counted_item given) test own (included_by excluded (place_of excluded.root_len path)) list)

  -- a call that leaves out what it is to leave out does what is given
  pub processed_by : (excluded : Excluded) → Excludes excluded given → (depth : Option ℕ) (path : List ℕ) (state state' : R) (list list' : List (Item R E))
      → excluding excluded depth path state list ≡ record { state = state'; list = list' } → IsProcessed given depth path state list state' list'
  processed_by excluded makes depth path state state' list list' is =
      makes depth path (given.read_dir_state state) (map (counted_item given) list) ∙ excluding_by excluded depth path state list ∙ ap (counted_reading given) is

module _ {R E : Type 0} where
  -- what stays of a directory's list
  pub excludes_rest : (excluded : Excluded) (depth : Option ℕ) (path : List ℕ) (state : R) (list new : List (Item R E)) → is_some depth ≡ true
      → new ≡ filter (is_included excluded (place_of excluded.root_len path)) list → excluding excluded depth path state list ≡ record { state = state; list = new }
  excludes_rest excluded None path state list new some is = let no : false ≡ true = some in absurd (cc)
  excludes_rest excluded (Some depth) path state list new some is =
      let left : List (Item R E) → Reading R E = λ l. record { state = state; list = l } in
      ap left (sym is)

  -- it is at the depth of the list
  pub depths_kept : (depth : ℕ) (test : Item R E → Bool) (list new : List (Item R E)) → new ≡ filter test list → AtDepth depth list → AtDepth depth new
  depths_kept depth test list new is at = subst (λ (l : List (Item R E)). AtDepth depth l) (sym is) (filter_at depth test list at)
