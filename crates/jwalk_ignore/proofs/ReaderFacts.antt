-- What the reader of rules makes of a list.
use Rattle.std.proofs.Common.{◌≡◌, ◌∙◌, ℕ, Bool, true, false, List, [], ◌∷◌, ◌++◌, map, length, reverse, Option, Some, None, Ok, Err, ap, refl, sym}
use Rattle.std.specs.Prelude.{◌||◌, fold, is_some, not}
use Rattle.std.specs.List.{filter}
use Rattle.std.proofs.lemmas.List.{map-append, reverse-append}
use Rattle.jwalk.specs.jwalk_model.Entry.{AtDepth, Item}
use Rattle.jwalk.specs.jwalk_model.FileType.{is_dir}
use Rattle.jwalk.specs.jwalk_model.declared.file_type.FileType.{FileType}
use Rattle.jwalk_ignore.specs.Rules.Chain.{Chain, chain_says, entered, has_rules, is_ignored, place_in}
use Rattle.jwalk_ignore.specs.Callback.IgnoreFiles.{Made, failed_name, git_in, given_says, in_directory, is_kept, is_read, is_shown, keeps_failed, keeps_name, own_rules, with_listed}
use Rattle.jwalk_ignore.specs.Rules.Git.{is_repository}
use Rattle.jwalk_ignore.specs.Callback.MadeDepths.{filter_at}
use Rattle.jwalk_ignore.specs.Rules.Matching.{or_else}
use Rattle.jwalk_ignore.specs.Rules.Texts.{Texts}
use Rattle.jwalk_ignore.specs.Pattern.{Pattern}
use Rattle.jwalk_ignore_rules.specs.declared.rules.decision.Decision.{Decision}
use Rattle.jwalk_ignore_rules.specs.declared.rules.decision.Decision.TheVariants.{Unsaid}
use Rattle.jwalk_ignore.specs.Callback.Settings.{Settings, patterns_in}
use Rattle.jwalk_ignore.proofs.ListFacts.{filter_none}
use Rattle.jwalk_ignore.specs.jwalk_ignore_rules.declared.rules.Rules.{Rules}
use Rattle.jwalk_ignore_rules.proofs.ChainFacts.{none_said}

-- what is shown of a list, the last first
pub map_reverse : {X Y : Type 0} (view : X → Y) (xs : List X) → map view (reverse xs) ≡ reverse (map view xs)
map_reverse view [] = refl
map_reverse view (x ∷ xs) =
    ap (map view) (reverse-append (x ∷ []) xs) ∙ map-append view (reverse xs) (x ∷ []) ∙ ap (λ (ys : List _). ys ++ view x ∷ []) (map_reverse view xs)
    ∙ sym (reverse-append (view x ∷ []) (map view xs))

module _ {R E : Type 0} where
  abbrev pub begun : Chain → List (Item R E) → Made R E
  begun chain list = record { chain = chain; list = list }

  module _ (settings : Settings) (texts : Texts) (directory : List ℕ) (chain : Chain) (list : List (Item R E)) where
    -- all of a list is gone over in the directory that was entered
    pub own_from : (git : Option FileType) (inside : Chain) (in_repository : Bool) (before : ℕ) (start : List (Item R E))
        → git ≡ git_in texts directory list → inside ≡ entered (is_repository git) chain → in_repository ≡ inside.in_repository
        → before ≡ length (place_in inside directory) → start ≡ []
        → fold (with_listed texts (is_read settings in_repository git) directory before) (begun inside start) list ≡ own_rules settings texts directory chain list
    own_from git inside in_repository before start git_is is entered_is before_is none =
        ap (λ (b : Bool). fold (with_listed texts (is_read settings b git) directory before) (begun inside start) list) entered_is
        ∙ ap (λ (n : ℕ). fold (with_listed texts (is_read settings inside.in_repository git) directory n) (begun inside start) list) before_is
        ∙ ap (λ (l : List (Item R E)). fold (with_listed texts (is_read settings inside.in_repository git) directory (length (place_in inside directory))) (begun inside l) list) none
        ∙ ap (λ (i : Chain). fold (with_listed texts (is_read settings i.in_repository git) directory (length (place_in i directory))) (begun i []) list) is
        ∙ ap (λ (found : Option FileType). fold (with_listed texts (is_read settings (entered (is_repository found) chain).in_repository found) directory (length (place_in (entered (is_repository found) chain) directory)))
        (begun (entered (is_repository found) chain) []) list) git_is

    -- of what its own rules make of a list, what is hidden or ignored is dropped
    pub left_from : (own : Made R E) (shown kept : List (Item R E)) → own ≡ own_rules settings texts directory chain list
        → shown ≡ filter (is_shown settings directory) own.list → kept ≡ filter (is_kept settings directory own.chain (place_in own.chain directory)) shown
        → begun own.chain kept ≡ in_directory settings texts directory chain list
    left_from own shown kept is shown_is kept_is =
        ap (begun own.chain) (kept_is ∙ ap (filter (is_kept settings directory own.chain (place_in own.chain directory))) shown_is)
        ∙ ap (λ (o : Made R E). begun o.chain (filter (is_kept settings directory o.chain (place_in o.chain directory)) (filter (is_shown settings directory) o.list))) is

  -- what is left once what is hidden or ignored is dropped is at the depth of the list
  pub left_at : (depth : ℕ) (shows keeps : Item R E → Bool) (own shown kept : List (Item R E)) → shown ≡ filter shows own → kept ≡ filter keeps shown → AtDepth depth own → AtDepth depth kept
  left_at depth shows keeps own shown kept shown_is kept_is at = rw (kept_is, shown_is) (filter_at depth keeps (filter shows own) (filter_at depth shows own at))

module _ (settings : Settings) (directory : List ℕ) (chain : Chain) (place : List ℕ) (empty : settings.given ≡ []) (none : has_rules chain ≡ false) where
  name_kept : (name : List ℕ) (dir : Bool) → keeps_name settings directory chain place name dir ≡ true
  name_kept name dir =
      ap (λ (ps : List Pattern). not (is_ignored (or_else (chain_says chain (place ++ 47 ∷ name) dir) (given_says ps directory name dir)))) empty
      ∙ ap (λ (d : Decision). not (is_ignored (or_else d Unsaid))) (none_said chain (place ++ 47 ∷ name) dir none)

  failed_kept : (name : Option (List ℕ)) → keeps_failed settings directory chain place name ≡ true
  failed_kept None = refl
  failed_kept (Some name) = ap (λ (b : Bool). b || keeps_name settings directory chain place name false) (name_kept name true)

  one_kept : {R E : Type 0} (x : Item R E) → is_kept settings directory chain place x ≡ true
  one_kept (Ok e) = name_kept e.file_name (is_dir e.file_type)
  one_kept (Err f) = failed_kept (failed_name settings directory f)

  -- where there are no rules all is kept
  pub all_kept : {R E : Type 0} (list : List (Item R E)) → filter (is_kept settings directory chain place) list ≡ list
  all_kept list = filter_none (is_kept settings directory chain place) one_kept list

-- no rules have no patterns
pub none_given : {A : Type 0} (rules : Option (Rules A)) → is_some rules ≡ false → patterns_in rules ≡ []
none_given None is = refl
none_given (Some it) is = absurd (cc)
