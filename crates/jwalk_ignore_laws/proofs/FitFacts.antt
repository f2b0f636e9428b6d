-- Directories that walks come to with the rules that are in force there, and what they are read as.
use Rattle.std.proofs.Common.{◌≡◌, ◌≢◌, ◌∙◌, ◌+◌, ◌-◌, ◌⊎◌, inl, inr, ℕ, Bool, true, false, cond, List, [], ◌∷◌, ◌++◌, map, nat_le, Option, Some, None, Result, Ok, Err, ap, subst, refl, sym, arith}
use Rattle.std.proofs.lemmas.List.Elements.{All-push}
use Rattle.std.specs.Prelude.{All, option_map}
use Rattle.std.specs.declared.io.ErrorKind.{ErrorKind}
use Rattle.jwalk_model.specs.Counted.{Worth, blank}
use Rattle.jwalk_model.specs.Entry.{Children, Entry, Item}
use Rattle.jwalk_model.specs.Error.{io}
use Rattle.jwalk_model.specs.FileSystem.{Functions, Listed}
use Rattle.jwalk_model.specs.Job.{Job, either, ordered, reading}
use Rattle.jwalk_model.specs.Options.{Options}
use Rattle.jwalk_model.specs.Paths.{join, parent}
use Rattle.jwalk_model.specs.PathTexts.{IsName}
use Rattle.jwalk_model.specs.ReadDir.{Outcome, Spec, spec_below}
use Rattle.jwalk_ignore.specs.Callback.Given.{job_ignoring}
use Rattle.jwalk_ignore.specs.Callback.IgnoreFiles.{in_directory, own_rules}
use Rattle.jwalk_ignore.specs.Rules.Chain.{Chain}
use Rattle.jwalk_ignore.specs.Rules.ChainWorth.{rules_of, with_chain}
use Rattle.jwalk_ignore.specs.Rules.Texts.{Texts}
use Rattle.jwalk_ignore.specs.Callback.Settings.{Settings}
use Rattle.jwalk_ignore_rules.proofs.WorthFacts.{chain_back}
use Rattle.jwalk_ignore_laws.specs.Deeper.{children_deeper, entry_deeper, item_deeper}
use Rattle.jwalk_ignore_laws.specs.Starts.{Agrees, below}
use Rattle.jwalk_ignore_laws.specs.Walks.{AgreeBelow, HasName, list_at}
use Rattle.jwalk_ignore_laws.proofs.DeeperFacts.{Each, IsPlain, each_of_all, ordered_deep, plain_ordered}
use Rattle.jwalk_ignore_laws.proofs.FoundFacts.{DirectoryFits, ItemsFit, OpensTo}
use Rattle.jwalk_ignore_laws.proofs.ParentFacts.{parent_joined}
use Rattle.jwalk_ignore_laws.proofs.LeftFacts.{agrees_deeper, left_same, plain_left}
use Rattle.jwalk_ignore_laws.proofs.SameFacts.{DirectoriesMatch, ItemsMatch, OutcomesMatch}
use Rattle.jwalk_ignore_laws.proofs.WayFacts.{AlikeAt, both_go, not_nil, step_alike}

below_push : (directory : List ℕ) (names : List (List ℕ)) (name : List ℕ) → below directory (names ++ name ∷ []) ≡ join (below directory names) name
below_push directory [] name = refl
below_push directory (n ∷ names) name = below_push (join directory n) names name

same_depths : (greatest levels n m : ℕ) → n ≡ m + levels → nat_le greatest n ≡ nat_le (greatest - levels) m
same_depths greatest levels n m is = grind (arith, is)

module _ (settings : Settings) (texts : Texts) (fs : Functions) (options : Options) (root : List ℕ) (agree : AgreeBelow texts fs options root) (no_links : options.follow_links ≡ false) (from_above : settings.above_the_root ≡ true) where
  -- the walk's job, from a least to a greatest depth
  abbrev pub job : ℕ → ℕ → Job Worth Worth
  job least greatest = job_ignoring settings texts fs (record options { min_depth = least; max_depth = greatest })

  -- A directory to be read is below the root by proper names, and its rules in force are those of a walk that starts there.
  pub record Fits (spec : Spec Worth) : Type 0 where
    pub names : List (List ℕ)
    pub named : All IsName names
    pub path_is : spec.path ≡ below root names
    pub some : spec.path ≢ []
    pub parents : (name : List ℕ) → IsName name → parent (join spec.path name) ≡ Some spec.path
    pub alike : AlikeAt settings texts spec.path (rules_of spec.state)

  -- the rules that are in force in a directory with this list
  abbrev own_in : Spec Worth → List (Item Worth Worth) → Chain
  own_in spec list = (own_rules settings texts spec.path (rules_of spec.state) list).chain

  -- a directory in one that fits, which has this name
  child_fits : (spec : Spec Worth) → Fits spec → (list : List (Item Worth Worth)) → Agrees texts spec.path list → (name : List ℕ) → IsName name → (depth : ℕ) (ancestors : List (List ℕ))
      → Fits (record { directory = record { depth = depth; path = join spec.path name; ancestors = ancestors }; state = with_chain (own_in spec list) spec.state })
  child_fits spec fits list agrees name is depth ancestors =
      let own : Chain = own_in spec list in
      let next : List ℕ = join spec.path name in
      let go = both_go (rules_of spec.state) spec.path name fits.some is fits.alike.0 in
      record {
        names = fits.names ++ name ∷ [];
        named = All-push IsName fits.names name fits.named is;
        path_is = ap (λ (p : List ℕ). join p name) fits.path_is ∙ sym (below_push root fits.names name);
        some = not_nil settings texts spec.path next fits.some go.2;
        parents = λ other is_other. parent_joined spec.path name other is is_other;
        alike = subst (AlikeAt settings texts next) (sym (chain_back own)) (step_alike settings texts from_above spec.path name (rules_of spec.state) list fits.some is (fits.parents name is) agrees fits.alike);
      }

  -- what is listed in a directory that fits has proper names, and agrees with the texts
  names_fit : (spec : Spec Worth) → Fits spec → (items : List Listed) → fs.list_of spec.path ≡ Ok items → Each HasName items
  names_fit spec fits items is = each_of_all HasName items (agree.named fits.names items fits.named (ap fs.list_of (sym fits.path_is) ∙ is))

  lists_agree : (least greatest : ℕ) (spec : Spec Worth) → Fits spec → (items : List Listed) → fs.list_of spec.path ≡ Ok items → Agrees texts spec.path (ordered (job least greatest) spec items)
  lists_agree least greatest spec fits items is =
      let first : Spec Worth = record { directory = record { depth = 0; path = spec.path; ancestors = [] }; state = blank } in
      let agrees : Agrees texts spec.path (list_at fs options spec.path items) = subst (λ (p : List ℕ). Agrees texts p (list_at fs options p items)) (sym fits.path_is) (agree.lists fits.names items fits.named (ap fs.list_of (sym fits.path_is) ∙ is)) in
      subst (Agrees texts spec.path) (sym (ordered_deep (job least greatest) no_links options.min_depth options.max_depth spec.depth spec first (omega arith) refl items))
      (agrees_deeper spec.depth texts spec.path (list_at fs options spec.path items) agrees)

  -- the state that the reading of a directory with this list leaves
  abbrev state_in : Spec Worth → List (Item Worth Worth) → Worth
  state_in spec list = with_chain (own_in spec list) spec.state

  -- ---- a reading fits

  module _ (least greatest : ℕ) where
    abbrev read : Spec Worth → Outcome Worth Worth
    read = reading (job least greatest)

    child_by : (spec : Spec Worth) → Fits spec → (list : List (Item Worth Worth)) → Agrees texts spec.path list → (e : Entry Worth Worth) → IsName e.file_name → (o : Option (Children Worth))
        → (o ≡ None) ⊎ (o ≡ Some (record { path = join spec.path e.file_name; error = None; state = None })) → DirectoryFits read Fits (option_map (spec_below (state_in spec list) e) o)
    child_by spec fits list agrees e is o (inl none) = rw none tt
    child_by spec fits list agrees e is o (inr some) = rw some (child_fits spec fits list agrees e.file_name is e.depth e.ancestors)

    items_fit : (spec : Spec Worth) → Fits spec → (list : List (Item Worth Worth)) → Agrees texts spec.path list → (left : List (Item Worth Worth)) → Each (IsPlain (spec.depth + 1) spec.path) left
        → ItemsFit read Fits (spec.depth + 1) (state_in spec list) left
    items_fit spec fits list agrees [] h = tt
    items_fit spec fits list agrees (Err f ∷ left) (at, h) = (at, tt, items_fit spec fits list agrees left h)
    items_fit spec fits list agrees (Ok e ∷ left) ((at, is, none, child), h) = (at, child_by spec fits list agrees e is e.read_children child, items_fit spec fits list agrees left h)

    listing_fits : (spec : Spec Worth) → Fits spec → (found : Result (List Listed) ErrorKind) → fs.list_of spec.path ≡ found
        → OpensTo read Fits spec (either (λ items. Ok ((job least greatest).processed (Some spec.depth) spec.path spec.state (ordered (job least greatest) spec items))) (λ kind. Err (io spec.depth (Some spec.path) kind)) found)
    listing_fits spec fits (Ok items) is =
        let list : List (Item Worth Worth) = ordered (job least greatest) spec items in
        items_fit spec fits list (lists_agree least greatest spec fits items is) (in_directory settings texts spec.path (rules_of spec.state) list).list
        (plain_left settings texts spec.path (spec.depth + 1) spec.path (rules_of spec.state) list (plain_ordered (job least greatest) no_links spec items (names_fit spec fits items is)))
    listing_fits spec fits (Err kind) is = tt

    pub opens : (spec : Spec Worth) → Fits spec → OpensTo read Fits spec (read spec)
    opens spec fits =
        elim (nat_le greatest spec.depth) as (λ b. OpensTo read Fits spec (cond b (Ok (record { state = spec.state; list = [] })) (either (λ items. Ok ((job least greatest).processed (Some spec.depth) spec.path spec.state (ordered (job least greatest) spec items))) (λ kind. Err (io spec.depth (Some spec.path) kind)) (fs.list_of spec.path)))) [
          | true ↦ tt
          | false ↦ listing_fits spec fits (fs.list_of spec.path) refl
        ]

  -- ---- the same directory, at two depths

  module _ (levels : ℕ) where
    -- Two directories to be read are one, deeper in the first walk, and in both the rules in force are those of a walk that starts there.
    abbrev pub Same : Spec Worth → Spec Worth → Type 0
    Same s t = (s.depth ≡ t.depth + levels) × (s.path ≡ t.path) × Fits s × Fits t

    module _ (least greatest other : ℕ) where
      abbrev these : Spec Worth → Outcome Worth Worth
      these = reading (job least greatest)

      abbrev those : Spec Worth → Outcome Worth Worth
      those = reading (job other (greatest - levels))

      -- the first directory, at the path of the second
      abbrev moved : Spec Worth → Spec Worth → Spec Worth
      moved s t = record s { directory = record s.directory { path = t.path } }

      both_by : (s t : Spec Worth) → Fits (moved s t) → Fits t → (list : List (Item Worth Worth)) → Agrees texts t.path list → (e : Entry Worth Worth) → IsName e.file_name → (o : Option (Children Worth))
          → (o ≡ None) ⊎ (o ≡ Some (record { path = join t.path e.file_name; error = None; state = None }))
          → DirectoriesMatch levels these those Same (option_map (spec_below (state_in (moved s t) (map (item_deeper levels) list)) (entry_deeper levels e)) (option_map (children_deeper levels) o)) (option_map (spec_below (state_in t list) e) o)
      both_by s t fits_s fits_t list agrees e is o (inl none) = rw none tt
      both_by s t fits_s fits_t list agrees e is o (inr some) =
          rw some (
            refl,
            refl,
            child_fits (moved s t) fits_s (map (item_deeper levels) list) (agrees_deeper levels texts t.path list agrees) e.file_name is (e.depth + levels) e.ancestors,
            child_fits t fits_t list agrees e.file_name is e.depth e.ancestors,
          )

      items_match : (s t : Spec Worth) → Fits (moved s t) → Fits t → (list : List (Item Worth Worth)) → Agrees texts t.path list → (depth : ℕ) (left : List (Item Worth Worth)) → Each (IsPlain depth t.path) left
          → ItemsMatch levels these those Same (state_in (moved s t) (map (item_deeper levels) list)) (state_in t list) (map (item_deeper levels) left) left
      items_match s t fits_s fits_t list agrees depth [] h = tt
      items_match s t fits_s fits_t list agrees depth (Err f ∷ left) (at, h) = (refl, tt, items_match s t fits_s fits_t list agrees depth left h)
      items_match s t fits_s fits_t list agrees depth (Ok e ∷ left) ((at, is, none, child), h) =
          (refl, both_by s t fits_s fits_t list agrees e is e.read_children child, items_match s t fits_s fits_t list agrees depth left h)

      -- what a listing is read as
      abbrev outcome_of : ℕ → ℕ → Spec Worth → Bool → Result (List Listed) ErrorKind → Outcome Worth Worth
      outcome_of lower upper spec at_end found =
          cond at_end (Ok (record { state = spec.state; list = [] }))
          (either (λ items. Ok ((job lower upper).processed (Some spec.depth) spec.path spec.state (ordered (job lower upper) spec items))) (λ kind. Err (io spec.depth (Some spec.path) kind)) found)

      outcomes_match : (s t : Spec Worth) → s.depth ≡ t.depth + levels → Fits (moved s t) → Fits t → (at_end : Bool) (found : Result (List Listed) ErrorKind) → fs.list_of t.path ≡ found
          → OutcomesMatch levels these those Same (outcome_of least greatest (moved s t) at_end found) (outcome_of other (greatest - levels) t at_end found)
      outcomes_match s t deeper fits_s fits_t true found is = tt
      outcomes_match s t deeper fits_s fits_t false (Err kind) is = ap (λ (depth : ℕ). io depth (Some t.path) kind) deeper
      outcomes_match s t deeper fits_s fits_t false (Ok items) is =
          let list : List (Item Worth Worth) = ordered (job other (greatest - levels)) t items in
          let agrees : Agrees texts t.path list = lists_agree other (greatest - levels) t fits_t items is in
          let plain = plain_ordered (job other (greatest - levels)) no_links t items (names_fit t fits_t items is) in
          let left : List (Item Worth Worth) = (in_directory settings texts t.path (rules_of t.state) list).list in
          let match = items_match s t fits_s fits_t list agrees (t.depth + 1) left (plain_left settings texts t.path (t.depth + 1) t.path (rules_of t.state) list plain) in
          let same_left = left_same settings texts t.path levels (rules_of s.state) (rules_of t.state) list from_above agrees fits_s.alike fits_t.alike in
          subst (λ (l : List (Item Worth Worth)). OutcomesMatch levels these those Same (Ok ((job least greatest).processed (Some s.depth) t.path s.state l)) (Ok ((job other (greatest - levels)).processed (Some t.depth) t.path t.state list)))
          (sym (ordered_deep (job least greatest) no_links other (greatest - levels) levels (moved s t) t deeper refl items))
          (subst (λ (l : List (Item Worth Worth)). ItemsMatch levels these those Same (state_in (moved s t) (map (item_deeper levels) list)) (state_in t list) l left) (sym same_left) match)

      pub same_outcomes : (s t : Spec Worth) → Same s t → OutcomesMatch levels these those Same (these s) (those t)
      same_outcomes s t (deeper, same_path, fits_s, fits_t) =
          let to : s ≡ moved s t = ap (λ (p : List ℕ). let u : Spec Worth = record s { directory = record s.directory { path = p } } in u) same_path in
          subst (λ (u : Spec Worth). OutcomesMatch levels these those Same (these u) (those t)) (sym to)
          (subst (λ (b : Bool). OutcomesMatch levels these those Same (outcome_of least greatest (moved s t) b (fs.list_of t.path)) (outcome_of other (greatest - levels) t (nat_le (greatest - levels) t.depth) (fs.list_of t.path)))
          (sym (same_depths greatest levels s.depth t.depth deeper))
          (outcomes_match s t deeper (subst Fits to fits_s) fits_t (nat_le (greatest - levels) t.depth) (fs.list_of t.path) refl))
