-- Walks from a root and from a directory below it.
use Rattle.std.proofs.Common.{◌≡◌, ◌≢◌, ◌∙◌, ◌≤◌, ◌<◌, ◌+◌, ◌-◌, ℕ, nat_le, Bool, true, false, cond, List, [], ◌∷◌, ◌++◌, map, flat_map, length, reverse, Option, Some, None, Result, Ok, Err, ap, ap₂, subst, refl, sym, arith}
use Rattle.std.proofs.lemmas.List.Elements.{All-nil, All-weaker}
use Rattle.std.specs.Prelude.{All, fold}
use Rattle.std.specs.declared.io.ErrorKind.{ErrorKind}
use Rattle.jwalk_model.specs.Counted.{Worth}
use Rattle.jwalk_model.specs.Entry.{Children, Entry, Item}
use Rattle.jwalk_model.specs.Error.{io}
use Rattle.jwalk_model.specs.FileSystem.{Functions}
use Rattle.jwalk_model.specs.Job.{Job, made_of, reading, root_item, root_list}
use Rattle.jwalk_model.specs.Listing.{Source, answers, below, is_answered, levels_of, listing, nothing, pair, source_of, stands, unread}
use Rattle.jwalk_model.specs.Metadata.{type_of}
use Rattle.jwalk_model.specs.Options.{Options}
use Rattle.jwalk_model.specs.Paths.{join, parent}
use Rattle.jwalk_model.specs.PathTexts.{IsName}
use Rattle.jwalk_model.specs.ReadDir.{Outcome, Spec, spec_of}
use Rattle.jwalk_model.specs.Walk.{whole_walk}
use Rattle.jwalk_model.specs.declared.file_type.FileType.TheVariants.{Dir}
use Rattle.jwalk_model.specs.declared.metadata.Metadata.{Metadata}
use Rattle.jwalk_ignore.specs.Callback.Given.{no_rules_yet}
use Rattle.jwalk_ignore.specs.Callback.IgnoreFiles.{Made, Source as Rules, all_kinds, at_root, depth_of, entered_above, is_read_above, path_of, root_of, rules_found, source_above, with_above, with_absolute, with_folder, with_found, with_root}
use Rattle.jwalk_ignore.specs.Pattern.{Pattern}
use Rattle.jwalk_ignore.specs.Rules.Chain.{Chain, below_root}
use Rattle.jwalk_ignore.specs.Rules.ChainWorth.{rules_of, with_chain}
use Rattle.jwalk_ignore.specs.Rules.Folder.{Folder, folders_above}
use Rattle.jwalk_ignore.specs.Rules.Texts.{Texts}
use Rattle.jwalk_ignore.specs.Callback.Settings.{Settings}
use Rattle.jwalk_ignore.specs.jwalk_ignore_rules.declared.rules.rules_kind.RulesKind.{RulesKind}
use Rattle.jwalk_ignore_rules.proofs.WorthFacts.{chain_back}
use Rattle.jwalk_ignore_laws.specs.Deeper.{below_first, deeper_than, item_deeper}
use Rattle.jwalk_ignore_laws.specs.Starts.{begun, below as names_below}
use Rattle.jwalk_ignore_laws.specs.Walks.{AgreeBelow, AreTheSameBelow, DepthsMayBeTheSame, IsStart, WalksAreTheSame, options_below, walk_ignoring, without_least_depth}
use Rattle.jwalk_ignore_laws.proofs.BelowFacts.{AtLeast, Steps, answered_deep, answered_deeper, answers_deep, Stood, stood}
use Rattle.jwalk_ignore_laws.proofs.DeeperFacts.{Each, each_append, each_of_all}
use Rattle.jwalk_ignore_laws.proofs.FitFacts.{Fits, Same, job, opens, same_outcomes}
use Rattle.jwalk_ignore_laws.proofs.FoundFacts.{DirectoryFits, Found, ItemsFit, below_from, found_below, found_listed, listed, nothing_below, stands_at}
use Rattle.jwalk_ignore_laws.proofs.SameFacts.{same_below}
use Rattle.jwalk_ignore_laws.proofs.ShallowFacts.{each_front, shallow}
use Rattle.jwalk_ignore_laws.proofs.WayFacts.{AlikeAt, begun_alike, walks_begin_so}

-- ---- a root's list has errors behind the root

-- an error at depth 0
abbrev AtRoot : {R E : Type 0} → Item R E → Type 0
AtRoot (Ok e) = ⊥
AtRoot {R} {E} (Err f) = depth_of {R = R} {E = E} (Err f) ≡ 0

-- A list has this item, and only such errors behind it.
abbrev Grown : {R E : Type 0} → Item R E → List (Item R E) → Type 0
Grown {R} {E} x list = (errors : List (Item R E)) × (list ≡ x ∷ errors) × Each AtRoot errors

module _ {R E : Type 0} (x : Item R E) where
  grown_found : (source : Rules) (found : Result (Option (List Pattern)) ErrorKind) (made : Made R E) → source.depth ≡ 0 → Grown x made.list → Grown x (with_found source found made).list
  grown_found source (Ok (Some patterns)) made at grown = grown
  grown_found source (Ok None) made at grown = grown
  grown_found source (Err k) made at (errors, is, each) =
      let more : List (Item R E) = Err (io source.depth (Some (path_of source)) k) ∷ [] in
      (errors ++ more, ap (λ (l : List (Item R E)). l ++ more) is, each_append AtRoot errors more each (at, tt))

  module _ (settings : Settings) (texts : Texts) where
    grown_above : (folder : Folder) (read : Bool) (kind : RulesKind) (made : Made R E) → Grown x made.list → Grown x (with_above settings texts folder read kind made).list
    grown_above folder true kind made grown = grown_found (source_above folder kind) (rules_found texts kind true (path_of (source_above folder kind))) made refl grown
    grown_above folder false kind made grown = grown

    grown_kinds : (folder : Folder) (reads : RulesKind → Bool) (kinds : List RulesKind) (made : Made R E) → Grown x made.list
        → Grown x (fold (λ m kind. with_above settings texts folder (reads kind) kind m) made kinds).list
    grown_kinds folder reads [] made grown = grown
    grown_kinds folder reads (kind ∷ kinds) made grown =
        grown_kinds folder reads kinds (with_above settings texts folder (reads kind) kind made) (grown_above folder (reads kind) kind made grown)

    grown_folders : (folders : List Folder) (made : Made R E) → Grown x made.list → Grown x (fold (with_folder settings texts) made folders).list
    grown_folders [] made grown = grown
    grown_folders (folder ∷ folders) made grown =
        let inside : Made R E = entered_above settings texts folder made in
        grown_folders folders (with_folder settings texts made folder) (grown_kinds folder (is_read_above settings folder inside.chain.in_repository) all_kinds inside grown)

    grown_root : (chain : Chain) (path : List ℕ) → root_of x ≡ Some path → texts.absolute_of path ≡ Ok path → Grown x (at_root settings texts chain (x ∷ [])).list
    grown_root chain path is absolute =
        let made : Made R E = record { chain = chain; list = x ∷ [] } in
        let folders : List Folder = reverse (folders_above texts false (length path) path) in
        subst (λ (r : Option (List ℕ)). Grown x (with_root settings texts r made).list) (sym is)
        (subst (λ (found : Result (List ℕ) ErrorKind). Grown x (with_absolute settings texts path made found).list) (sym absolute)
        (grown_folders folders (record { chain = below_root path path; list = x ∷ [] }) ([], refl, tt)))

module _ {R E : Type 0} where
  steps_errors : (n : ℕ) (errors : List (Item R E)) → Each AtRoot errors → Steps n errors
  steps_errors n [] h = tt
  steps_errors n (Ok e ∷ errors) h = absurd h.0
  steps_errors n (Err f ∷ errors) h = (omega (arith, h.0), steps_errors (depth_of {R = R} {E = E} (Err f) + 1) errors h.1)

module _ {R E : Type 0} (read : Spec R → Outcome R E) where
  -- nothing is read below errors
  errors_alone : (lower : Source R E → List (Item R E)) → lower nothing ≡ [] → (state : R) (errors : List (Item R E)) → Each AtRoot errors → flat_map (λ p. stands read p.item p.source ∷ lower p.source) (map (pair state) errors) ≡ errors
  errors_alone lower none state [] h = refl
  errors_alone lower none state (Ok e ∷ errors) h = absurd h.0
  errors_alone lower none state (Err f ∷ errors) h =
      ap (λ (l : List (Item R E)). Err f ∷ (l ++ flat_map (λ p. stands read p.item p.source ∷ lower p.source) (map (pair state) errors))) none ∙ ap (λ (l : List (Item R E)). Err f ∷ l) (errors_alone lower none state errors h.1)

module _ {R E : Type 0} (read : Spec R → Outcome R E) (greatest : ℕ) (state : R) where
  directory_listed : (e : Entry R E) (spec : Spec R) (o : Option (Spec R)) → o ≡ Some spec → spec.depth ≡ 0
      → stands read (Ok e) (source_of o) ∷ below read (levels_of {E = E} greatest (source_of o)) (source_of o) ≡ stands read (Ok e) (source_of o) ∷ below read greatest (source_of o)
  directory_listed e spec o is at =
      let all : levels_of {E = E} greatest (unread spec) ≡ greatest = omega (arith, at) in
      ap (λ (n : ℕ). stands read (Ok e) (source_of o) ∷ below read n (source_of o)) (ap (λ (s : Option (Spec R)). levels_of {E = E} greatest (source_of s)) is ∙ all)

  -- a root's list, where it has a directory and errors behind it
  root_listed : (e : Entry R E) (spec : Spec R) (errors : List (Item R E)) → spec_of {E = E} state (Ok e) ≡ Some spec → spec.depth ≡ 0 → Each AtRoot errors
      → listing read greatest (map (pair state) (Ok e ∷ errors)) ≡ (stands read (Ok e) (unread spec) ∷ below read greatest (unread spec)) ++ errors
  root_listed e spec errors is at h =
      ap₂ ◌++◌ (directory_listed e spec (spec_of {E = E} state (Ok e)) is at ∙ ap (λ (o : Option (Spec R)). stands read (Ok e) (source_of o) ∷ below read greatest (source_of o)) is)
      (errors_alone read (λ s. below read (levels_of greatest s) s) (nothing_below read 0) state errors h)

  root_listed_below : (e : Entry R E) (spec : Spec R) (errors : List (Item R E)) → spec_of {E = E} state (Ok e) ≡ Some spec → Each AtRoot errors
      → listed read (below read greatest) state (Ok e ∷ errors) ≡ (stands read (Ok e) (unread spec) ∷ below read greatest (unread spec)) ++ errors
  root_listed_below e spec errors is h =
      ap₂ ◌++◌ (ap (λ (o : Option (Spec R)). stands read (Ok e) (source_of o) ∷ below read greatest (source_of o)) is)
      (errors_alone read (below read greatest) (nothing_below read greatest) state errors h)

not_at : (greatest depth : ℕ) → depth < greatest → nat_le greatest depth ≡ false
not_at greatest depth less = grind (arith, less)

module _ (settings : Settings) (texts : Texts) (fs : Functions) (options : Options) (root : List ℕ) (agree : AgreeBelow texts fs options root) (no_links : options.follow_links ≡ false) (from_above : settings.above_the_root ≡ true) where
  abbrev job_at : ℕ → ℕ → Job Worth Worth
  job_at = job settings texts fs options root agree no_links from_above

  abbrev read_at : ℕ → ℕ → Spec Worth → Outcome Worth Worth
  read_at least greatest = reading (job_at least greatest)

  abbrev FitsHere : Spec Worth → Type 0
  FitsHere = Fits settings texts fs options root agree no_links from_above

  -- ---- what a walk yields from a start

  -- the directory that a walk starts in, to be read by the rules of a walk that starts there
  abbrev start_spec : List ℕ → Spec Worth
  start_spec path = record { directory = record { depth = 0; path = path; ancestors = [] }; state = with_chain (begun settings texts path) no_rules_yet }

  -- The list of a walk's root has the entry of that directory, and errors at depth 0 behind it.
  record Started (least greatest : ℕ) (path : List ℕ) : Type 0 where
    e : Entry Worth Worth
    errors : List (Item Worth Worth)
    depth_is : e.depth ≡ 0
    spec_is : spec_of {E = Worth} (root_list (job_at least greatest) path no_rules_yet).state (Ok e) ≡ Some (start_spec path)
    each : Each AtRoot errors
    list_is : (root_list (job_at least greatest) path no_rules_yet).list ≡ Ok e ∷ errors

  start_item : (least greatest : ℕ) (path : List ℕ) (m : Metadata) → fs.link_meta_of path ≡ Ok m → type_of m ≡ Dir
      → root_item (job_at least greatest) path ≡ Ok (record (made_of (job_at least greatest) 0 path false [] m) { read_children = Some (record { path = path; error = None; state = None }) })
  start_item least greatest path m is dir = rw (no_links, is, dir) refl

  started : (least greatest : ℕ) (path : List ℕ) → IsStart texts fs path → Started least greatest path
  started least greatest path start =
      let m : Metadata = start.is_there.0 in
      let e : Entry Worth Worth = record (made_of (job_at least greatest) 0 path false [] m) { read_children = Some (record { path = path; error = None; state = None }) } in
      let item_is = start_item least greatest path m start.is_there.1 start.is_there.2 in
      let made = λ (x : Item Worth Worth). at_root settings texts (rules_of no_rules_yet) (x ∷ []) in
      let grown = grown_root (Ok e) settings texts (rules_of no_rules_yet) path refl start.absolute in
      let rules_are : (made (Ok e)).chain ≡ begun settings texts path = walks_begin_so settings texts (rules_of no_rules_yet) (Ok e) path refl start.absolute in
      record {
        e = e;
        errors = grown.0;
        depth_is = refl;
        spec_is = ap (λ (x : Item Worth Worth). spec_of {E = Worth} (with_chain (made x).chain no_rules_yet) (Ok e)) item_is ∙ ap (λ (c : Chain). spec_of {E = Worth} (with_chain c no_rules_yet) (Ok e)) rules_are;
        each = grown.2;
        list_is = ap (λ (x : Item Worth Worth). (made x).list) item_is ∙ grown.1;
      }

  -- the entry of that directory, all that is below it, and these errors
  abbrev all_from : ℕ → ℕ → List ℕ → Entry Worth Worth → List (Item Worth Worth) → List (Item Worth Worth)
  all_from least greatest path e errors = (stands (read_at least greatest) (Ok e) (unread (start_spec path)) ∷ below (read_at least greatest) greatest (unread (start_spec path))) ++ errors

  -- what a walk yields that starts at a path
  walk_listed : (least greatest : ℕ) (path : List ℕ) (s : Started least greatest path)
      → whole_walk (job_at least greatest) path no_rules_yet ≡ answers least (all_from least greatest path s.e s.errors)
  unfolding whole_walk
  walk_listed least greatest path s =
      let state : Worth = (root_list (job_at least greatest) path no_rules_yet).state in
      ap (λ (l : List (Item Worth Worth)). answers least (listing (read_at least greatest) greatest (map (pair state) l))) s.list_is
      ∙ ap (answers least) (root_listed (read_at least greatest) greatest state s.e (start_spec path) s.errors s.spec_is refl s.each)

  -- the directory that a walk starts in fits, where it is below the root
  start_fits : (path : List ℕ) (names : List (List ℕ)) → All IsName names → path ≡ names_below root names → path ≢ [] → ((name : List ℕ) → IsName name → parent (join path name) ≡ Some path) → FitsHere (start_spec path)
  start_fits path names named is some parents = record {
    names = names;
    named = named;
    path_is = is;
    some = some;
    parents = parents;
    alike = subst (AlikeAt settings texts path) (sym (chain_back (begun settings texts path))) (begun_alike settings texts path);
  }

  errors_fit : (least greatest : ℕ) (state : Worth) (errors : List (Item Worth Worth)) → Each AtRoot errors → ItemsFit (read_at least greatest) FitsHere 0 state errors
  errors_fit least greatest state [] h = tt
  errors_fit least greatest state (Ok e ∷ errors) h = absurd h.0
  errors_fit least greatest state (Err f ∷ errors) h = (h.0, tt, errors_fit least greatest state errors h.1)

  -- what a walk yields below the directory that it starts in
  below_start : (greatest : ℕ) (path : List ℕ) (s : Started 0 greatest path) → FitsHere (start_spec path) → below_first (whole_walk (job_at 0 greatest) path no_rules_yet) ≡ below (read_at 0 greatest) greatest (unread (start_spec path))
  below_start greatest path s fits =
      let inside : List (Item Worth Worth) = below (read_at 0 greatest) greatest (unread (start_spec path)) in
      let first : Item Worth Worth = stands (read_at 0 greatest) (Ok s.e) (unread (start_spec path)) in
      let deep = below_from (read_at 0 greatest) FitsHere (opens settings texts fs options root agree no_links from_above 0 greatest) greatest 0 (unread (start_spec path)) (refl, fits) in
      ap below_first (walk_listed 0 greatest path s)
      ∙ ap (λ (b : Bool). below_first (cond b (first ∷ answers 0 (inside ++ s.errors)) (answers 0 (inside ++ s.errors)))) (answered_deep 0 first (omega arith))
      ∙ answered_deeper 0 0 inside s.errors (omega arith) deep.0 (steps_errors 0 s.errors s.each)

  module _ (least greatest : ℕ) (front : List (Item Worth Worth)) (e : Entry Worth Worth) (c : Children Worth) (behind : List (Item Worth Worth)) (start : IsStart texts fs root) (there : IsStart texts fs c.path) where
    -- where an entry of a directory is yielded, its directory is found
    found : (s : Started least greatest root) (back : List (Item Worth Worth)) (front' : List (Item Worth Worth))
        → all_from least greatest root s.e s.errors ≡ front' ++ Ok e ∷ back → e.read_children ≡ Some c
        → Found (read_at least greatest) FitsHere greatest e c back
    found s back front' is dir =
        let state : Worth = (root_list (job_at least greatest) root no_rules_yet).state in
        let opened = opens settings texts fs options root agree no_links from_above least greatest in
        let all : greatest + 0 ≡ greatest = omega arith in
        let fits : FitsHere (start_spec root) = start_fits root [] (All-nil IsName) refl start.some agree.parents in
        let items : ItemsFit (read_at least greatest) FitsHere 0 state (Ok s.e ∷ s.errors) = (s.depth_is, subst (DirectoryFits (read_at least greatest) FitsHere) (sym s.spec_is) fits, errors_fit least greatest state s.errors s.each) in
        found_listed (read_at least greatest) FitsHere greatest greatest 0 all
        (below_from (read_at least greatest) FitsHere opened greatest 0) (λ source fit. found_below (read_at least greatest) FitsHere opened greatest greatest 0 source fit all)
        state (Ok s.e ∷ s.errors) items front' e c back (root_listed_below (read_at least greatest) greatest state s.e (start_spec root) s.errors s.spec_is s.each ∙ is) dir

    answered_least : is_answered {R = Worth} {E = Worth} least (Ok e) ≡ true → least ≤ e.depth
    answered_least is = grind (arith, is)

    -- a walk can start there whose directories fit
    fits_there : (back : List (Item Worth Worth)) → Found (read_at least greatest) FitsHere greatest e c back → FitsHere (start_spec c.path)
    fits_there back it =
        start_fits c.path it.fits.names it.fits.named (sym it.path_is ∙ it.fits.path_is) there.some (subst (λ (p : List ℕ). (name : List ℕ) → IsName name → parent (join p name) ≡ Some p) it.path_is it.fits.parents)

    -- what is below it is what a walk yields below a root there
    same_there : (back : List (Item Worth Worth)) → Found (read_at least greatest) FitsHere greatest e c back → least ≤ e.depth
        → deeper_than e.depth (answers least back) ≡ map (item_deeper e.depth) (below_first (whole_walk (job_at 0 (greatest - e.depth)) c.path no_rules_yet))
    same_there back it less =
        let upper : ℕ = greatest - e.depth in
        let here = read_at least greatest in
        let s : Started 0 upper c.path = started 0 upper c.path there in
        let inside : List (Item Worth Worth) = below here it.levels (unread it.spec) in
        let fits : FitsHere (start_spec c.path) = fits_there back it in
        let deep = below_from here FitsHere (opens settings texts fs options root agree no_links from_above least greatest) it.levels e.depth (unread it.spec) (it.depth_is, it.fits) in
        let levels : it.levels ≡ upper = omega (arith, it.levels_are, it.depth_is) in
        let at : it.spec.depth ≡ 0 + e.depth = omega (arith, it.depth_is) in
        ap (λ (l : List (Item Worth Worth)). deeper_than e.depth (answers least l)) it.back_is
        ∙ answered_deeper least e.depth inside it.rest less deep.0 it.closes
        ∙ ap (λ (n : ℕ). below here n (unread it.spec)) levels
        ∙ same_below e.depth here (read_at 0 upper) (Same settings texts fs options root agree no_links from_above e.depth) (same_outcomes settings texts fs options root agree no_links from_above e.depth least greatest 0) upper (Some it.spec) (Some (start_spec c.path))
        (at, it.path_is, it.fits, fits)
        ∙ ap (map (item_deeper e.depth)) (sym (below_start upper c.path s fits))

    module _ (yields : whole_walk (job_at least greatest) root no_rules_yet ≡ front ++ Ok e ∷ behind) (reads : e.read_children ≡ Some c) where
      root_start : Started least greatest root
      root_start = started least greatest root start

      -- where it stands in what is listed
      stands_in : Stood least (all_from least greatest root root_start.e root_start.errors) (Ok e) behind
      stands_in =
          stood least (all_from least greatest root root_start.e root_start.errors) front (Ok e) behind (sym (walk_listed least greatest root root_start) ∙ yields)

      found_there : Found (read_at least greatest) FitsHere greatest e c stands_in.back
      found_there = found root_start stands_in.back stands_in.front stands_in.list_is reads

      walks_same : deeper_than e.depth behind ≡ map (item_deeper e.depth) (below_first (whole_walk (job_at 0 (greatest - e.depth)) c.path no_rules_yet))
      walks_same = ap (deeper_than e.depth) stands_in.behind_is ∙ same_there stands_in.back found_there (answered_least stands_in.kept)

  -- ---- with one greatest depth

  least_zero : (list : List (Item Worth Worth)) → AtLeast 0 list
  least_zero [] = tt
  least_zero (x ∷ list) = (omega arith, least_zero list)

  walk_whole : (greatest : ℕ) (path : List ℕ) (s : Started 0 greatest path)
      → whole_walk (job_at 0 greatest) path no_rules_yet ≡ all_from 0 greatest path s.e s.errors
  walk_whole greatest path s =
      let all : List (Item Worth Worth) = all_from 0 greatest path s.e s.errors in
      walk_listed 0 greatest path s ∙ answers_deep 0 all (least_zero all)

  -- readings above both greatest depths
  read_same : (greatest limit : ℕ) → limit ≤ greatest → (spec : Spec Worth) → spec.depth < limit → read_at 0 greatest spec ≡ read_at 0 limit spec
  read_same greatest limit less spec higher = rw (not_at greatest spec.depth (omega (arith, less, higher)), not_at limit spec.depth higher) refl

  start_depth : (greatest : ℕ) (path : List ℕ) (s : Started 0 greatest path) → depth_of (stands (read_at 0 greatest) (Ok s.e) (unread (start_spec path))) ≡ 0
  start_depth greatest path s = stands_at (read_at 0 greatest) FitsHere (Ok s.e) (unread (start_spec path)) ∙ s.depth_is

  -- a walk whose items are all above a less greatest depth yields below its root what one with that depth yields
  depth_same : (greatest limit : ℕ) → limit ≤ greatest → (path : List ℕ) → IsStart texts fs path → FitsHere (start_spec path) → Each (λ x. depth_of x < limit) (whole_walk (job_at 0 greatest) path no_rules_yet)
      → below_first (whole_walk (job_at 0 limit) path no_rules_yet) ≡ below_first (whole_walk (job_at 0 greatest) path no_rules_yet)
  depth_same greatest limit less path start fits each =
      let s : Started 0 greatest path = started 0 greatest path start in
      let t : Started 0 limit path = started 0 limit path start in
      let inside : List (Item Worth Worth) = below (read_at 0 greatest) greatest (unread (start_spec path)) in
      let first : Item Worth Worth = stands (read_at 0 greatest) (Ok s.e) (unread (start_spec path)) in
      let all : Each (λ x. depth_of x < limit) (first ∷ (inside ++ s.errors)) = subst (Each (λ x. depth_of x < limit)) (walk_whole greatest path s) each in
      let opened = opens settings texts fs options root agree no_links from_above 0 greatest in
      let same = shallow limit (read_at 0 greatest) (read_at 0 limit) FitsHere (read_same greatest limit less) opened limit greatest 0 (omega arith) less (unread (start_spec path)) (refl, fits)
      (omega (arith, start_depth greatest path s, all.0)) (each_front (λ x. depth_of x < limit) inside s.errors all.1) in
      below_start limit path t fits ∙ sym same ∙ sym (below_start greatest path s fits)

  one_depth : (least greatest : ℕ) (front : List (Item Worth Worth)) (e : Entry Worth Worth) (c : Children Worth) (behind : List (Item Worth Worth)) → IsStart texts fs root → IsStart texts fs c.path
      → whole_walk (job_at least greatest) root no_rules_yet ≡ front ++ Ok e ∷ behind → e.read_children ≡ Some c → Each (λ x. depth_of x < greatest - e.depth) (whole_walk (job_at 0 greatest) c.path no_rules_yet)
      → deeper_than e.depth behind ≡ map (item_deeper e.depth) (below_first (whole_walk (job_at 0 greatest) c.path no_rules_yet))
  one_depth least greatest front e c behind start there yields reads each =
      let it = found_there least greatest front e c behind start there yields reads in
      let back = (stands_in least greatest front e c behind start there yields reads).back in
      let fits : FitsHere (start_spec c.path) = fits_there least greatest front e c behind start there back it in
      walks_same least greatest front e c behind start there yields reads ∙ ap (map (item_deeper e.depth)) (depth_same greatest (greatest - e.depth) (omega arith) c.path there fits each)

pub walks_are_the_same : WalksAreTheSame
walks_are_the_same settings texts fs options root directory e behind starts it =
    let second : IsStart texts fs it.child.path = subst (IsStart texts fs) (sym it.path_is) starts.second in
    subst (λ (path : List ℕ). AreTheSameBelow e behind (walk_ignoring settings texts fs (options_below e.depth options) path)) it.path_is
    (walks_same settings texts fs options root starts.agree starts.no_links starts.from_above options.min_depth options.max_depth it.front e it.child behind starts.first second it.list_is it.reads)

pub depths_may_be_the_same : DepthsMayBeTheSame
depths_may_be_the_same settings texts fs options root directory e behind starts it all =
    let walk = λ (path : List ℕ). walk_ignoring settings texts fs (without_least_depth options) path in
    let limit : ℕ = options.max_depth - e.depth in
    let second : IsStart texts fs it.child.path = subst (IsStart texts fs) (sym it.path_is) starts.second in
    let lower : All (λ x. depth_of x < limit) (walk directory) = All-weaker (λ (x : Item Worth Worth). depth_of x + e.depth < options.max_depth) (λ (x : Item Worth Worth). depth_of x < limit) (λ x h. omega (arith, h)) (walk directory) all in
    subst (λ (path : List ℕ). AreTheSameBelow e behind (walk path)) it.path_is
    (one_depth settings texts fs options root starts.agree starts.no_links starts.from_above options.min_depth options.max_depth it.front e it.child behind starts.first second it.list_is it.reads
    (subst (λ (path : List ℕ). Each (λ x. depth_of x < limit) (walk path)) (sym it.path_is) (each_of_all (λ (x : Item Worth Worth). depth_of x < limit) (walk directory) lower)))
