-- What the tree returns as a file system, by what the table finds.
use Rattle.std.proofs.Common.{◌≡◌, ℕ, Bool, List, [], ◌∷◌, map, Option, None, Some, Result, Ok, Err, refl, sym, ap, subst, ◌∙◌}
use Rattle.std.specs.Prelude.{option_and_then}
use Rattle.std.specs.Option.{option_map}
use Rattle.std.specs.declared.io.ErrorKind.{ErrorKind}
use Rattle.std.specs.declared.io.ErrorKind.TheVariants as kind
use Rattle.jwalk_model.specs.declared.seen.Seen.{Seen}
use Rattle.jwalk_model.specs.declared.seen.Seen.TheVariants.{Whole}
use Rattle.jwalk_model.specs.FileSystem.{Listed}
use Rattle.jwalk_model.specs.Tree.{Place, directory, child, look_up, at_found, listing_at, node_metadata, target_at, seen_at}
use Rattle.jwalk_memory_fs.specs.Child.{Child, Dir, File, Link, metadata_of as child_metadata}
use Rattle.jwalk_memory_fs.specs.Hit.{Hit, on_dir, on_file, on_link, metadata_of}
use Rattle.jwalk_memory_fs.specs.Branch.{Branch, branch_at, children_at, denied_at, child_of, at_end, names_of, node_of, tree_of_table, found, IsSettled, listed_child, listing_of, AreFound, IsSound}
use Rattle.jwalk_memory_fs.proofs.TableLemmas.{at_end-append}
use Rattle.jwalk_memory_fs.proofs.LookUpLemmas.{IsAt, Agrees, look_up_agrees}

-- a hit, as what is at its place
abbrev child_hit : Hit → Child
child_hit (on_dir i) = Dir i
child_hit (on_file len) = File len
child_hit (on_link holder target) = Link target

stands : (table : List Branch) (place : Place) (h : Hit) → IsAt table place h → at_end table (Dir 0) place ≡ Some (child_hit h)
stands table place (on_dir i) e = e
stands table place (on_file len) e = e
stands table place (on_link holder target) e = e.0

module _ {X : Type 0} (table : List Branch) (sound : IsSound table) (follow : Bool) (path : List ℕ) (f : Place → Result X ErrorKind) where
  by_agreement : (r : Result Place ErrorKind) (s : Result Hit ErrorKind) → Agrees table r s → (x : Result X ErrorKind)
      → ((place : Place) (h : Hit) → s ≡ Ok h → IsAt table place h → f place ≡ x) → ((k : ErrorKind) → s ≡ Err k → Err k ≡ x) → at_found f r ≡ x
  by_agreement (Ok place) (Ok h) e x at err = at place h refl e
  by_agreement (Ok place) (Err k) e x at err = absurd e
  by_agreement (Err k) (Ok h) e x at err = absurd e
  by_agreement (Err k) (Err l) e x at err = ap (λ (m : ErrorKind). Err m) e ∙ err l refl

  -- the result is that of the place that was found
  pub answer-found : (h : Hit) → found table follow path ≡ Ok h → (x : Result X ErrorKind) → ((place : Place) → at_end table (Dir 0) place ≡ Some (child_hit h) → f place ≡ x)
      → at_found f (look_up (tree_of_table table) follow path) ≡ x
  answer-found h is x at =
      by_agreement (look_up (tree_of_table table) follow path) (found table follow path) (look_up_agrees table follow sound path) x
      (λ place d e is_at. let same : d ≡ h = cc in at place (stands table place d is_at ∙ ap (λ (b : Hit). Some (child_hit b)) same))
      (λ k e. let z : Ok h ≡ Err k = sym is ∙ e in cc)

  pub answer-err : (k : ErrorKind) → found table follow path ≡ Err k → at_found f (look_up (tree_of_table table) follow path) ≡ Err k
  answer-err k is =
      by_agreement (look_up (tree_of_table table) follow path) (found table follow path) (look_up_agrees table follow sound path) (Err k)
      (λ place d e is_at. let z : Ok d ≡ Err k = sym e ∙ is in cc)
      (λ l e. let z : ◌≡◌ {A = Result Hit ErrorKind} (Err l) (Err k) = sym e ∙ is in let same : l ≡ k = cc in ap (λ (m : ErrorKind). Err m) same)

metadata-node : (table : List Branch) (h : Hit) → node_metadata (Some (node_of table (child_hit h))) ≡ Ok (metadata_of h)
metadata-node table (on_dir i) = refl
metadata-node table (on_file len) = refl
metadata-node table (on_link holder target) = refl

no_target-node : (table : List Branch) (h : Hit) → IsSettled h → target_at (Some (node_of table (child_hit h))) ≡ Err kind.InvalidInput
no_target-node table (on_dir i) settled = refl
no_target-node table (on_file len) settled = refl
no_target-node table (on_link holder target) settled = absurd settled

seen-node : (table : List Branch) (c : Child) → seen_at (Some (node_of table c)) ≡ Whole (child_metadata c)
seen-node table (Dir i) = refl
seen-node table (File len) = refl
seen-node table (Link target) = refl

module _ (table : List Branch) (sound : IsSound table) (follow : Bool) (path : List ℕ) where
  pub metadata-found : (h : Hit) → found table follow path ≡ Ok h → at_found (λ place. node_metadata (tree_of_table table place)) (look_up (tree_of_table table) follow path) ≡ Ok (metadata_of h)
  metadata-found h is =
      answer-found table sound follow path (λ place. node_metadata (tree_of_table table place)) h is (Ok (metadata_of h))
      (λ place e. ap (λ (o : Option Child). node_metadata (option_map (node_of table) o)) e ∙ metadata-node table h)

  pub target-found : (holder : ℕ) (target : List ℕ) → found table follow path ≡ Ok (on_link holder target)
      → at_found (λ place. target_at (tree_of_table table place)) (look_up (tree_of_table table) follow path) ≡ Ok target
  target-found holder target is =
      answer-found table sound follow path (λ place. target_at (tree_of_table table place)) (on_link holder target) is (Ok target)
      (λ place e. ap (λ (o : Option Child). target_at (option_map (node_of table) o)) e)

  pub no_target-found : (h : Hit) → IsSettled h → found table follow path ≡ Ok h → at_found (λ place. target_at (tree_of_table table place)) (look_up (tree_of_table table) follow path) ≡ Err kind.InvalidInput
  no_target-found h settled is =
      answer-found table sound follow path (λ place. target_at (tree_of_table table place)) h is (Err kind.InvalidInput)
      (λ place e. ap (λ (o : Option Child). target_at (option_map (node_of table) o)) e ∙ no_target-node table h settled)

  pub no_listing-file : (len : ℕ) → found table follow path ≡ Ok (on_file len)
      → at_found (λ place. listing_at (tree_of_table table) place (tree_of_table table place)) (look_up (tree_of_table table) follow path) ≡ Err kind.InvalidInput
  no_listing-file len is =
      answer-found table sound follow path (λ place. listing_at (tree_of_table table) place (tree_of_table table place)) (on_file len) is (Err kind.InvalidInput)
      (λ place e. ap (λ (o : Option Child). listing_at (tree_of_table table) place (option_map (node_of table) o)) e)

  pub no_listing-link : (holder : ℕ) (target : List ℕ) → found table follow path ≡ Ok (on_link holder target)
      → at_found (λ place. listing_at (tree_of_table table) place (tree_of_table table place)) (look_up (tree_of_table table) follow path) ≡ Err kind.InvalidInput
  no_listing-link holder target is =
      answer-found table sound follow path (λ place. listing_at (tree_of_table table) place (tree_of_table table place)) (on_link holder target) is (Err kind.InvalidInput)
      (λ place e. ap (λ (o : Option Child). listing_at (tree_of_table table) place (option_map (node_of table) o)) e)

  abbrev listed_at : Place → List ℕ → Listed
  listed_at place name = Ok (record { name = name; seen = Ok (seen_at (tree_of_table table (child place name))) })

  abbrev listed_as : List ℕ → Seen → Listed
  listed_as name seen = Ok (record { name = name; seen = Ok seen })

  -- a name is listed with the metadata of its child
  listed-names : (place : Place) (i : ℕ) → at_end table (Dir 0) place ≡ Some (Dir i) → (es : List (List ℕ × Child)) → AreFound (children_at table i) es → map (listed_at place) (names_of es) ≡ listing_of es
  listed-names place i stands [] found = refl
  listed-names place i stands (e ∷ es) found =
      let o = at_end-append table (Dir 0) place e.0 ∙ ap (option_and_then (λ x. child_of table x e.0)) stands ∙ found.0 in
      ap (λ (t : Seen). listed_as e.0 t ∷ map (listed_at place) (names_of es)) (ap (λ (x : Option Child). seen_at (option_map (node_of table) x)) o ∙ seen-node table e.1)
      ∙ ap (λ (ls : List Listed). listed_child e ∷ ls) (listed-names place i stands es found.1)

  listing-listed : (i : ℕ) → found table follow path ≡ Ok (on_dir i) → denied_at table i ≡ None → AreFound (children_at table i) (children_at table i)
      → at_found (λ place. listing_at (tree_of_table table) place (tree_of_table table place)) (look_up (tree_of_table table) follow path) ≡ Ok (listing_of (children_at table i))
  listing-listed i is undenied named =
      answer-found table sound follow path (λ place. listing_at (tree_of_table table) place (tree_of_table table place)) (on_dir i) is (Ok (listing_of (children_at table i)))
      (λ place e.
      ap (λ (o : Option Child). listing_at (tree_of_table table) place (option_map (node_of table) o)) e
      ∙ ap (λ (d : Option ErrorKind). listing_at (tree_of_table table) place (Some (directory (names_of (children_at table i)) d))) undenied
      ∙ ap (λ (ls : List Listed). Ok ls) (listed-names place i e (children_at table i) named))

  -- the result is the listing of the directory that was found
  pub listing-found : (i : ℕ) → found table follow path ≡ Ok (on_dir i) → (b : Branch) → b ≡ branch_at table i → b.denied ≡ None → AreFound b.children b.children
      → at_found (λ place. listing_at (tree_of_table table) place (tree_of_table table place)) (look_up (tree_of_table table) follow path) ≡ Ok (listing_of b.children)
  listing-found i is b at undenied named =
      listing-listed i is (ap (λ (d : Branch). d.denied) (sym at) ∙ undenied) (subst (λ (d : Branch). AreFound d.children d.children) at named)
      ∙ ap (λ (d : Branch). Ok (listing_of d.children)) (sym at)

  pub no_listing-denied : (i : ℕ) (k : ErrorKind) → found table follow path ≡ Ok (on_dir i) → denied_at table i ≡ Some k
      → at_found (λ place. listing_at (tree_of_table table) place (tree_of_table table place)) (look_up (tree_of_table table) follow path) ≡ Err k
  no_listing-denied i k is denied =
      answer-found table sound follow path (λ place. listing_at (tree_of_table table) place (tree_of_table table place)) (on_dir i) is (Err k)
      (λ place e.
      ap (λ (o : Option Child). listing_at (tree_of_table table) place (option_map (node_of table) o)) e
      ∙ ap (λ (d : Option ErrorKind). listing_at (tree_of_table table) place (Some (directory (names_of (children_at table i)) d))) denied)
