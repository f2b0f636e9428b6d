-- What a board still has to give when its next address is passed without its reading.
use Rattle.std.proofs.Common.{◌≡◌, ℕ, ◌+◌, ◌<◌, ◌≤◌, true, List, [], ◌∷◌, ◌++◌, length, map, refl, sym, ap, ap₂, ◌∙◌, arith, subst, inl, inr}
use Rattle.std.specs.Prelude.{All, Some, not}
use Rattle.std.specs.List.{filter}
use Rattle.std.specs.List.Sorted.{IsPermutation}
use Rattle.std.proofs.lemmas.List.{map-append}
use Rattle.std.proofs.lemmas.List.Elements.{All-nil, All-cons}
use Rattle.std.proofs.lemmas.List.Sorted.{IsPermutation-map}
use Rattle.jwalk_order.specs.Addressed.{Addressed, addresses_of}
use Rattle.jwalk_order.specs.Addresses.{times}
use Rattle.jwalk_order.specs.Frontier.{next_address, passed}
use Rattle.jwalk_order.specs.IndexPath.{is_within}
use Rattle.jwalk_order.specs.Within.{Leaves}
use Rattle.jwalk_order.proofs.Children.{child_from_times}
use Rattle.jwalk_order.proofs.Sets.{times-itself}
use Rattle.jwalk_board.specs.Board.{Board, on_board, IsWhole}
use Rattle.jwalk_board.specs.Left.{is_left, IsApart, IsLeftOf}
use Rattle.jwalk_board.specs.Skip as board
use Rattle.jwalk_board.proofs.Left.{left_of-among}
use Rattle.jwalk_board.proofs.Opens.{times-on_board}
use Rattle.jwalk_board.proofs.Skips.{next_and_rest, none_gone, left_and_gone, left-child, right_of}
use Rattle.tree_walk.specs.declared.read.Read.{Read}
use Rattle.tree_walk.specs.ToGive.{found_at, spec_at, specs_at, with_below}
use Rattle.tree_walk.specs.Reads.{spec_of}
use Rattle.tree_walk.specs.BoardWalk.{SkipsFirst, SkipsNext, Keeps}
use Rattle.tree_walk.proofs.Found.{found_at-append, found_at-none, found_at-permutation}
use Rattle.tree_walk.proofs.Steps.{specs_at-same, spec_at-once, map-same_where, below-same}

-- a list of one has a first
only_one : {X : Type 0} (xs : List X) → length xs ≡ 1 → (x : X) × (xs ≡ x ∷ [])
only_one [] h = absurd (omega (arith, h))
only_one (x ∷ []) h = (x, refl)
only_one (x ∷ y ∷ ys) h = absurd (omega (arith, h))

all_at : {V : Type 0} (P : List ℕ → Type 0) (ys : List (Addressed V)) → ((d : List ℕ) → 0 < times d (addresses_of ys) → P d) → All (λ y. P y.at) ys
all_at P [] h = All-nil _
all_at P (y ∷ ys) h = All-cons (λ y. P y.at) y ys (h y.at (omega (arith, times-itself y.at (addresses_of ys)))) (all_at P ys (λ d there. h d (omega (arith, there))))

module _ {T R : Type 0} (b c : Board T (Read T R)) (whole : IsWhole b) (s : board.SkipsFirst b c) (none : b.in_hand ≡ []) where
  abbrev a : List ℕ
  a = next_address b.frontier

  abbrev rest : List (List ℕ)
  rest = (next_and_rest b.frontier s.some).0

  front : b.frontier ≡ a ∷ rest
  front = (next_and_rest b.frontier s.some).1

  sides : IsLeftOf a rest × IsApart rest
  sides = subst IsApart front whole.apart

  after : c.frontier ≡ rest
  after = ap (λ z. z.frontier) s.others ∙ ap (λ f. passed f 0) front

  abbrev before_at : List ℕ → List T
  before_at = spec_at (λ t. t) spec_of b []

  abbrev after_at : List ℕ → List T
  after_at = spec_at (λ t. t) spec_of c []

  found_as : {X : Type 0} (v : X → T) (old new : List (Addressed X)) (d : List ℕ) → Leaves a old new → is_left a d ≡ true → times d (addresses_of old) ≤ 1 → found_at v new d ≡ found_at v old d
  found_as v old new d l beside once =
      sym (sym (found_at-permutation v old (l.gone ++ new) d l.leave once)
      ∙ found_at-append v l.gone new d
      ∙ ap (λ z. z ++ found_at v new d) (found_at-none v l.gone d (none_gone a d l.gone l.within beside)))

  -- right of the address all is found as before
  as_before : (d : List ℕ) → is_left a d ≡ true → after_at d ≡ before_at d
  as_before d beside =
      let once = whole.once d in
      let all = times-on_board d b in
      ap₂ (λ l m. l ++ ([] ++ m)) (found_as (λ t. t) b.queued c.queued d s.queued beside (omega (arith, once, all))) (found_as spec_of b.ready c.ready d s.ready beside (omega (arith, once, all)))

  first_found : (x : T) × (before_at a ≡ x ∷ [])
  first_found =
      let there : 0 < times a b.frontier = subst (λ f. 0 < times a f) (sym front) (omega (arith, times-itself a rest)) in
      only_one (before_at a) (spec_at-once (λ t. t) spec_of b [] a (λ d. ap (times d) none) (omega (arith, whole.each a, whole.once a, there)))

  left_is : specs_at (λ t. t) spec_of c [] c.frontier ≡ specs_at (λ t. t) spec_of b [] rest
  left_is =
      ap (specs_at (λ t. t) spec_of c []) after
      ∙ specs_at-same (λ t. t) spec_of b c [] [] rest (λ d there. as_before d (left_of-among a d rest sides.0 there))

  ready_beside : (d : List ℕ) → 0 < times d (addresses_of c.ready) → is_left a d ≡ true
  ready_beside d there =
      let on_c : 0 < times d (on_board c) = omega (arith, there, times-on_board d c) in
      let on_b : 0 < times d (on_board b) = omega (arith, there, times-on_board d b, left_and_gone a d b.ready c.ready s.ready) in
      right_of b whole a rest front d on_b (s.outside d on_c)

  below_as : map (with_below (λ t. t) spec_of c []) c.ready ≡ map (with_below (λ t. t) spec_of b []) c.ready
  below_as =
      map-same_where (with_below (λ t. t) spec_of c []) (with_below (λ t. t) spec_of b []) (λ y. is_left a y.at ≡ true) c.ready
      (λ y beside. below-same (λ t. t) spec_of b c [] [] y (λ d there.
      let k = child_from_times d y.at 0 y.child_count there in
      as_before d (ap (is_left a) k.3 ∙ left-child a y.at k.0 beside)))
      (all_at (λ d. is_left a d ≡ true) c.ready ready_beside)

  -- The first specification is passed over, with what is below it.
  pub skips_first : SkipsFirst (Some b) (Some c)
  skips_first =
      let old = with_below (λ t. t) spec_of b [] in
      record {
        first = first_found.0;
        to_read = ap (specs_at (λ t. t) spec_of b []) front ∙ ap₂ (λ l m. l ++ m) first_found.1 (sym left_is);
        gone = map old s.ready.gone;
        made = subst (IsPermutation (map old b.ready)) (map-append old s.ready.gone c.ready ∙ ap (λ l. map old s.ready.gone ++ l) (sym below_as)) (IsPermutation-map old b.ready (s.ready.gone ++ c.ready) s.ready.leave);
        passes = ap (λ z. z.frontier) s.others;
        queue = s.queued;
        done_gone = addresses_of s.ready.gone;
        done = subst (IsPermutation (addresses_of b.ready)) (map-append (λ (y : Addressed (Read T R)). y.at) s.ready.gone c.ready) (IsPermutation-map (λ (y : Addressed (Read T R)). y.at) b.ready (s.ready.gone ++ c.ready) s.ready.leave);
      }

-- A board's next address is passed over, or it has none.
pub skips_next : {T R : Type 0} (b c : Board T (Read T R)) → IsWhole b → b.in_hand ≡ [] → board.SkipsNext b c → SkipsNext (Some b) (Some c)
skips_next b c whole none (inl nothing) =
    inl (nothing.0, ap (specs_at (λ t. t) spec_of b []) nothing.0, ap Some nothing.1)
skips_next b c whole none (inr s) = inr (skips_first b c whole s none)

-- What holds of a board between calls is kept.
pub keeps_skipped : {T R : Type 0} (b c : Board T (Read T R)) → Keeps b → board.SkipsNext b c → Keeps c
keeps_skipped b c keeps (inl nothing) = subst Keeps (sym nothing.1) keeps
keeps_skipped b c keeps (inr s) = record {
  running = ap (λ z. z.stopped) s.others ∙ keeps.running;
  none_in_hand = s.in_hand ∙ ap (filter (λ d. not (is_within (next_address b.frontier) d))) keeps.none_in_hand;
}
