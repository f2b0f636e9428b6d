-- What is below an entry of a listing.
use Rattle.std.proofs.Common.{◌≡◌, ◌∙◌, ◌≤◌, ◌<◌, ◌+◌, ℕ, Bool, true, false, cond, List, [], ◌∷◌, ◌++◌, Ok, Err, ap, refl, sym, arith, lt-ltb}
use Rattle.std.specs.Prelude.{nat_lt}
use Rattle.jwalk_model.specs.Entry.{Item}
use Rattle.jwalk_model.specs.Listing.{is_answered, answers}
use Rattle.jwalk_ignore.specs.Callback.IgnoreFiles.{depth_of}
use Rattle.jwalk_ignore_laws.specs.Deeper.{deeper_than}

-- ---- depths

module _ {R E : Type 0} where
  -- No item of the list is above this depth.
  abbrev pub AtLeast : ℕ → List (Item R E) → Type 0
  AtLeast depth [] = Unit {0}
  AtLeast depth (x ∷ list) = (depth ≤ depth_of x) × AtLeast depth list

  -- The first item is no deeper than this, and each other at most one level deeper than the one before it.
  abbrev pub Steps : ℕ → List (Item R E) → Type 0
  Steps depth [] = Unit {0}
  Steps depth (x ∷ list) = (depth_of x ≤ depth) × Steps (depth_of x + 1) list

  pub least_less : (n m : ℕ) (list : List (Item R E)) → n ≤ m → AtLeast m list → AtLeast n list
  least_less n m [] less h = tt
  least_less n m (x ∷ list) less h = (omega (arith, less, h.0), least_less n m list less h.1)

  pub least_append : (n : ℕ) (xs ys : List (Item R E)) → AtLeast n xs → AtLeast n ys → AtLeast n (xs ++ ys)
  least_append n [] ys h k = k
  least_append n (x ∷ xs) ys h k = (h.0, least_append n xs ys h.1 k)

  pub steps_more : (n m : ℕ) (list : List (Item R E)) → n ≤ m → Steps n list → Steps m list
  steps_more n m [] less h = tt
  steps_more n m (x ∷ list) less h = (omega (arith, less, h.0), h.1)

  pub steps_append : (n m : ℕ) (xs ys : List (Item R E)) → Steps n xs → AtLeast m xs → m ≤ n → Steps m ys → Steps n (xs ++ ys)
  steps_append n m [] ys h least less k = steps_more m n ys less k
  steps_append n m (x ∷ xs) ys h least less k = (h.0, steps_append (depth_of x + 1) m xs ys h.1 least.1 (omega (arith, least.0)) k)

  -- ---- what is deeper

  -- The first item, if there is one, is no deeper than this.
  abbrev Ends : ℕ → List (Item R E) → Type 0
  Ends depth [] = Unit {0}
  Ends depth (x ∷ list) = depth_of x ≤ depth

  deeper_ends : (n : ℕ) (list : List (Item R E)) → Ends n list → deeper_than n list ≡ []
  deeper_ends n [] h = refl
  deeper_ends n (x ∷ list) h = rw (not_less n (depth_of x) h) refl
    where
      not_less : (a b : ℕ) → b ≤ a → nat_lt a b ≡ false
      not_less a b less = grind (arith, less)

  deeper_front : (n : ℕ) (xs ys : List (Item R E)) → AtLeast (n + 1) xs → Ends n ys → deeper_than n (xs ++ ys) ≡ xs
  deeper_front n [] ys h k = deeper_ends n ys k
  deeper_front n (x ∷ xs) ys h k = rw (lt-ltb n (depth_of x) (omega (arith, h.0))) (ap (λ (l : List (Item R E)). x ∷ l) (deeper_front n xs ys h.1 k))

  -- ---- with a least depth

  pub answered_deep : (n : ℕ) (x : Item R E) → n ≤ depth_of x → is_answered n x ≡ true
  answered_deep n (Ok e) h = grind (arith, h)
  answered_deep n (Err f) h = refl

  pub answers_deep : (n : ℕ) (list : List (Item R E)) → AtLeast n list → answers n list ≡ list
  answers_deep n [] h = refl
  answers_deep n (x ∷ list) h = rw (answered_deep n x h.0) (ap (λ (l : List (Item R E)). x ∷ l) (answers_deep n list h.1))

  not_answered : (n : ℕ) (x : Item R E) → is_answered n x ≡ false → depth_of x < n
  not_answered n (Ok e) is = grind (arith, is)
  not_answered n (Err f) is = absurd (cc)

  ends_by : (n m : ℕ) (x : Item R E) (list : List (Item R E)) (b : Bool) → is_answered n x ≡ b → n ≤ m → Steps m (x ∷ list) → (Steps m list → Ends m (answers n list)) → Ends m (cond b (x ∷ answers n list) (answers n list))
  ends_by n m x list true is less h rest = h.0
  ends_by n m x list false is less h rest = let above = not_answered n x is in rest (steps_more (depth_of x + 1) m list (omega arith) h.1)

  answers_end : (n m : ℕ) (list : List (Item R E)) → n ≤ m → Steps m list → Ends m (answers n list)
  answers_end n m [] less h = tt
  answers_end n m (x ∷ list) less h = ends_by n m x list (is_answered n x) refl less h (answers_end n m list less)

  both_by : (n : ℕ) (x : Item R E) (xs ys : List (Item R E)) (b : Bool) → answers n (xs ++ ys) ≡ answers n xs ++ answers n ys → cond b (x ∷ answers n (xs ++ ys)) (answers n (xs ++ ys)) ≡ cond b (x ∷ answers n xs) (answers n xs) ++ answers n ys
  both_by n x xs ys true rest = ap (λ (l : List (Item R E)). x ∷ l) rest
  both_by n x xs ys false rest = rest

  answers_both : (n : ℕ) (xs ys : List (Item R E)) → answers n (xs ++ ys) ≡ answers n xs ++ answers n ys
  answers_both n [] ys = refl
  answers_both n (x ∷ xs) ys = both_by n x xs ys (is_answered n x) (answers_both n xs ys)

  -- where an item is in what is yielded, it is in the list
  pub record Stood (n : ℕ) (list : List (Item R E)) (x : Item R E) (behind : List (Item R E)) : Type 0 where
    pub front : List (Item R E)
    pub back : List (Item R E)
    pub list_is : list ≡ front ++ x ∷ back
    pub kept : is_answered n x ≡ true
    pub behind_is : behind ≡ answers n back

  stood_more : (n : ℕ) (y : Item R E) (list : List (Item R E)) (x : Item R E) (behind : List (Item R E)) → Stood n list x behind → Stood n (y ∷ list) x behind
  stood_more n y list x behind s = record {
    front = y ∷ s.front;
    back = s.back;
    list_is = ap (λ (l : List (Item R E)). y ∷ l) s.list_is;
    kept = s.kept;
    behind_is = s.behind_is;
  }

  stood_by : (n : ℕ) (y : Item R E) (list front : List (Item R E)) (x : Item R E) (behind : List (Item R E)) (b : Bool) → is_answered n y ≡ b
      → ((f : List (Item R E)) → answers n list ≡ f ++ x ∷ behind → Stood n list x behind) → cond b (y ∷ answers n list) (answers n list) ≡ front ++ x ∷ behind → Stood n (y ∷ list) x behind
  stood_by n y list [] x behind true kept rest is =
      let first : y ≡ x = cc in
      let others : answers n list ≡ behind = cc in
      record { front = []; back = list; list_is = ap (λ (z : Item R E). z ∷ list) first; kept = ap (is_answered n) (sym first) ∙ kept; behind_is = sym others }
  stood_by n y list (z ∷ front) x behind true kept rest is =
      let others : answers n list ≡ front ++ x ∷ behind = cc in
      stood_more n y list x behind (rest front others)
  stood_by n y list front x behind false kept rest is = stood_more n y list x behind (rest front is)

  pub stood : (n : ℕ) (list front : List (Item R E)) (x : Item R E) (behind : List (Item R E)) → answers n list ≡ front ++ x ∷ behind → Stood n list x behind
  stood n [] [] x behind is = absurd (cc)
  stood n [] (y ∷ front) x behind is = absurd (cc)
  stood n (y ∷ list) front x behind is = stood_by n y list front x behind (is_answered n y) refl (λ f. stood n list f x behind) is

  -- what is yielded of a list that goes deeper and comes back is deeper at its front
  pub answered_deeper : (n m : ℕ) (xs ys : List (Item R E)) → n ≤ m → AtLeast (m + 1) xs → Steps m ys → deeper_than m (answers n (xs ++ ys)) ≡ xs
  answered_deeper n m xs ys less deep steps =
      ap (deeper_than m) (answers_both n xs ys ∙ ap (λ (l : List (Item R E)). l ++ answers n ys) (answers_deep n xs (least_less n (m + 1) xs (omega (arith, less)) deep)))
      ∙ deeper_front m xs (answers n ys) deep (answers_end n m ys less steps)

  pub least_behind : (n : ℕ) (xs ys : List (Item R E)) → AtLeast n (xs ++ ys) → AtLeast n ys
  least_behind n [] ys h = h
  least_behind n (x ∷ xs) ys h = least_behind n xs ys h.1
