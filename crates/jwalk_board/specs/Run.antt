-- What a list of moves does, over only the addresses of a preorder.
use Rattle.std.specs.Prelude.{ℕ, ◌+◌, Bool, cond, not, nat_lt, ◌&&◌, ◌||◌, ◌==◌, List, [], ◌∷◌, ◌++◌, length, slice_get, slice_set, replicate, Option, Some, None}
use Rattle.std.specs.List.{find}
use Rattle.jwalk_order.specs.Addresses.{times}
use Rattle.jwalk_order.specs.Siblings.{parent_address}
use Rattle.jwalk_board.specs.declared.board.moves.Move.{Move}
use Rattle.jwalk_board.specs.declared.board.moves.Move.TheVariants.{Take, Finish, HandOut}

pub record Run : Type 0 where
  -- the addresses that were taken, in order
  pub taken : List (List ℕ)
  -- what each worker holds
  pub hands : List (Option (List ℕ))
  pub finished : List (List ℕ)
  -- how many were handed out
  pub handed_out : ℕ

abbrev pub is_among : List ℕ → List (List ℕ) → Bool
is_among a xs = nat_lt 0 (times a xs)

-- Nobody took it so far, and it is at the top or right below a finished address.
abbrev pub is_queued : Run → List ℕ → Bool
is_queued r a = not (is_among a r.taken) && ((length a == 1) || is_among (parent_address a) r.finished)

-- The worker takes the address.
abbrev pub taken_by : Run → ℕ → List ℕ → Run
taken_by r k a = record r { taken = r.taken ++ a ∷ []; hands = slice_set r.hands k (Some a) }

abbrev pub take_first : Run → ℕ → Option (List ℕ) → Run
take_first r k None = r
take_first r k (Some a) = taken_by r k a

-- A worker who is there and holds nothing takes the earliest that is queued.
abbrev pub take_by : List (List ℕ) → Run → ℕ → Option (Option (List ℕ)) → Run
take_by all r k None = r
take_by all r k (Some None) = take_first r k (find (is_queued r) all)
take_by all r k (Some (Some a)) = r

-- What a worker holds becomes finished.
abbrev pub finish_by : Run → ℕ → Option (Option (List ℕ)) → Run
finish_by r k None = r
finish_by r k (Some None) = r
finish_by r k (Some (Some a)) = record r { hands = slice_set r.hands k None; finished = a ∷ r.finished }

-- The next address is handed out if it is finished.
abbrev pub hand_out_if_finished : Run → Option (List ℕ) → Run
hand_out_if_finished r None = r
hand_out_if_finished r (Some a) = cond (is_among a r.finished) (record r { handed_out = r.handed_out + 1 }) r

abbrev pub move : List (List ℕ) → Run → Move → Run
move all r (Take k) = take_by all r k (slice_get r.hands k)
move all r (Finish k) = finish_by r k (slice_get r.hands k)
move all r HandOut = hand_out_if_finished r (slice_get all r.handed_out)

abbrev pub moved : List (List ℕ) → Run → List Move → Run
moved all r [] = r
moved all r (m ∷ moves) = moved all (move all r m) moves

-- what the moves do from the start
abbrev pub run_of_moves : List (List ℕ) → ℕ → List Move → Run
run_of_moves all workers moves = moved all (record { taken = []; hands = replicate workers None; finished = []; handed_out = 0 }) moves

-- what the workers hold
abbrev pub in_hands : List (Option (List ℕ)) → List (List ℕ)
in_hands [] = []
in_hands (None ∷ hands) = in_hands hands
in_hands (Some a ∷ hands) = a ∷ in_hands hands
