-- Numbers and texts as states.
use Rattle.std.specs.Prelude.{ℕ, Option, Some, None, String, string_bytes}
use Rattle.jwalk.specs.jwalk_model.Counted.{Worth, blank, bytes, number, both}
use Rattle.jwalk.specs.jwalk_job.Given.{Given}

-- two numbers count as both
abbrev pub both_of : ℕ × ℕ → Worth
both_of pair = both (number pair.0) (number pair.1)

-- states that are numbers, with no callback
abbrev pub numbers : Given ℕ (ℕ × ℕ)
numbers = record {
  read_dir_state = number;
  dir_entry_state = both_of;
  processed = λ depth path state list. record { state = state; list = list };
  keeps_depths = λ depth path state list h. h;
  new_entry = both (number 0) (number 0);
}

-- a text counts by its bytes, and as nothing if there is none
abbrev pub worth_of : {A : Type 0} → Option (String A) → Worth
worth_of None = blank
worth_of (Some text) = bytes (string_bytes text)

-- states that are texts, with no callback
abbrev pub texts : {A B : Type 0} → Given (Option (String A)) (Option (String B))
texts = record {
  read_dir_state = worth_of;
  dir_entry_state = worth_of;
  processed = λ depth path state list. record { state = state; list = list };
  keeps_depths = λ depth path state list h. h;
  new_entry = blank;
}
