-- The statuses of words that are refused.
use Rattle.std.proofs.Common.{◌≡◌, ◌<◌, ◌≤◌, ℕ, Bool, List, arith, subst, sym}
use Rattle.std.specs.Prelude.{Result, Ok, Err, IfErr}
use Rattle.std.specs.Result.{IsErrAnd}
use Rattle.clap.specs.Words.{App, HasKind, Row, Text, fault_of, kind_of}
use Rattle.clap.specs.declared.error.Error.{Error}
use Rattle.program_parts.specs.Refusal.{AskForText, IsRefusedBy, status_of}
use Rattle.program_parts.specs.declared.refusal.CommonRefusal.{CommonRefusal}
use Rattle.program_parts.specs.declared.refusal.CommonRefusal.TheVariants.{Words, Conflict, Memory}
use Rattle.program_parts.proofs.StatusFacts.{kind_most, text_among, told_zero}

pub refusal_most : (refusal : CommonRefusal) → status_of refusal ≤ 2
refusal_most (Words error) = kind_most (kind_of error)
refusal_most (Conflict one other) = omega arith
refusal_most Memory = omega arith

module _ (app : App) (has_conflict : List Row → Bool) (words : List Text) where
  -- words that are refused with 0 ask for help or for the version
  pub asked_for_text : (refusal : CommonRefusal) → IsRefusedBy app has_conflict words refusal → status_of refusal ≡ 0 → AskForText app words
  asked_for_text (Words error) refused none = text_among (kind_of error) (fault_of app words) none refused
  asked_for_text (Conflict one other) refused none = absurd (cc)
  asked_for_text Memory refused none = absurd (cc)

  -- and so does a call that ends with 0
  pub text_asked : (refusal : CommonRefusal) (status : ℕ) → IsRefusedBy app has_conflict words refusal → (0 < status_of refusal → status ≡ status_of refusal) → status ≡ 0 → AskForText app words
  text_asked refusal status refused told is = asked_for_text refusal refused (told_zero (status_of refusal) status told is)

  -- the error of the parser is why words are refused
  pub refused_for : {X : Type 0} (result : Result X CommonRefusal) (error : Error) → HasKind (fault_of app words) error → IsErrAnd result (λ it. it ≡ Words error) → IfErr result (IsRefusedBy app has_conflict words)
  refused_for (Ok x) error fault is = tt
  refused_for (Err it) error fault is = subst (IsRefusedBy app has_conflict words) (sym is) fault
