-- The statuses of words that are refused.
use Rattle.std.proofs.Common.{◌≡◌, ◌<◌, ℕ, List, arith, subst, sym}
use Rattle.std.specs.Prelude.{Result, Ok, Err, IfErr, codes}
use Rattle.std.specs.Result.{IsErrAnd}
use Rattle.clap.specs.Words.{Row, Text, first_of}
use Rattle.program_parts.specs.Matches.{GiveValues}
use Rattle.program_parts.proofs.RefusalFacts as common
use Rattle.tally_words.specs.AsksFor.{AskForText}
use Rattle.tally_words.specs.Command.{tally_app}
use Rattle.tally_words.specs.Conflict.{has_conflict}
use Rattle.tally_words.specs.Refusal.{IsRefusedFor, IsRefusedSize, status_of}
use Rattle.tally_words.specs.declared.refusal.Refusal.{Refusal}
use Rattle.tally_words.specs.declared.refusal.Refusal.TheVariants.{Common, NoSize}

no_two : (status : ℕ) → (0 < 2 → status ≡ 2) → status ≡ 0 → ⊥
no_two status told is = let two : status ≡ 2 = told (omega arith) in omega (arith, two, is)

-- words that are refused with 0 ask for help or for the version
pub text_asked : (words : List Text) (refusal : Refusal) (status : ℕ) → IsRefusedFor words refusal → (0 < status_of refusal → status ≡ status_of refusal) → status ≡ 0 → AskForText words
text_asked words (Common refusal) status refused told is = common.text_asked tally_app has_conflict words refusal status refused told is
text_asked words (NoSize text) status refused told is = absurd (no_two status told is)

-- words are refused if a size is
pub size_refused : (words : List Text) (rows : List Row) → GiveValues tally_app words rows → (refusal : Refusal) → IsRefusedSize (first_of (codes "threshold") rows) refusal → IsRefusedFor words refusal
size_refused words rows read (Common refusal) why = absurd why
size_refused words rows read (NoSize text) why = subst (λ (it : List Row). IsRefusedSize (first_of (codes "threshold") it) (NoSize text)) read.values why

-- the returned refusal is the reason why words are refused
pub returned_for : {X : Type 0} (words : List Text) (result : Result X Refusal) (refusal : Refusal) → IsErrAnd result (λ it. it ≡ refusal) → IsRefusedFor words refusal → IfErr result (IsRefusedFor words)
returned_for words (Ok x) refusal is why = tt
returned_for words (Err it) refusal is why = subst (λ (r : Refusal). IsRefusedFor words r) (sym is) why
