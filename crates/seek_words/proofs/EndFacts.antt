-- The statuses of words that ask for no search.
use Rattle.std.proofs.Common.{◌≡◌, ◌∙◌, Bor, ◌≤◌, List, ap, inl, inr, subst, sym, arith}
use Rattle.std.specs.Prelude.{Result, Ok, Err, IfErr}
use Rattle.std.specs.Result.{IsErrAnd}
use Rattle.clap.specs.Words.{App, Row, Text}
use Rattle.program_parts.specs.Matches as command
use Rattle.program_parts.specs.Refusal.{status_of as status_of_common}
use Rattle.program_parts.specs.declared.refusal.CommonRefusal.{CommonRefusal}
use Rattle.program_parts.specs.declared.refusal.CommonRefusal.TheVariants.{Memory}
use Rattle.program_parts.proofs.RefusalFacts as common
use Rattle.seek_words.specs.AsksFor.{AskForText, GiveValues}
use Rattle.seek_words.specs.Command.{IsSeek}
use Rattle.seek_words.specs.Conflict.{has_conflict}
use Rattle.seek_words.specs.Refusal.{IsRefusedFor, IsRefusedValue, status_of}
use Rattle.seek_words.specs.declared.refusal.Refusal.{Refusal}
use Rattle.seek_words.specs.declared.refusal.Refusal.TheVariants.{Common, NoSize, NoTime, NoColor, Slash}

-- words that are refused with 0 ask for help or for the version
pub asked_for_text : (words : List Text) (refusal : Refusal) → IsRefusedFor words refusal → status_of refusal ≡ 0 → AskForText words
asked_for_text words (Common refusal) (inl memory) zero = let one : 1 ≡ 0 = ap status_of_common (sym memory) ∙ zero in absurd (cc)
asked_for_text words (Common refusal) (inr (app, seek, refused)) zero = (app, seek, common.asked_for_text app has_conflict words refusal refused zero)
asked_for_text words (NoSize text) refused zero = absurd (cc)
asked_for_text words (NoTime text) refused zero = absurd (cc)
asked_for_text words (NoColor text) refused zero = absurd (cc)
asked_for_text words (Slash pattern) refused zero = absurd (cc)

pub refusal_most : (refusal : Refusal) → status_of refusal ≤ 2
refusal_most (Common refusal) = common.refusal_most refusal
refusal_most (NoSize text) = omega arith
refusal_most (NoTime text) = omega arith
refusal_most (NoColor text) = omega arith
refusal_most (Slash pattern) = omega arith

-- words are read by the command line
pub read_by : {app : App} {words : List Text} {rows : List Row} → IsSeek app → command.GiveValues app words rows → GiveValues words rows
read_by {app} seek gives = record { app = app; is_seek = seek; gives = gives }

-- words are refused if a value is
no_memory : (rows : List Row) (refusal : CommonRefusal) → IsRefusedValue rows (Common refusal) → refusal ≡ Memory
no_memory rows refusal (inl why) = why
no_memory rows refusal (inr (inl why)) = absurd why
no_memory rows refusal (inr (inr (inl why))) = absurd why
no_memory rows refusal (inr (inr (inr why))) = absurd why

no_slash : (rows : List Row) (pattern : Bor Text) → IsRefusedValue rows (Slash pattern) → ⊥
no_slash rows pattern (inl why) = why
no_slash rows pattern (inr (inl why)) = why
no_slash rows pattern (inr (inr (inl why))) = why
no_slash rows pattern (inr (inr (inr why))) = why

pub value_refused : (words : List Text) (rows : List Row) → GiveValues words rows → (refusal : Refusal) → IsRefusedValue rows refusal → IsRefusedFor words refusal
value_refused words rows read (Common refusal) why = inl (no_memory rows refusal why)
value_refused words rows read (NoSize text) why = (read.app, read.is_seek, subst (λ (it : List Row). IsRefusedValue it (NoSize text)) read.gives.values why)
value_refused words rows read (NoTime text) why = (read.app, read.is_seek, subst (λ (it : List Row). IsRefusedValue it (NoTime text)) read.gives.values why)
value_refused words rows read (NoColor text) why = (read.app, read.is_seek, subst (λ (it : List Row). IsRefusedValue it (NoColor text)) read.gives.values why)
value_refused words rows read (Slash pattern) why = absurd (no_slash rows pattern why)

-- the returned refusal is the reason why words are refused
pub returned_for : {X : Type 0} (words : List Text) (result : Result X Refusal) (refusal : Refusal) → IsErrAnd result (λ it. it ≡ refusal) → IsRefusedFor words refusal → IfErr result (IsRefusedFor words)
returned_for words (Ok x) refusal is why = tt
returned_for words (Err it) refusal is why = subst (λ (r : Refusal). IsRefusedFor words r) (sym is) why
