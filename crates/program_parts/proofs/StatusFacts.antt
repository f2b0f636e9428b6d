-- The statuses of words that are refused, or ask for a text.
use Rattle.std.proofs.Common.{◌≡◌, ◌<◌, ◌≤◌, ◌⊎◌, ℕ, zero, suc, inl, inr, refl, subst, sym, ap, ◌∙◌, arith}
use Rattle.clap.specs.Words.{IsAmong, Kinds}
use Rattle.clap.specs.declared.error.kind.ErrorKind.{ErrorKind}
use Rattle.clap.specs.declared.error.kind.ErrorKind.TheVariants.{InvalidValue, UnknownArgument, InvalidSubcommand, NoEquals, ValueValidation, TooManyValues, TooFewValues, WrongNumberOfValues, ArgumentConflict, MissingRequiredArgument, MissingSubcommand, DisplayHelp, DisplayHelpOnMissingArgumentOrSubcommand, DisplayVersion, Io, Format, OutOfMemory}
use Rattle.program_parts.specs.Status.{status_of_kind}

-- only help and version end with 0
zero_kind : (k : ErrorKind) → status_of_kind k ≡ 0 → (k ≡ DisplayHelp) ⊎ (k ≡ DisplayVersion)
zero_kind InvalidValue is = absurd (cc)
zero_kind UnknownArgument is = absurd (cc)
zero_kind InvalidSubcommand is = absurd (cc)
zero_kind NoEquals is = absurd (cc)
zero_kind ValueValidation is = absurd (cc)
zero_kind TooManyValues is = absurd (cc)
zero_kind TooFewValues is = absurd (cc)
zero_kind WrongNumberOfValues is = absurd (cc)
zero_kind ArgumentConflict is = absurd (cc)
zero_kind MissingRequiredArgument is = absurd (cc)
zero_kind MissingSubcommand is = absurd (cc)
zero_kind DisplayHelp is = inl refl
zero_kind DisplayHelpOnMissingArgumentOrSubcommand is = absurd (cc)
zero_kind DisplayVersion is = inr refl
zero_kind Io is = absurd (cc)
zero_kind Format is = absurd (cc)
zero_kind OutOfMemory is = absurd (cc)

-- of the errors that words have, only help and version end with 0
pub text_among : (k : ErrorKind) (kinds : Kinds) → status_of_kind k ≡ 0 → (k ≡ OutOfMemory) ⊎ IsAmong k kinds → IsAmong DisplayHelp kinds ⊎ IsAmong DisplayVersion kinds
text_among k kinds none (inl memory) = let one : 1 ≡ 0 = ap status_of_kind (sym memory) ∙ none in absurd (cc)
text_among k kinds none (inr among) =
    elim (zero_kind k none) [
      | inl help ↦ inl (subst (λ (x : ErrorKind). IsAmong x kinds) help among)
      | inr version ↦ inr (subst (λ (x : ErrorKind). IsAmong x kinds) version among)
    ]

pub kind_most : (k : ErrorKind) → status_of_kind k ≤ 2
kind_most InvalidValue = omega arith
kind_most UnknownArgument = omega arith
kind_most InvalidSubcommand = omega arith
kind_most NoEquals = omega arith
kind_most ValueValidation = omega arith
kind_most TooManyValues = omega arith
kind_most TooFewValues = omega arith
kind_most WrongNumberOfValues = omega arith
kind_most ArgumentConflict = omega arith
kind_most MissingRequiredArgument = omega arith
kind_most MissingSubcommand = omega arith
kind_most DisplayHelp = omega arith
kind_most DisplayHelpOnMissingArgumentOrSubcommand = omega arith
kind_most DisplayVersion = omega arith
kind_most Io = omega arith
kind_most Format = omega arith
kind_most OutOfMemory = omega arith

-- a refusal that ends with 0 has the status 0
pub told_zero : (n status : ℕ) → (0 < n → status ≡ n) → status ≡ 0 → n ≡ 0
told_zero zero status told is = refl
told_zero (suc n) status told is = absurd (omega (arith, is, told (omega arith)))
