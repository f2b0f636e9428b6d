-- The sum at the end, and what is read of a whole text.
use Rattle.std.proofs.Common.{◌≡◌, ℕ, ◌+◌, ◌-◌, true, false, List, [], ◌∷◌, ◌++◌, length, take, drop, Option, Some, None, Result, Ok, Err, refl, sym, ap, subst, ◌∙◌, arith, ◌⊎◌, inl, inr}
use Rattle.std.specs.Prelude.{nat_eq, IfOk}
use Rattle.std.specs.List.{starts_with}
use Rattle.std.specs.Str.{IsUtf8, bytes_eq}
use Rattle.std.proofs.lemmas.Slice.Eq.{bytes_eq-Decides}
use Rattle.std.proofs.lemmas.List.{take_at, drop_at, length-append}
use Rattle.std.proofs.lemmas.Bool.{false≢true}
use Rattle.std.proofs.lemmas.Option.{same_Some, none-some}
use Rattle.hex.specs.Hex.{encode_lower, lower_digits}
use Rattle.hex.proofs.HexLemmas.{length-encode_with}
use Rattle.sha2.specs.Sha256.{sha256}
use Rattle.sha2.proofs.Facts256.{length-sha256}
use Rattle.jwalk_snapshot.specs.declared.error.SnapshotError.{SnapshotError}
use Rattle.jwalk_snapshot.specs.declared.error.SnapshotError.TheVariants.{Memory, NoSnapshot, OtherVersion, Damaged, NoText}
use Rattle.jwalk_snapshot.specs.declared.snapshot.Snapshot.{Snapshot}
use Rattle.jwalk_snapshot.specs.Text.{Content, content_of, body_text, sum_text, text_of, mark, IsSnapshot}
use Rattle.jwalk_snapshot.specs.Reading.{Fails, Gives, body_at}
use Rattle.jwalk_snapshot.proofs.FolderLaws.{body_parts, body_back}

-- ---- the sum

length_sum : (text : List ℕ) → length (sum_text text) ≡ 65
length_sum text = omega (arith, length-append (encode_lower (sha256 text)) (0 ∷ []), length-encode_with lower_digits (sha256 text), length-sha256 text)

-- a text in front of its sum is all but the last 65 bytes
pub cut : (bytes text : List ℕ) → bytes ≡ text ++ sum_text text → (take (length bytes - 65) bytes ≡ text) × (drop (length bytes - 65) bytes ≡ sum_text text)
cut bytes text e =
    let long : length text ≡ length bytes - 65 = omega (arith, ap length e, length-append text (sum_text text), length_sum text) in
    (ap (take (length bytes - 65)) e ∙ take_at text (sum_text text) (length bytes - 65) long, ap (drop (length bytes - 65)) e ∙ drop_at text (sum_text text) (length bytes - 65) long)

-- ---- the whole

-- an error that isn't the text's own is none of another value either
pub fails_any : {A B : Type 0} (e : SnapshotError) (x : A) (y : B) → Fails e (Some x) → Fails e (Some y)
fails_any Memory x y h = tt
fails_any NoSnapshot x y h = absurd h
fails_any OtherVersion x y h = absurd h
fails_any Damaged x y h = absurd (none-some x (sym h))
fails_any NoText x y h = absurd h

pub marked : (c : Content) → starts_with nat_eq (text_of c) mark ≡ true
marked c = refl

pub is_found : (bytes body : List ℕ) (r : Result Snapshot SnapshotError) → IsUtf8 body → bytes ≡ body ++ sum_text body → Gives content_of r (body_at body) → IfOk r (λ s. IsSnapshot (content_of s) × (bytes ≡ text_of (content_of s)))
is_found bytes body (Ok s) utf8 e given =
    let p = body_parts body (content_of s) given in
    (record { is = p.1; fits = p.2; utf8 = subst IsUtf8 p.0 utf8 }, e ∙ ap (λ (t : List ℕ). t ++ sum_text t) p.0)
is_found bytes body (Err error) utf8 e given = tt

pub is_read : (body : List ℕ) (r : Result Snapshot SnapshotError) (c : Content) → IsSnapshot c → Some (body_text c) ≡ Some body → Gives content_of r (body_at body) → Gives content_of r (Some c)
is_read body r c whole same given =
    subst (λ (o : Option Content). Gives content_of r o) (ap body_at (sym (same_Some (body_text c) body same)) ∙ body_back c whole.is whole.fits) given

pub no_other_fault : (r : Result Snapshot SnapshotError) (o : Option Content) (e : SnapshotError) → Gives content_of r o → r ≡ Err e → Fails e o
no_other_fault r o e given is = subst (λ (q : Result Snapshot SnapshotError). Gives content_of q o) is given

pub other_error : (r : Result Snapshot SnapshotError) (y e : SnapshotError) → r ≡ Err y → y ≡ e → ((e ≡ Memory) ⊎ (e ≡ Damaged)) → (r ≡ Err NoSnapshot → ⊥) × (r ≡ Err OtherVersion → ⊥)
other_error r y e p q either = elim either [ inl m ↦ (λ is. cc, λ is. cc) | inr d ↦ (λ is. cc, λ is. cc) ]

-- the other sum of a text is none
pub not_its_sum : (bytes body sum text : List ℕ) → body ≡ take (length bytes - 65) bytes → sum ≡ drop (length bytes - 65) bytes → bytes_eq (sum_text body) sum ≡ false → bytes ≡ text ++ sum_text text → ⊥
not_its_sum bytes body sum text front back other e =
    let p = cut bytes text e in
    let same : sum_text body ≡ sum = ap sum_text (front ∙ p.0) ∙ sym (back ∙ p.1) in
    false≢true (sym other ∙ (bytes_eq-Decides (sum_text body) sum).1 same)

pub its_text : (bytes body text : List ℕ) → body ≡ take (length bytes - 65) bytes → bytes ≡ text ++ sum_text text → body ≡ text
its_text bytes body text front e = front ∙ (cut bytes text e).0
