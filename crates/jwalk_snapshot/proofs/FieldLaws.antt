-- What is read of a value's text is that value, and a value that was read has the text that it was read from.
use Rattle.std.proofs.Common.{◌≡◌, ℕ, zero, suc, ◌+◌, ◌^◌, ◌<◌, ◌≤◌, Bool, true, false, cond, eqb, ltb, not, ◌&&◌, List, [], ◌∷◌, ◌++◌, length, get_or, Option, Some, None, ℤ, pos, negsuc, refl, sym, ap, subst, ◌∙◌, append_assoc, arith, decimal}
use Rattle.std.specs.Prelude.{IfSome, is_some, FitsSigned}
use Rattle.std.specs.List.{list_all, flat_map, AllByRecursion}
use Rattle.std.specs.Int.{w64}
use Rattle.std.specs.Fmt.{signed_decimal}
use Rattle.std.proofs.lemmas.Bool.{eqb-true, lt-ltb, ltb-true, and_parts}
use Rattle.std.proofs.lemmas.Option.{cond_some, same_Some}
use Rattle.std.proofs.lemmas.Str.Parse.{digit_at}
use Rattle.std.proofs.lemmas.Fmt.{digits_decimal}
use Rattle.jwalk_model.specs.declared.file_type.FileType.{FileType}
use Rattle.jwalk_model.specs.declared.file_type.FileType.TheVariants.{Dir, File, Symlink, Other}
use Rattle.jwalk_model.specs.declared.metadata.Moment.{Moment}
use Rattle.jwalk_snapshot.specs.declared.name.Facts.{Facts}
use Rattle.jwalk_snapshot.specs.declared.block.Stamp.{Stamp}
use Rattle.jwalk_snapshot.specs.declared.block.Listing.{Listing}
use Rattle.jwalk_snapshot.specs.declared.block.Listing.TheVariants.{Stamped, Unstamped, Unread}
use Rattle.jwalk_snapshot.specs.Text.{Entry, number_text, signed_text, ended, moment_text, letter, facts_text, any_facts_text, entry_text, stamp_text, listing_text, is_text, is_entry, MomentFits, FactsFit, StampFits, EntryFits, ListingFits}
use Rattle.jwalk_snapshot.specs.Reading.{◌>>=◌, field_at, number_in, signed_in, number_at, signed_at, moment_at, kind_of, kind_in, facts_at, any_facts_at, entry_at, stamp_at, listing_of, listing_at, list_at}
use Rattle.jwalk_snapshot.proofs.NumberFacts.{own, bind_some, Lacks, Lacks-from, field_takes, field_again, number_takes, number_again, signed_takes, signed_again}

-- what is read has the text that it was read from, and what has a text is read of it
pub record Reads {A : Type 0} (read : List ℕ → Option (A × List ℕ)) (text : A → List ℕ) (has : A → Bool) (Fits : A → Type 0) : Type 0 where
  pub takes : (bytes : List ℕ) (x : A) (rest : List ℕ) → read bytes ≡ Some (x, rest) → (bytes ≡ text x ++ rest) × Fits x
  pub again : (x : A) (rest : List ℕ) → has x ≡ true → Fits x → read (text x ++ rest) ≡ Some (x, rest)

abbrev pub always : {A : Type 0} → A → Bool
always x = true

-- one text behind another
pub joined : (a x b y c : List ℕ) → a ≡ x ++ b → b ≡ y ++ c → a ≡ (x ++ y) ++ c
joined a x b y c p q = p ∙ ap (λ (t : List ℕ). x ++ t) q ∙ sym (append_assoc x y c)

-- ---- texts that a NUL ends

pub text_reads : Reads (field_at 0) ended is_text (λ x. Unit {0})
text_reads = record {
  takes = λ bytes x rest e. ((field_takes 0 bytes x rest e).0 ∙ sym (append_assoc x (0 ∷ []) rest), tt);
  again = λ x rest h fits. ap (field_at 0) (append_assoc x (0 ∷ []) rest) ∙ field_again 0 x rest h;
}

-- ---- numbers

no_space : (n : ℕ) → n < 2 ^ 64 → Lacks 32 (decimal n)
no_space n lt = Lacks-from 32 (decimal n) (λ i l e. let d = digit_at (decimal n) i (digits_decimal own n lt) l in absurd (omega (arith, d.0, d.1, e)))

number_parts : (bytes : List ℕ) (x : ℕ) (rest : List ℕ) → number_at bytes ≡ Some (x, rest) → (bytes ≡ number_text x ++ rest) × (x < 2 ^ 64)
unfolding number_at
number_parts bytes x rest e =
    let a = bind_some (field_at 32 bytes) (λ word. number_in word.0 >>= λ n. Some (n, word.1)) (x, rest) e in
    let b = bind_some (number_in a.0.0) (λ n. Some (n, a.0.1)) (x, rest) a.2 in
    let f = field_takes 32 bytes a.0.0 a.0.1 a.1 in
    let n = number_takes a.0.0 b.0 b.1 in
    let whole : bytes ≡ number_text b.0 ++ a.0.1 = f.0 ∙ ap (λ (w : List ℕ). w ++ 32 ∷ a.0.1) n.0 ∙ sym (append_assoc (decimal b.0) (32 ∷ []) a.0.1) in
    subst (λ (p : ℕ × List ℕ). (bytes ≡ number_text p.0 ++ p.1) × (p.0 < 2 ^ 64)) (same_Some (b.0, a.0.1) (x, rest) b.2) (whole, n.1)

number_back : (x : ℕ) (rest : List ℕ) → x < 2 ^ 64 → number_at (number_text x ++ rest) ≡ Some (x, rest)
unfolding number_at
number_back x rest lt = ap number_at (append_assoc (decimal x) (32 ∷ []) rest) ∙ rw (field_again 32 (decimal x) rest (no_space x lt), number_again x lt) refl

pub number_reads : Reads number_at number_text always (λ n. n < 2 ^ 64)
number_reads = record { takes = number_parts; again = λ x rest h lt. number_back x rest lt }

no_space_signed : (z : ℤ) → FitsSigned w64 z → Lacks 32 (signed_decimal z)
no_space_signed (pos n) fits = no_space n (omega (arith, fits.sfits))
no_space_signed (negsuc n) fits = no_space (suc n) (omega (arith, fits.sfits))

signed_parts : (bytes : List ℕ) (x : ℤ) (rest : List ℕ) → signed_at bytes ≡ Some (x, rest) → (bytes ≡ signed_text x ++ rest) × FitsSigned w64 x
unfolding signed_at
signed_parts bytes x rest e =
    let a = bind_some (field_at 32 bytes) (λ word. signed_in word.0 >>= λ z. Some (z, word.1)) (x, rest) e in
    let b = bind_some (signed_in a.0.0) (λ z. Some (z, a.0.1)) (x, rest) a.2 in
    let f = field_takes 32 bytes a.0.0 a.0.1 a.1 in
    let n = signed_takes a.0.0 b.0 b.1 in
    let whole : bytes ≡ signed_text b.0 ++ a.0.1 = f.0 ∙ ap (λ (w : List ℕ). w ++ 32 ∷ a.0.1) n.0 ∙ sym (append_assoc (signed_decimal b.0) (32 ∷ []) a.0.1) in
    subst (λ (p : ℤ × List ℕ). (bytes ≡ signed_text p.0 ++ p.1) × FitsSigned w64 p.0) (same_Some (b.0, a.0.1) (x, rest) b.2) (whole, record { sfits = n.1 })

signed_back : (x : ℤ) (rest : List ℕ) → FitsSigned w64 x → signed_at (signed_text x ++ rest) ≡ Some (x, rest)
unfolding signed_at
signed_back x rest fits = ap signed_at (append_assoc (signed_decimal x) (32 ∷ []) rest) ∙ rw (field_again 32 (signed_decimal x) rest (no_space_signed x fits), signed_again x fits.sfits) refl

abbrev moment : ℤ → ℕ → Moment
moment s n = record { seconds = s; nanoseconds = n }

moment_parts : (bytes : List ℕ) (x : Moment) (rest : List ℕ) → moment_at bytes ≡ Some (x, rest) → (bytes ≡ moment_text x ++ rest) × MomentFits x
unfolding moment_at
moment_parts bytes x rest e =
    let a = bind_some (signed_at bytes) (λ s. number_at s.1 >>= λ n. cond (ltb n.0 (2 ^ 32)) (Some (moment s.0 n.0, n.1)) None) (x, rest) e in
    let b = bind_some (number_at a.0.1) (λ n. cond (ltb n.0 (2 ^ 32)) (Some (moment a.0.0 n.0, n.1)) None) (x, rest) a.2 in
    let g = cond_some (ltb b.0.0 (2 ^ 32)) (moment a.0.0 b.0.0, b.0.1) (x, rest) b.2 in
    let s = signed_parts bytes a.0.0 a.0.1 a.1 in
    let n = number_parts a.0.1 b.0.0 b.0.1 b.1 in
    let whole = joined bytes (signed_text a.0.0) a.0.1 (number_text b.0.0) b.0.1 s.0 n.0 in
    subst (λ (p : Moment × List ℕ). (bytes ≡ moment_text p.0 ++ p.1) × MomentFits p.0) g.1 (whole, record { seconds = s.1; nanoseconds = ltb-true b.0.0 (2 ^ 32) g.0 })

moment_back : (x : Moment) (rest : List ℕ) → MomentFits x → moment_at (moment_text x ++ rest) ≡ Some (x, rest)
unfolding moment_at
moment_back x rest fits =
    ap moment_at (append_assoc (signed_text x.seconds) (number_text x.nanoseconds) rest)
    ∙ rw (signed_back x.seconds (number_text x.nanoseconds ++ rest) fits.seconds, number_back x.nanoseconds rest (omega (arith, fits.nanoseconds)), lt-ltb x.nanoseconds (2 ^ 32) fits.nanoseconds) refl

-- ---- facts and stamps

abbrev facts : ℕ → Moment → ℕ → Facts
facts l m i = record { len = l; modified = m; inode = i }

facts_parts : (bytes : List ℕ) (x : Facts) (rest : List ℕ) → facts_at bytes ≡ Some (x, rest) → (bytes ≡ facts_text x ++ rest) × FactsFit x
unfolding facts_at
facts_parts bytes x rest e =
    let a = bind_some (number_at bytes) (λ l. moment_at l.1 >>= λ m. number_at m.1 >>= λ i. Some (facts l.0 m.0 i.0, i.1)) (x, rest) e in
    let b = bind_some (moment_at a.0.1) (λ m. number_at m.1 >>= λ i. Some (facts a.0.0 m.0 i.0, i.1)) (x, rest) a.2 in
    let c = bind_some (number_at b.0.1) (λ i. Some (facts a.0.0 b.0.0 i.0, i.1)) (x, rest) b.2 in
    let l = number_parts bytes a.0.0 a.0.1 a.1 in
    let m = moment_parts a.0.1 b.0.0 b.0.1 b.1 in
    let i = number_parts b.0.1 c.0.0 c.0.1 c.1 in
    let two = joined bytes (number_text a.0.0) a.0.1 (moment_text b.0.0) b.0.1 l.0 m.0 in
    let whole = joined bytes (number_text a.0.0 ++ moment_text b.0.0) b.0.1 (number_text c.0.0) c.0.1 two i.0 in
    subst (λ (p : Facts × List ℕ). (bytes ≡ facts_text p.0 ++ p.1) × FactsFit p.0) (same_Some (facts a.0.0 b.0.0 c.0.0, c.0.1) (x, rest) c.2) (whole, record { len = l.1; modified = m.1; inode = i.1 })

facts_back : (x : Facts) (rest : List ℕ) → FactsFit x → facts_at (facts_text x ++ rest) ≡ Some (x, rest)
unfolding facts_at
facts_back x rest fits =
    ap facts_at (append_assoc (number_text x.len ++ moment_text x.modified) (number_text x.inode) rest ∙ append_assoc (number_text x.len) (moment_text x.modified) (number_text x.inode ++ rest))
    ∙ rw (number_back x.len (moment_text x.modified ++ (number_text x.inode ++ rest)) fits.len, moment_back x.modified (number_text x.inode ++ rest) fits.modified, number_back x.inode rest fits.inode) refl

abbrev stamp : ℕ → ℕ → Moment → Stamp
stamp d i m = record { identity = record { device = d; inode = i }; changed = m }

stamp_parts : (bytes : List ℕ) (x : Stamp) (rest : List ℕ) → stamp_at bytes ≡ Some (x, rest) → (bytes ≡ stamp_text x ++ rest) × StampFits x
unfolding stamp_at
stamp_parts bytes x rest e =
    let a = bind_some (number_at bytes) (λ d. number_at d.1 >>= λ i. moment_at i.1 >>= λ m. Some (stamp d.0 i.0 m.0, m.1)) (x, rest) e in
    let b = bind_some (number_at a.0.1) (λ i. moment_at i.1 >>= λ m. Some (stamp a.0.0 i.0 m.0, m.1)) (x, rest) a.2 in
    let c = bind_some (moment_at b.0.1) (λ m. Some (stamp a.0.0 b.0.0 m.0, m.1)) (x, rest) b.2 in
    let d = number_parts bytes a.0.0 a.0.1 a.1 in
    let i = number_parts a.0.1 b.0.0 b.0.1 b.1 in
    let m = moment_parts b.0.1 c.0.0 c.0.1 c.1 in
    let two = joined bytes (number_text a.0.0) a.0.1 (number_text b.0.0) b.0.1 d.0 i.0 in
    let whole = joined bytes (number_text a.0.0 ++ number_text b.0.0) b.0.1 (moment_text c.0.0) c.0.1 two m.0 in
    subst (λ (p : Stamp × List ℕ). (bytes ≡ stamp_text p.0 ++ p.1) × StampFits p.0) (same_Some (stamp a.0.0 b.0.0 c.0.0, c.0.1) (x, rest) c.2) (whole, record { device = d.1; inode = i.1; changed = m.1 })

stamp_back : (x : Stamp) (rest : List ℕ) → StampFits x → stamp_at (stamp_text x ++ rest) ≡ Some (x, rest)
unfolding stamp_at
stamp_back x rest fits =
    ap stamp_at (append_assoc (number_text x.identity.device ++ number_text x.identity.inode) (moment_text x.changed) rest ∙ append_assoc (number_text x.identity.device) (number_text x.identity.inode) (moment_text x.changed ++ rest))
    ∙ rw (number_back x.identity.device (number_text x.identity.inode ++ (moment_text x.changed ++ rest)) fits.device, number_back x.identity.inode (moment_text x.changed ++ rest) fits.inode, moment_back x.changed rest fits.changed) refl

-- ---- names

is_letter : (c n : ℕ) (k : FileType × Bool) (others : Option (FileType × Bool)) (found : FileType × Bool) → n ≡ letter k.0 k.1 → (others ≡ Some found → c ≡ letter found.0 found.1) → cond (eqb c n) (Some k) others ≡ Some found → c ≡ letter found.0 found.1
is_letter c n k others found is later e =
    elim (eqb c n) as (λ t. eqb c n ≡ t → cond t (Some k) others ≡ Some found → c ≡ letter found.0 found.1) [
      | true ↦ λ p q. subst (λ (f : FileType × Bool). c ≡ letter f.0 f.1) (same_Some k found q) (eqb-true c n p ∙ is)
      | false ↦ λ p q. later q
    ] refl e

no_kind : Option (FileType × Bool)
no_kind = None

kind_parts : (c : ℕ) (k : FileType × Bool) → kind_of c ≡ Some k → c ≡ letter k.0 k.1
unfolding kind_of
kind_parts c k e =
    is_letter c 102 (File, true) _ k refl (
    is_letter c 100 (Dir, true) _ k refl (
    is_letter c 108 (Symlink, true) _ k refl (
    is_letter c 111 (Other, true) _ k refl (
    is_letter c 70 (File, false) _ k refl (
    is_letter c 68 (Dir, false) _ k refl (
    is_letter c 76 (Symlink, false) _ k refl (
    is_letter c 79 (Other, false) None k refl (λ q. absurd cc)))))))) e

kind_word : (word : List ℕ) (k : FileType × Bool) → kind_in word ≡ Some k → word ≡ letter k.0 k.1 ∷ []
kind_word [] k e = absurd cc
kind_word (c ∷ []) k e = ap (λ (n : ℕ). n ∷ []) (kind_parts c k e)
kind_word (c ∷ d ∷ ds) k e = absurd cc

kind_again : (type : FileType) (b : Bool) → kind_of (letter type b) ≡ Some (type, b)
unfolding kind_of
kind_again Dir true = refl
kind_again File true = refl
kind_again Symlink true = refl
kind_again Other true = refl
kind_again Dir false = refl
kind_again File false = refl
kind_again Symlink false = refl
kind_again Other false = refl

letter_word : (type : FileType) (b : Bool) → Lacks 32 (letter type b ∷ [])
letter_word Dir true = refl
letter_word File true = refl
letter_word Symlink true = refl
letter_word Other true = refl
letter_word Dir false = refl
letter_word File false = refl
letter_word Symlink false = refl
letter_word Other false = refl

any_facts_parts : (b : Bool) (bytes : List ℕ) (x : Option Facts) (rest : List ℕ) → any_facts_at b bytes ≡ Some (x, rest) → (bytes ≡ any_facts_text x ++ rest) × (is_some x ≡ b) × IfSome x FactsFit
unfolding any_facts_at
any_facts_parts false bytes x rest e =
    subst (λ (p : Option Facts × List ℕ). (bytes ≡ any_facts_text p.0 ++ p.1) × (is_some p.0 ≡ false) × IfSome p.0 FactsFit) (same_Some (None, bytes) (x, rest) e) (refl, refl, tt)
any_facts_parts true bytes x rest e =
    let a = bind_some (facts_at bytes) (λ f. Some (Some f.0, f.1)) (x, rest) e in
    let f = facts_parts bytes a.0.0 a.0.1 a.1 in
    subst (λ (p : Option Facts × List ℕ). (bytes ≡ any_facts_text p.0 ++ p.1) × (is_some p.0 ≡ true) × IfSome p.0 FactsFit) (same_Some (Some a.0.0, a.0.1) (x, rest) a.2) (f.0, refl, f.1)

any_facts_back : (x : Option Facts) (rest : List ℕ) → IfSome x FactsFit → any_facts_at (is_some x) (any_facts_text x ++ rest) ≡ Some (x, rest)
unfolding any_facts_at
any_facts_back None rest fits = refl
any_facts_back (Some f) rest fits = rw (facts_back f rest fits) refl

abbrev named : List ℕ → FileType → Option Facts → Entry
named n t f = record { name = n; file_type = t; facts = f }

entry_parts : (bytes : List ℕ) (x : Entry) (rest : List ℕ) → entry_at bytes ≡ Some (x, rest) → (bytes ≡ entry_text x ++ rest) × EntryFits x
unfolding entry_at
entry_parts bytes x rest e =
    let a = bind_some (field_at 32 bytes) (λ w. kind_in w.0 >>= λ k. any_facts_at k.1 w.1 >>= λ f. field_at 0 f.1 >>= λ n. Some (named n.0 k.0 f.0, n.1)) (x, rest) e in
    let b = bind_some (kind_in a.0.0) (λ k. any_facts_at k.1 a.0.1 >>= λ f. field_at 0 f.1 >>= λ n. Some (named n.0 k.0 f.0, n.1)) (x, rest) a.2 in
    let c = bind_some (any_facts_at b.0.1 a.0.1) (λ f. field_at 0 f.1 >>= λ n. Some (named n.0 b.0.0 f.0, n.1)) (x, rest) b.2 in
    let d = bind_some (field_at 0 c.0.1) (λ n. Some (named n.0 b.0.0 c.0.0, n.1)) (x, rest) c.2 in
    let w = field_takes 32 bytes a.0.0 a.0.1 a.1 in
    let k = kind_word a.0.0 b.0 b.1 in
    let f = any_facts_parts b.0.1 a.0.1 c.0.0 c.0.1 c.1 in
    let n = text_reads.takes c.0.1 d.0.0 d.0.1 d.1 in
    let tail = joined a.0.1 (any_facts_text c.0.0) c.0.1 (ended d.0.0) d.0.1 f.0 n.0 in
    let whole : bytes ≡ entry_text (named d.0.0 b.0.0 c.0.0) ++ d.0.1 =
    w.0 ∙ ap (λ (v : List ℕ). v ++ 32 ∷ a.0.1) k ∙ ap (λ (t : Bool). letter b.0.0 t ∷ 32 ∷ a.0.1) (sym f.1) ∙ ap (λ (t : List ℕ). letter b.0.0 (is_some c.0.0) ∷ 32 ∷ t) tail in
    subst (λ (p : Entry × List ℕ). (bytes ≡ entry_text p.0 ++ p.1) × EntryFits p.0) (same_Some (named d.0.0 b.0.0 c.0.0, d.0.1) (x, rest) d.2) (whole, f.2)

entry_back : (x : Entry) (rest : List ℕ) → is_entry x ≡ true → EntryFits x → entry_at (entry_text x ++ rest) ≡ Some (x, rest)
unfolding entry_at
entry_back x rest h fits =
    let text = (and_parts (is_text x.name) _ h).0 in
    let tail = any_facts_text x.facts ++ (ended x.name ++ rest) in
    let regrouped : entry_text x ++ rest ≡ (letter x.file_type (is_some x.facts) ∷ []) ++ 32 ∷ tail =
    ap (λ (t : List ℕ). letter x.file_type (is_some x.facts) ∷ 32 ∷ t) (append_assoc (any_facts_text x.facts) (ended x.name) rest) in
    ap entry_at regrouped
    ∙ rw (field_again 32 (letter x.file_type (is_some x.facts) ∷ []) tail (letter_word x.file_type (is_some x.facts)), kind_again x.file_type (is_some x.facts), any_facts_back x.facts (ended x.name ++ rest) fits, text_reads.again x.name rest text tt) refl

pub entry_reads : Reads entry_at entry_text is_entry EntryFits
entry_reads = record { takes = entry_parts; again = entry_back }

-- ---- how a directory was listed

listing_found : (c n : ℕ) (now others : Option (Listing × List ℕ)) (rest : List ℕ) (x : Listing × List ℕ)
    → (now ≡ Some x → (n ∷ 32 ∷ rest ≡ listing_text x.0 ++ x.1) × ListingFits x.0)
    → (others ≡ Some x → (c ∷ 32 ∷ rest ≡ listing_text x.0 ++ x.1) × ListingFits x.0)
    → cond (eqb c n) now others ≡ Some x → (c ∷ 32 ∷ rest ≡ listing_text x.0 ++ x.1) × ListingFits x.0
listing_found c n now others rest x this later e =
    elim (eqb c n) as (λ t. eqb c n ≡ t → cond t now others ≡ Some x → (c ∷ 32 ∷ rest ≡ listing_text x.0 ++ x.1) × ListingFits x.0) [
      | true ↦ λ p q. let found = this q in (ap (λ (k : ℕ). k ∷ 32 ∷ rest) (eqb-true c n p) ∙ found.0, found.1)
      | false ↦ λ p q. later q
    ] refl e

listing_word : (word rest : List ℕ) (x : Listing × List ℕ) → listing_of word rest ≡ Some x → (word ++ 32 ∷ rest ≡ listing_text x.0 ++ x.1) × ListingFits x.0
unfolding listing_of
listing_word [] rest x e = absurd cc
listing_word (c ∷ []) rest x e =
    listing_found c 83 _ _ rest x
    (λ q.
    let a = bind_some (stamp_at rest) (λ s. Some (Stamped s.0, s.1)) x q in
    let s = stamp_parts rest a.0.0 a.0.1 a.1 in
    subst (λ (p : Listing × List ℕ). (83 ∷ 32 ∷ rest ≡ listing_text p.0 ++ p.1) × ListingFits p.0) (same_Some (Stamped a.0.0, a.0.1) x a.2) (ap (λ (t : List ℕ). 83 ∷ 32 ∷ t) s.0, s.1))
    (listing_found c 82 _ _ rest x
    (λ q. subst (λ (p : Listing × List ℕ). (82 ∷ 32 ∷ rest ≡ listing_text p.0 ++ p.1) × ListingFits p.0) (same_Some (Unstamped, rest) x q) (refl, tt))
    (listing_found c 85 _ None rest x
    (λ q. subst (λ (p : Listing × List ℕ). (85 ∷ 32 ∷ rest ≡ listing_text p.0 ++ p.1) × ListingFits p.0) (same_Some (Unread, rest) x q) (refl, tt))
    (λ q. absurd cc)))
    e
listing_word (c ∷ d ∷ ds) rest x e = absurd cc

listing_parts : (bytes : List ℕ) (x : Listing) (rest : List ℕ) → listing_at bytes ≡ Some (x, rest) → (bytes ≡ listing_text x ++ rest) × ListingFits x
unfolding listing_at
listing_parts bytes x rest e =
    let a = bind_some (field_at 32 bytes) (λ w. listing_of w.0 w.1) (x, rest) e in
    let w = field_takes 32 bytes a.0.0 a.0.1 a.1 in
    let l = listing_word a.0.0 a.0.1 (x, rest) a.2 in
    (w.0 ∙ l.0, l.1)

listing_back : (x : Listing) (rest : List ℕ) → ListingFits x → listing_at (listing_text x ++ rest) ≡ Some (x, rest)
unfolding listing_at listing_of field_at
listing_back (Stamped s) rest fits = rw (stamp_back s rest fits) refl
listing_back Unstamped rest fits = refl
listing_back Unread rest fits = refl

pub listing_reads : Reads listing_at listing_text always ListingFits
listing_reads = record { takes = listing_parts; again = λ x rest h fits. listing_back x rest fits }

-- ---- lists

module _ {A : Type 0} (read : List ℕ → Option (A × List ℕ)) (text : A → List ℕ) (has : A → Bool) (Fits : A → Type 0) (law : Reads read text has Fits) where
  pub list_parts : (n : ℕ) (bytes : List ℕ) (xs : List A) (rest : List ℕ) → list_at read n bytes ≡ Some (xs, rest) → (bytes ≡ flat_map text xs ++ rest) × (length xs ≡ n) × AllByRecursion Fits xs
  unfolding list_at
  list_parts zero bytes xs rest e =
      subst (λ (p : List A × List ℕ). (bytes ≡ flat_map text p.0 ++ p.1) × (length p.0 ≡ 0) × AllByRecursion Fits p.0) (same_Some ([], bytes) (xs, rest) e) (refl, refl, tt)
  list_parts (suc n) bytes xs rest e =
      let a = bind_some (read bytes) (λ first. list_at read n first.1 >>= λ others. Some (first.0 ∷ others.0, others.1)) (xs, rest) e in
      let b = bind_some (list_at read n a.0.1) (λ others. Some (a.0.0 ∷ others.0, others.1)) (xs, rest) a.2 in
      let first = law.takes bytes a.0.0 a.0.1 a.1 in
      let others = list_parts n a.0.1 b.0.0 b.0.1 b.1 in
      let both = joined bytes (text a.0.0) a.0.1 (flat_map text b.0.0) b.0.1 first.0 others.0 in
      subst (λ (p : List A × List ℕ). (bytes ≡ flat_map text p.0 ++ p.1) × (length p.0 ≡ suc n) × AllByRecursion Fits p.0) (same_Some (a.0.0 ∷ b.0.0, b.0.1) (xs, rest) b.2) (both, ap suc others.1, (first.1, others.2))

  pub list_back : (xs : List A) (rest : List ℕ) → list_all has xs ≡ true → AllByRecursion Fits xs → list_at read (length xs) (flat_map text xs ++ rest) ≡ Some (xs, rest)
  unfolding list_at
  list_back [] rest h fits = refl
  list_back (x ∷ xs) rest h fits =
      let both = and_parts (has x) (list_all has xs) h in
      let regrouped : flat_map text (x ∷ xs) ++ rest ≡ text x ++ (flat_map text xs ++ rest) = append_assoc (text x) (flat_map text xs) rest in
      ap (list_at read (suc (length xs))) regrouped ∙ rw (law.again x (flat_map text xs ++ rest) both.0 fits.0, list_back xs rest both.1 fits.1) refl
