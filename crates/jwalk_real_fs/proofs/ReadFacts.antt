-- Names that are read in pieces.
use Rattle.std.proofs.Common.{◌≡◌, ◌<◌, ◌++◌, ◌==◌, inl, inr, if◌then◌else◌, ℕ, Bool, true, false, not, List, [], ◌∷◌, Option, None, Some, OnOk, Result, Ok, Err, map, flat_map, take, length, ap, sym, ◌∙◌, append-nil, refl, eqb-true}
use Rattle.std.proofs.lemmas.List.{map-append, append_assoc}
use Rattle.std.proofs.lemmas.List.Concat.{flat_map-append}
use Rattle.std.specs.Io.KnownBytes.{ReadConsumes}
use Rattle.std.specs.IoError.{error_kind}
use Rattle.std.specs.List.{concat}
use Rattle.std.specs.declared.io.Error.{Error}
use Rattle.std.specs.declared.io.ErrorKind.{ErrorKind}
use Rattle.jwalk_model.specs.FileSystem.{Listed}
use Rattle.jwalk_fs.specs.Views.{TakesAll}
use Rattle.jwalk_real_fs.specs.Texts.{children}
use Rattle.jwalk_real_fs.specs.Listing.{is_interrupted, name_in, told, AreNamed, AreReadOf, AreReadUpTo, IsRead, TakesEach}
use Rattle.jwalk_real_fs.proofs.ListingFacts.{each_on, one_each}

concat_on : (pieces : List (List ℕ)) (piece rest : List ℕ) → concat pieces ++ (piece ++ rest) ≡ concat (pieces ++ piece ∷ []) ++ rest
concat_on [] piece rest = ap (λ l. l ++ rest) (sym (append-nil piece))
concat_on (p ∷ pieces) piece rest =
    append_assoc p (concat pieces) (piece ++ rest)
    ∙ ap (λ l. p ++ l) (concat_on pieces piece rest)
    ∙ sym (append_assoc p (concat (pieces ++ piece ∷ [])) rest)

-- items of names and then of others
named_on : (names others : List (List ℕ)) (items more : List Listed) → AreNamed names items → AreNamed others more → AreNamed (names ++ others) (items ++ more)
named_on names others items more some rest =
    map-append name_in items more ∙ ap (λ l. l ++ map name_in more) some ∙ ap (λ l. map told names ++ l) rest ∙ sym (map-append told names others)

-- nothing is read yet
starts : (bytes : List ℕ) → AreReadUpTo bytes bytes []
starts bytes = record { pieces = []; parts = refl; named = refl }

-- one more piece is read
goes_on : (bytes left rest piece : List ℕ) (items more : List Listed) → AreReadUpTo bytes left items → left ≡ piece ++ rest → AreNamed (children piece) more → AreReadUpTo bytes rest (items ++ more)
goes_on bytes left rest piece items more so_far parts named =
    let joined : flat_map children (so_far.pieces ++ piece ∷ []) ≡ flat_map children so_far.pieces ++ children piece =
    flat_map-append children so_far.pieces (piece ∷ []) ∙ ap (λ l. flat_map children so_far.pieces ++ l) (append-nil (children piece)) in
    record {
      pieces = so_far.pieces ++ piece ∷ [];
      parts = so_far.parts ∙ ap (λ l. concat so_far.pieces ++ l) parts ∙ concat_on so_far.pieces piece rest;
      named = named_on (flat_map children so_far.pieces) (children piece) items more so_far.named named ∙ ap (map told) (sym joined);
    }

-- what was read so far of bytes that may be known, and what is left of them
abbrev pub SoFar : Option (List ℕ) → Option (List ℕ) → List Listed → Type 0
SoFar None left items = Unit {0}
SoFar (Some bytes) None items = ⊥
SoFar (Some bytes) (Some left) items = AreReadUpTo bytes left items

pub begins : (known : Option (List ℕ)) → SoFar known known []
begins None = tt
begins (Some bytes) = starts bytes

-- a read after which there may be more
pub reads_on : (known left new : Option (List ℕ)) (r : Result ℕ Error) (buffer : List ℕ) (items more : List Listed) (goes : Bool) → SoFar known left items → ReadConsumes left new r buffer → IsRead r buffer goes more → goes ≡ true → SoFar known new (items ++ more)
reads_on None left new r buffer items more goes so_far consumed read on = tt
reads_on (Some bytes) None new r buffer items more goes so_far consumed read on = absurd so_far
reads_on (Some bytes) (Some left) None (Ok n) buffer items more goes so_far consumed read on = absurd consumed.0
reads_on (Some bytes) (Some left) (Some rest) (Ok n) buffer items more goes so_far consumed read on =
    goes_on bytes left rest (take n buffer) items more so_far consumed.0 read.1
reads_on (Some bytes) (Some left) None (Err e) buffer items more goes so_far consumed read on = absurd consumed
reads_on (Some bytes) (Some left) (Some rest) (Err e) buffer items more goes so_far consumed read on =
    let none : more ≡ [] = read.1 ∙ ap (λ b. if b then [] else Err (error_kind e) ∷ []) (sym read.0 ∙ on) in
    rw (none, append-nil items, consumed) so_far

nothing_read : (n : ℕ) (b : Bool) → (n == 0) ≡ b → false ≡ not b → n ≡ 0
nothing_read n true e f = eqb-true n 0 e
nothing_read n false e f = absurd (let no : false ≡ true = f in cc)

-- a read that was interrupted
pub interrupted_read : (e : Error) (buffer : List ℕ) → is_interrupted (error_kind e) ≡ true → IsRead (Err e) buffer true []
interrupted_read e buffer is = (sym is, ap (λ b. if b then [] else Err (error_kind e) ∷ []) (sym is))

-- one that failed
pub failed_read : (e : Error) (buffer : List ℕ) → is_interrupted (error_kind e) ≡ false → IsRead (Err e) buffer false (Err (error_kind e) ∷ [])
failed_read e buffer is = (sym is, ap (λ b. if b then [] else Err (error_kind e) ∷ []) (sym is))

-- the last read
pub reads_last : (known left new : Option (List ℕ)) (r : Result ℕ Error) (buffer : List ℕ) (items more : List Listed) (goes : Bool) → 0 < length buffer → SoFar known left items → ReadConsumes left new r buffer → IsRead r buffer goes more → goes ≡ false → AreReadOf known (items ++ more)
reads_last None left new r buffer items more goes room so_far consumed read off = tt
reads_last (Some bytes) None new r buffer items more goes room so_far consumed read off = absurd so_far
reads_last (Some bytes) (Some left) None (Ok n) buffer items more goes room so_far consumed read off = absurd consumed.0
reads_last (Some bytes) (Some left) (Some rest) (Ok n) buffer items more goes room so_far consumed read off =
    let none : n ≡ 0 = nothing_read n (n == 0) refl (sym off ∙ read.0) in
    record {
      left = rest;
      read = items ++ more;
      front = goes_on bytes left rest (take n buffer) items more so_far consumed.0 read.1;
      end = inl (consumed.1 none room, refl);
    }
reads_last (Some bytes) (Some left) new (Err e) buffer items more goes room so_far consumed read off =
    let told : more ≡ Err (error_kind e) ∷ [] = read.1 ∙ ap (λ b. if b then [] else Err (error_kind e) ∷ []) (sym read.0 ∙ off) in
    record { left = left; read = items; front = so_far; end = inr (error_kind e, ap (λ l. items ++ l) told) }

-- an error in place of what is left
ended : (known left : Option (List ℕ)) (items : List Listed) (kind : ErrorKind) → SoFar known left items → AreReadOf known (items ++ Err kind ∷ [])
ended None left items kind so_far = tt
ended (Some bytes) None items kind so_far = absurd so_far
ended (Some bytes) (Some left) items kind so_far = record { left = left; read = items; front = so_far; end = inr (kind, refl) }

module _ {K : Type 0} (holds : Listed → Type 0) (took : K → List Listed → K → Type 0) where
  -- the same where taking the error may fail
  pub ends_if : {T E : Type 0} (r : Result T E) (known left : Option (List ℕ)) (items : List Listed) (kind : ErrorKind) (x y z : K) → SoFar known left items → TakesEach holds took items x y → holds (Err kind) → OnOk r (TakesAll took (Err kind ∷ []) y z)
      → OnOk r ((all : List Listed) × AreReadOf known all × TakesEach holds took all x z)
  ends_if (Ok _) known left items kind x y z so_far some it rest = (items ++ Err kind ∷ [], ended known left items kind so_far, each_on holds took items (Err kind ∷ []) x y z some (one_each holds took (Err kind) y z it rest))
  ends_if (Err _) known left items kind x y z so_far some it rest = tt
