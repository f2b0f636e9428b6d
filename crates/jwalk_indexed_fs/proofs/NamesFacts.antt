-- One more name behind those of a text.
use Rattle.std.proofs.Common.{◌≡◌, ◌≤◌, ◌++◌, ◌∷◌, [], ◌∙◌, ℕ, List, length, take, drop, refl, sym, ap, subst}
use Rattle.std.proofs.Math.Seq.{take-length, drop-length}
use Rattle.std.proofs.lemmas.List.{append_assoc, drop-append-le, take-append-le, take-append-drop, length-take-le}
use Rattle.std.proofs.lemmas.Str.{IsUtf8-append, IsUtf8-drop, IsCharBoundary-at_seam, IsCharBoundary-end}
use Rattle.std.specs.Str.{IsUtf8, IsCharBoundary}
use Rattle.jwalk_model.specs.declared.file_type.FileType.{FileType}
use Rattle.jwalk_indexed_fs.specs.Name.{Name}
use Rattle.jwalk_indexed_fs.specs.Names.{names_in, IsCut}
use Rattle.jwalk_indexed_fs.specs.declared.names.Piece.{Piece}

-- where a text may be cut, it may still be cut with another text behind it
boundary_stays : (text more : List ℕ) (n : ℕ) → IsUtf8 text → IsUtf8 more → IsCharBoundary text n → IsCharBoundary (text ++ more) n
boundary_stays text more n valid also at =
    subst (IsCharBoundary (text ++ more)) (length-take-le n text at.0)
    (IsCharBoundary-at_seam (text ++ more) (take n text) (drop n text ++ more)
    (ap (λ l. l ++ more) (sym (take-append-drop n text)) ∙ append_assoc (take n text) (drop n text) more)
    (IsUtf8-append (drop n text) more (IsUtf8-drop text n valid at) also))

-- the piece of a whole name
abbrev pub whole : List ℕ → FileType → Piece
whole name type = record { len = length name; file_type = type }

pub cut_more : (text : List ℕ) (ps : List Piece) (name : List ℕ) (type : FileType) → IsUtf8 text → IsUtf8 name → IsCut text ps → IsCut (text ++ name) (ps ++ whole name type ∷ [])
cut_more text [] name type valid also cut =
    subst (λ t. IsCut (t ++ name) (whole name type ∷ [])) (sym cut) (IsCharBoundary-end name, drop-length name)
cut_more text (p ∷ ps) name type valid also cut = (
  boundary_stays text name p.len valid also cut.0,
  subst (λ t. IsCut t (ps ++ whole name type ∷ [])) (sym (drop-append-le p.len text name cut.0.0))
      (cut_more (drop p.len text) ps name type (IsUtf8-drop text p.len valid cut.0) also cut.1),
)

pub names_more : (text : List ℕ) (ps : List Piece) (name : List ℕ) (type : FileType) → IsCut text ps → names_in (text ++ name) (ps ++ whole name type ∷ []) ≡ names_in text ps ++ record { name = name; file_type = type } ∷ []
names_more text [] name type cut =
    ap (λ t. names_in (t ++ name) (whole name type ∷ [])) cut ∙ ap (λ n. record { name = n; file_type = type } ∷ []) (take-length name)
names_more text (p ∷ ps) name type cut =
    ap (λ t. record { name = t; file_type = p.file_type } ∷ names_in (drop p.len (text ++ name)) (ps ++ whole name type ∷ [])) (take-append-le p.len text name cut.0.0)
    ∙ ap (λ t. record { name = take p.len text; file_type = p.file_type } ∷ names_in t (ps ++ whole name type ∷ [])) (drop-append-le p.len text name cut.0.0)
    ∙ ap (λ l. record { name = take p.len text; file_type = p.file_type } ∷ l) (names_more (drop p.len text) ps name type cut.1)
