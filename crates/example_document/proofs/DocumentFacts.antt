-- What is told of a document is the preorder of its tree.
use Rattle.std.proofs.Common.{◌≡◌, ℕ, zero, suc, List, [], ◌∷◌, ◌++◌, map, refl, sym, ap, ◌∙◌, append_assoc}
use Rattle.std.specs.Prelude.{flat_map}
use Rattle.std.proofs.lemmas.List.{append-nil}
use Rattle.jwalk_board.specs.Plan.{readings_in_preorder, values}
use Rattle.jwalk_board.proofs.PreorderValues.{below, below-first, readings-are}
use Rattle.example_document.specs.declared.document.Document.{Document}
use Rattle.example_document.specs.declared.document.Line.{Line}
use Rattle.example_document.specs.declared.document.Told.{Told}
use Rattle.example_document.specs.declared.line_to_read.LineToRead.{LineToRead}
use Rattle.example_document.specs.Document.{lines_for, told_of_line, tells, to_read, told_of, to_read_below, document_tree, document_falls}

module _ (d : Document) where
  -- what is told of lines and of all that is below them
  abbrev told_below : List LineToRead → List Told
  told_below lines = map (told_of d) (below (document_tree d) lines)

  first_told : (p : LineToRead) (rest : List LineToRead) → told_below (p ∷ rest) ≡ told_of d p ∷ told_below (to_read_below d p ++ rest)
  first_told p rest = ap (map (told_of d)) (below-first (document_tree d) (document_falls d) p rest)

  -- lines are told one after another
  lines_told : (levels : ℕ) (lines : List Line) (rest : List LineToRead) → told_below (map (to_read levels) lines ++ rest) ≡ flat_map (tells d levels) lines ++ told_below rest
  lines_told levels [] rest = refl
  lines_told zero (l ∷ lines) rest =
      first_told (to_read zero l) (map (to_read zero) lines ++ rest)
      ∙ ap (λ m. told_of_line d zero l ∷ m) (lines_told zero lines rest)
  lines_told (suc levels) (l ∷ lines) rest =
      let mine = flat_map (tells d levels) (lines_for d l) in
      first_told (to_read (suc levels) l) (map (to_read (suc levels)) lines ++ rest)
      ∙ ap (λ m. told_of_line d (suc levels) l ∷ m)
      (lines_told levels (lines_for d l) (map (to_read (suc levels)) lines ++ rest)
      ∙ ap (λ m. mine ++ m) (lines_told (suc levels) lines rest)
      ∙ sym (append_assoc mine (flat_map (tells d (suc levels)) lines) (told_below rest)))

  -- so the readings of its tree in preorder are what one reader tells
  pub told_whole : (levels : ℕ) (l : Line) → values (readings_in_preorder (document_tree d) (to_read levels l ∷ [])) ≡ tells d levels l
  told_whole levels l =
      readings-are (document_tree d) (to_read levels l ∷ [])
      ∙ lines_told levels (l ∷ []) []
      ∙ append-nil (tells d levels l ++ [])
      ∙ append-nil (tells d levels l)
