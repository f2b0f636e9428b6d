-- One more line of a tree.
use Rattle.std.proofs.Common.{◌≡◌, ◌≢◌, ◌⊎◌, inl, inr, ◌+◌, ◌<◌, ℕ, ◌==◌, true, false, List, [], ◌∷◌, ◌++◌, length, get_or, take, drop, suc, drop-cons, Option, Some, None, IfSome, map, ap, refl, ◌∙◌, sym, subst, arith, Bor}
use Rattle.std.specs.List.{enumerate_from}
use Rattle.std.proofs.lemmas.List.{map-append, length-map, take-append-drop}
use Rattle.std.proofs.lemmas.List.FromFn.{get_or-enumerate_from, length-enumerate_from}
use Rattle.std.proofs.lemmas.Bool.{eqb-true}
use Rattle.jwalk_model.specs.Tree.{Tree, only_root}
use Rattle.jwalk_memory_fs.specs.MemoryFs.{IsSameTree, IsBuilt}
use Rattle.walk_text.specs.TextLines.{text_lines, numbered_from}
use Rattle.walk_text.specs.NumberedLines.{numbered}
use Rattle.walk_text.specs.Built.{added, Adds, AddsAll, Builds, CannotAdd, IsFirstBad, TellsOf, TellsOfInput}
use Rattle.walk_text.specs.TreeLine.{Says}
use Rattle.walk_text.specs.declared.tree_line.TreeLine.{TreeLine}
use Rattle.walk_text.specs.declared.failure.Failure.{Failure}
use Rattle.walk_text.specs.declared.failure.Failure.TheVariants.{BadWords, BadTree, TooMany, Memory, Output}

-- an empty line changes nothing
pub adds_nothing : (line : List ℕ) (tree : Tree) → (length line == 0) ≡ true → Adds line tree tree
adds_nothing [] tree empty = refl
adds_nothing (c ∷ cs) tree empty = absurd (omega (arith, eqb-true (length (c ∷ cs)) 0 empty))

-- another one adds what it says
pub adds_said : (line : List ℕ) (old new : Tree) (said : TreeLine) → (length line == 0) ≡ false → Says line said → IsBuilt (added said old) new → Adds line old new
adds_said [] old new said some says built = cc
adds_said (c ∷ cs) old new said some says built = (said, says, built)

-- the text of a numbered line
abbrev pub text_of : ℕ × Bor (List ℕ) → List ℕ
text_of item = item.1.now

-- one more line
pub adds_more : (xs : List (ℕ × Bor (List ℕ))) (x : ℕ × Bor (List ℕ)) (old mid new : Tree) → AddsAll (map text_of xs) old mid → Adds (text_of x) mid new → AddsAll (map text_of (xs ++ x ∷ [])) old new
adds_more [] x old mid new same adds = (new, subst (λ t. Adds (text_of x) t new) same adds, refl)
adds_more (y ∷ xs) x old mid new before adds = (before.0, before.1, adds_more xs x before.0 mid new before.2 adds)

texts_of : (xs : List (ℕ × Bor (List ℕ))) → map text_of xs ≡ map (λ (p : ℕ × List ℕ). p.1) (map numbered xs)
texts_of [] = refl
texts_of (x ∷ xs) = ap (λ l. text_of x ∷ l) (texts_of xs)

unnumbered : (lines : List (List ℕ)) (n : ℕ) → map (λ (p : ℕ × List ℕ). p.1) (enumerate_from n lines) ≡ lines
unnumbered [] n = refl
unnumbered (line ∷ lines) n = ap (λ l. line ∷ l) (unnumbered lines (n + 1))

-- all lines, once the last was passed
pub builds : (text : List ℕ) (xs : List (ℕ × Bor (List ℕ))) (start tree : Tree) → map numbered xs ≡ numbered_from 1 text → IsSameTree only_root start → AddsAll (map text_of xs) start tree → Builds (text_lines text) tree
builds text xs start tree all same adds =
    let lines : map text_of xs ≡ text_lines text = texts_of xs ∙ (ap (map (λ (p : ℕ × List ℕ). p.1)) all ∙ unnumbered (text_lines text) 1) in
    (start, same, subst (λ ls. AddsAll ls start tree) lines adds)

-- An item's line in the text: its number counts the lines before it.
placed : (text : List ℕ) (xs : List (ℕ × Bor (List ℕ))) (x : ℕ × Bor (List ℕ)) → map numbered xs ≡ take (length xs) (numbered_from 1 text) → length xs < length (numbered_from 1 text) → numbered x ≡ get_or (numbered_from 1 text) (length xs) (numbered x)
    → (after : List (List ℕ)) × (text_lines text ≡ map text_of xs ++ text_of x ∷ after) × (x.0 ≡ length (map text_of xs) + 1)
placed text xs x before within here =
    let lines = text_lines text in
    let all = numbered_from 1 text in
    let k = length xs in
    let rest = drop (suc k) all in
    let line : ℕ × List ℕ → List ℕ = λ p. p.1 in
    let split : all ≡ map numbered xs ++ numbered x ∷ rest = sym (take-append-drop k all) ∙ (ap (λ front. front ++ drop k all) (sym before) ∙ ap (λ back. map numbered xs ++ back) (drop-cons all k (numbered x) within ∙ ap (λ p. p ∷ rest) (sym here))) in
    let parts : lines ≡ map text_of xs ++ text_of x ∷ map line rest = sym (unnumbered lines 1) ∙ (ap (map line) split ∙ (map-append line (map numbered xs) (numbered x ∷ rest) ∙ ap (λ ls. ls ++ text_of x ∷ map line rest) (sym (texts_of xs)))) in
    let number : x.0 ≡ 1 + k = ap (λ (p : ℕ × List ℕ). p.0) (here ∙ get_or-enumerate_from 1 lines k (numbered x) (omega (arith, within, length-enumerate_from 1 lines))) in
    (map line rest, parts, omega (arith, number, length-map xs text_of))

-- the first line that can't be added is named
pub names_first : (text : List ℕ) (xs : List (ℕ × Bor (List ℕ))) (x : ℕ × Bor (List ℕ)) (start tree : Tree) (failure : Failure) → map numbered xs ≡ take (length xs) (numbered_from 1 text) → length xs < length (numbered_from 1 text) → numbered x ≡ get_or (numbered_from 1 text) (length xs) (numbered x)
    → IsSameTree only_root start → AddsAll (map text_of xs) start tree → (failure ≢ Memory → (failure ≡ BadTree x.0) × CannotAdd (text_of x) tree) → TellsOf (text_lines text) failure
names_first text xs x start tree failure before within here same adds bad = by_failure failure bad
  where
    by_failure : (f : Failure) → (f ≢ Memory → (f ≡ BadTree x.0) × CannotAdd (text_of x) tree) → TellsOf (text_lines text) f
    by_failure Memory told = tt
    by_failure BadWords told = absurd (let e = told (λ e. cc) in cc (e.0))
    by_failure TooMany told = absurd (let e = told (λ e. cc) in cc (e.0))
    by_failure Output told = absurd (let e = told (λ e. cc) in cc (e.0))
    by_failure (BadTree number) told =
        let is = told (λ e. cc) in
        let place = placed text xs x before within here in
        let counted : number ≡ x.0 = cc (is.0) in
        record { before = map text_of xs; line = text_of x; after = place.0; tree = tree; parts = place.1; counted = counted ∙ place.2; built = (start, same, adds); bad = is.1 }

-- an input that can't be read, or whose reading ran out of memory
pub unread : (to_come : Option (List ℕ)) (failure : Failure) → (failure ≡ Memory) ⊎ (failure ≡ BadTree 0) → TellsOfInput to_come failure
unread to_come failure (inl e) = subst (TellsOfInput to_come) (sym e) tt
unread to_come failure (inr e) = subst (TellsOfInput to_come) (sym e) (inl refl)

-- an input that was read and builds no tree
pub tells_of_read : (to_come : Option (List ℕ)) (read : List ℕ) (failure : Failure) → IfSome to_come (λ bytes. read ≡ bytes) → TellsOf (text_lines read) failure → TellsOfInput to_come failure
tells_of_read to_come read Memory is tells = tt
tells_of_read to_come read BadWords is tells = tells
tells_of_read to_come read TooMany is tells = tells
tells_of_read to_come read Output is tells = tells
tells_of_read None read (BadTree number) is tells = inr tt
tells_of_read (Some bytes) read (BadTree number) is tells = inr (subst (λ b. IsFirstBad (text_lines b) number) is tells)
