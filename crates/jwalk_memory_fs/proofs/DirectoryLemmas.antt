-- What a directory's map of children says of its branch.
use Rattle.std.proofs.Common.{◌≡◌, ℕ, Bool, true, false, cond, ◌<◌, ◌≤◌, List, [], ◌∷◌, ◌++◌, append-nil, map, length, Option, None, Some, refl, sym, ap, ◌∙◌, String, string_bytes, ◌⊎◌, inl, inr, arith}
use Rattle.std.specs.Borrow.{Bor}
use Rattle.std.specs.Option.{option_map, option_copied}
use Rattle.std.specs.String.{string_eq}
use Rattle.std.specs.Str.{bytes_eq}
use Rattle.std.specs.List.{AllByRecursion, IsDistinct}
use Rattle.std.specs.Prelude.{IsSome, IfSome, MatchOption, ◌↔◌, option_to_list, not}
use Rattle.std.specs.Map.{lookup, keys_of, remove_entry}
use Rattle.std.proofs.lemmas.Bool.{false≢true, cases_lt}
use Rattle.std.proofs.lemmas.Map.Keys.{IsDistinct-head, IsDistinct-tail}
use Rattle.std.proofs.lemmas.Slice.Eq.{bytes_eq-Decides}
use Rattle.std.proofs.lemmas.List.{map-append, nil_from_length}
use Rattle.indexmap.specs.IndexMap.{IndexMap, insert_entry, get}
use Rattle.indexmap.proofs.CallerLemmas.{insert_entry-new}
use Rattle.std.specs.declared.io.ErrorKind.{ErrorKind}
use Rattle.jwalk_memory_fs.specs.declared.child.Child.{Child as CodeChild}
use Rattle.jwalk_memory_fs.specs.Child.{Child, child_seen}
use Rattle.jwalk_memory_fs.specs.Branch.{Branch, child_named, without, AreFound, PopsLast}

abbrev pub named : {A : Type 0} → List (String A × CodeChild A) → List (List ℕ × Child)
named es = map (λ e. (string_bytes e.0, child_seen e.1)) es

abbrev pub made : ℕ → Option ErrorKind → List (List ℕ × Child) → Branch
made parent denied children = record { parent = parent; children = children; denied = denied }

-- the child of a name is what the map has at it
pub child_named-named : {A : Type 0} (name : List ℕ) (es : List (String A × CodeChild A)) → child_named (named es) name ≡ option_map child_seen (lookup (λ k. bytes_eq name (string_bytes k)) es)
child_named-named name [] = refl
child_named-named name (e ∷ es) =
    elim (bytes_eq name (string_bytes e.0)) as (λ b. cond b (Some (child_seen e.1)) (child_named (named es) name) ≡ option_map child_seen (cond b (Some e.1) (lookup (λ k. bytes_eq name (string_bytes k)) es)))
    [ true ↦ refl | false ↦ child_named-named name es ]

pub seen-copied : {A : Type 0} (o : Option (Bor (CodeChild A))) → option_map (λ c. child_seen c.now) o ≡ option_map child_seen (option_copied o)
seen-copied None = refl
seen-copied (Some c) = refl

unmapped : {X Y : Type 0} (f : X → Y) (o : Option X) → option_map f o ≡ None → o ≡ None
unmapped f None e = refl
unmapped f (Some x) e = cc

-- a new name goes behind the others
pub named-insert : {A S : Type 0} (m n : IndexMap (String A) (CodeChild A) S) (text : String A) (name : List ℕ) (child : CodeChild A) (parent : ℕ) (denied : Option ErrorKind)
    → string_bytes text ≡ name → child_named (named m.entries) name ≡ None → n.entries ≡ insert_entry string_eq m.entries text child
    → made parent denied (named n.entries) ≡ made parent denied (named m.entries ++ (name, child_seen child) ∷ [])
named-insert m n text name child parent denied is absent entries =
    let none : get string_eq m text ≡ None = unmapped child_seen (get string_eq m text) (sym (child_named-named (string_bytes text) m.entries) ∙ ap (λ bs. child_named (named m.entries) bs) is ∙ absent) in
    ap (λ es. made parent denied (named es)) (entries ∙ insert_entry-new string_eq m text child none)
    ∙ ap (made parent denied) (map-append (λ e. (string_bytes e.0, child_seen e.1)) m.entries ((text, child) ∷ []) ∙ ap (λ bs. named m.entries ++ (bs, child_seen child) ∷ []) is)

-- ---- names that differ
apart : (a b : List ℕ) → bytes_eq a b ≡ false → bytes_eq b a ≡ false
apart a b e = by (bytes_eq b a) refl
  where
    by : (r : Bool) → bytes_eq b a ≡ r → bytes_eq b a ≡ false
    by true h = absurd (false≢true (sym e ∙ (bytes_eq-Decides a b).1 (sym ((bytes_eq-Decides b a).0 h))))
    by false h = h

found_behind : {A : Type 0} (first : String A) (child : Child) (children : List (List ℕ × Child)) (es : List (String A × CodeChild A))
    → AllByRecursion (λ other. string_eq first other ≡ false) (keys_of es) → AreFound children (named es) → AreFound ((string_bytes first, child) ∷ children) (named es)
found_behind first child children [] differ found = tt
found_behind first child children (e ∷ es) differ found =
    (ap (λ b. cond b (Some child) (child_named children (string_bytes e.0))) (apart (string_bytes first) (string_bytes e.0) differ.0) ∙ found.0, found_behind first child children es differ.1 found.1)

-- where the keys differ, each child is found by its name
pub found-named : {A : Type 0} (es : List (String A × CodeChild A)) → IsDistinct string_eq (keys_of es) → AreFound (named es) (named es)
found-named [] distinct = tt
found-named (e ∷ es) distinct = (
  ap (λ b. cond b (Some (child_seen e.1)) (child_named (named es) (string_bytes e.0))) ((bytes_eq-Decides (string_bytes e.0) (string_bytes e.0)).1 refl),
  found_behind e.0 (child_seen e.1) (named es) es (IsDistinct-head string_eq e.0 (keys_of es) distinct) (found-named es (IsDistinct-tail string_eq e.0 (keys_of es) distinct)),
)

-- ---- a name that goes
abbrev is_name : {A : Type 0} → List ℕ → String A → Bool
is_name name k = bytes_eq name (string_bytes k)

bytes_eq-sym : (a b : List ℕ) → bytes_eq a b ≡ bytes_eq b a
bytes_eq-sym a b = by (bytes_eq b a) refl
  where
    by : (r : Bool) → bytes_eq b a ≡ r → bytes_eq a b ≡ bytes_eq b a
    by true h = (bytes_eq-Decides a b).1 (sym ((bytes_eq-Decides b a).0 h)) ∙ sym h
    by false h = apart b a h ∙ sym h

-- where no name is that, none goes
without-absent : {A : Type 0} (name : List ℕ) (es : List (String A × CodeChild A)) → lookup (is_name name) es ≡ None → without name (named es) ≡ named es
without-absent name [] e = refl
without-absent name (x ∷ es) e = by (is_name name x.0) refl (without-absent name es)
  where
    by : (b : Bool) → is_name name x.0 ≡ b → (lookup (is_name name) es ≡ None → without name (named es) ≡ named es) → without name (named (x ∷ es)) ≡ named (x ∷ es)
    by true h rest = let z : Some x.1 ≡ None = sym (ap (λ b. cond b (Some x.1) (lookup (is_name name) es)) h) ∙ e in cc
    by false h rest =
        ap (λ b. cond (not b) ((string_bytes x.0, child_seen x.1) ∷ without name (named es)) (without name (named es))) (bytes_eq-sym (string_bytes x.0) name ∙ h)
        ∙ ap (λ (ls : List (List ℕ × Child)). (string_bytes x.0, child_seen x.1) ∷ ls) (rest (sym (ap (λ b. cond b (Some x.1) (lookup (is_name name) es)) h) ∙ e))

pub named-remove : {A : Type 0} (name : List ℕ) (es : List (String A × CodeChild A)) → lookup (is_name name) (remove_entry (is_name name) es) ≡ None
    → named (remove_entry (is_name name) es) ≡ without name (named es)
named-remove name [] e = refl
named-remove name (x ∷ es) e = by (is_name name x.0) refl (named-remove name es)
  where
    left : (b : Bool) → is_name name x.0 ≡ b → lookup (is_name name) (cond b es (x ∷ remove_entry (is_name name) es)) ≡ None
    left b h = sym (ap (λ c. lookup (is_name name) (cond c es (x ∷ remove_entry (is_name name) es))) h) ∙ e

    by : (b : Bool) → is_name name x.0 ≡ b → (lookup (is_name name) (remove_entry (is_name name) es) ≡ None → named (remove_entry (is_name name) es) ≡ without name (named es))
        → named (cond (is_name name x.0) es (x ∷ remove_entry (is_name name) es)) ≡ without name (named (x ∷ es))
    by true h rest =
        ap (λ c. named (cond c es (x ∷ remove_entry (is_name name) es))) h
        ∙ sym (without-absent name es (left true h))
        ∙ sym (ap (λ b. cond (not b) ((string_bytes x.0, child_seen x.1) ∷ without name (named es)) (without name (named es))) (bytes_eq-sym (string_bytes x.0) name ∙ h))
    by false h rest =
        ap (λ c. named (cond c es (x ∷ remove_entry (is_name name) es))) h
        ∙ ap (λ (ls : List (List ℕ × Child)). (string_bytes x.0, child_seen x.1) ∷ ls) (rest (sym (ap (λ b. cond b (Some x.1) (lookup (is_name name) (remove_entry (is_name name) es))) h) ∙ left false h))
        ∙ sym (ap (λ b. cond (not b) ((string_bytes x.0, child_seen x.1) ∷ without name (named es)) (without name (named es))) (bytes_eq-sym (string_bytes x.0) name ∙ h))

pub if_some_weaker : {X : Type 0} (P Q : X → Type 0) (r : Option X) → ((x : X) → P x → Q x) → IfSome r P → IfSome r Q
if_some_weaker P Q None f h = tt
if_some_weaker P Q (Some x) f h = f x h

-- the last child goes
pub named-pop : {A : Type 0} (es : List (String A × CodeChild A)) (r : Option (String A × CodeChild A)) (old : List (String A × CodeChild A)) (parent : ℕ) (denied : Option ErrorKind)
    → old ≡ es ++ option_to_list r → (IsSome r ↔ (0 < length old)) → IfSome r (λ p. lookup (is_name (string_bytes p.0)) es ≡ None)
    → MatchOption r ((named old ≡ []) × (made parent denied (named es) ≡ made parent denied (named old)))
    (λ p. PopsLast (made parent denied (named old)) (string_bytes p.0) (child_seen p.1) (made parent denied (named es)))
named-pop es None old parent denied is found gone =
    let whole : old ≡ es = is ∙ append-nil es in
    (ap named (nil_from_length old (none (cases_lt 0 (length old)))), ap (λ xs. made parent denied (named xs)) (sym whole))
  where
    none : (0 < length old) ⊎ (length old ≤ 0) → length old ≡ 0
    none (inl lt) = absurd (false≢true (found.1 lt))
    none (inr ge) = omega arith
named-pop es (Some p) old parent denied is found gone = (
  ap (λ xs. made parent denied (named xs)) is ∙ ap (made parent denied) (map-append (λ e. (string_bytes e.0, child_seen e.1)) es (p ∷ [])),
  child_named-named (string_bytes p.0) es ∙ ap (option_map child_seen) gone,
)
