-- The small disk of the worked rows is one over which the laws of walks hold.
use Rattle.std.proofs.Common.{◌≡◌, ◌≢◌, ◌∙◌, ℕ, Bool, true, false, cond, List, [], ◌∷◌, All, Result, Ok, Err, subst, refl, sym, arith}
use Rattle.std.proofs.lemmas.List.Elements.{All-cons, All-nil}
use Rattle.std.proofs.lemmas.Slice.Eq.{bytes_eq-Decides}
use Rattle.std.specs.Prelude.{bytes_eq, codes}
use Rattle.std.specs.Path.{HasNoSlash}
use Rattle.std.specs.declared.io.ErrorKind.{ErrorKind}
use Rattle.std.specs.declared.io.ErrorKind.TheVariants as kind
use Rattle.jwalk_model.specs.FileSystem.{Listed}
use Rattle.jwalk_model.specs.Metadata.{metadata}
use Rattle.jwalk_model.specs.PathTexts.{IsName}
use Rattle.jwalk_model.specs.Paths.{dot, dots}
use Rattle.jwalk_model.specs.declared.file_type.FileType.TheVariants as type
use Rattle.jwalk_ignore.specs.Callback.Given.{first_settings}
use Rattle.jwalk_ignore_laws.specs.Rows.{fs, in_a, in_root, in_s, list_of, options, texts}
use Rattle.jwalk_ignore_laws.specs.Starts.{Agrees, below}
use Rattle.jwalk_ignore_laws.specs.Walks.{AgreeBelow, AreStarts, HasName, list_at}
use Rattle.jwalk_ignore_laws.proofs.ParentFacts.{parent_joined}

-- What holds of each directory of the disk holds of what is listed there.
module _ (Holds : List ℕ → List Listed → Type 0) (root : Holds (codes "/r") in_root) (a : Holds (codes "/r/a") in_a) (s : Holds (codes "/r/a/s") in_s) where
  at : (path own : List ℕ) (items found : List Listed) (others : Result (List Listed) ErrorKind) (b : Bool) → bytes_eq path own ≡ b → Holds own items → (others ≡ Ok found → Holds path found) → cond b (Ok items) others ≡ Ok found → Holds path found
  at path own items found others true same here rest is =
      let they : items ≡ found = cc in
      subst (Holds path) they (subst (λ (p : List ℕ). Holds p items) (sym ((bytes_eq-Decides path own).0 same)) here)
  at path own items found others false same here rest is = rest is

  listed_there : (path : List ℕ) (found : List Listed) → list_of path ≡ Ok found → Holds path found
  listed_there path found is =
      at path (codes "/r") in_root found (cond (bytes_eq path (codes "/r/a")) (Ok in_a) (cond (bytes_eq path (codes "/r/a/s")) (Ok in_s) (Err kind.NotFound))) (bytes_eq path (codes "/r")) refl root
      (at path (codes "/r/a") in_a found (cond (bytes_eq path (codes "/r/a/s")) (Ok in_s) (Err kind.NotFound)) (bytes_eq path (codes "/r/a")) refl a
      (at path (codes "/r/a/s") in_s found (Err kind.NotFound) (bytes_eq path (codes "/r/a/s")) refl s (λ none. absurd (cc)))) is

differs : (text other : List ℕ) → bytes_eq text other ≡ false → text ≢ other
differs text other is same = let both : false ≡ true = sym is ∙ (bytes_eq-Decides text other).1 same in cc

name_by : (text : List ℕ) → bytes_eq text [] ≡ false → bytes_eq text dot ≡ false → bytes_eq text dots ≡ false → HasNoSlash text → IsName text
name_by text some not_dot not_dots no_slash = record {
  some = differs text [] some;
  not_dot = differs text dot not_dot;
  not_dots = differs text dots not_dots;
  no_slash = no_slash;
}

ignore_name : IsName (codes ".ignore")
ignore_name = name_by (codes ".ignore") refl refl refl tt

two : (a b : Listed) → HasName a → HasName b → All HasName (a ∷ b ∷ [])
two a b is_a is_b = All-cons HasName a (b ∷ []) is_a (All-cons HasName b [] is_b (All-nil HasName))

three : (a b c : Listed) → HasName a → HasName b → HasName c → All HasName (a ∷ b ∷ c ∷ [])
three a b c is_a is_b is_c = All-cons HasName a (b ∷ c ∷ []) is_a (two b c is_b is_c)

-- The list of a directory agrees with the texts.
abbrev ListAgrees : List ℕ → List Listed → Type 0
ListAgrees path items = Agrees texts path (list_at fs options path items)

root_agrees : ListAgrees (codes "/r") in_root
root_agrees = record { fdignore = refl; ignore = refl; gitignore = refl; git = refl; once = omega arith }

a_agrees : ListAgrees (codes "/r/a") in_a
a_agrees = record { fdignore = refl; ignore = refl; gitignore = refl; git = refl; once = omega arith }

s_agrees : ListAgrees (codes "/r/a/s") in_s
s_agrees = record { fdignore = refl; ignore = refl; gitignore = refl; git = refl; once = omega arith }

root_named : All HasName in_root
root_named = three _ _ _ ignore_name (name_by (codes "a") refl refl refl tt) (name_by (codes "z.o") refl refl refl tt)

a_named : All HasName in_a
a_named = three _ _ _ ignore_name (name_by (codes "k.o") refl refl refl tt) (name_by (codes "s") refl refl refl tt)

s_named : All HasName in_s
s_named = two _ _ (name_by (codes "x.o") refl refl refl tt) (name_by (codes "y") refl refl refl tt)

-- the disk agrees with the texts
agree : AgreeBelow texts fs options (codes "/r")
agree = record {
  parents = λ name is. parent_joined (codes "/") (codes "r") name (name_by (codes "r") refl refl refl tt) is;
  named = λ names items named is. listed_there (λ path found. All HasName found) root_named a_named s_named (below (codes "/r") names) items is;
  lists = λ names items named is. listed_there ListAgrees root_agrees a_agrees s_agrees (below (codes "/r") names) items is;
}

-- walks can start at the root and at a directory below it
starts_at_a : AreStarts first_settings texts fs options (codes "/r") (codes "/r/a")
starts_at_a = record {
  no_links = refl;
  from_above = refl;
  agree = agree;
  first = record { some = differs (codes "/r") [] refl; absolute = refl; is_there = (metadata type.Dir 0, refl, refl) };
  second = record { some = differs (codes "/r/a") [] refl; absolute = refl; is_there = (metadata type.Dir 0, refl, refl) };
}
