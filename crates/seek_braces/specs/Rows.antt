-- The texts of globs, row by row.
use Rattle.std.specs.Prelude.{◌≡◌, [], ◌∷◌, codes, refl}
use Rattle.seek_braces.specs.Expanded.{expanded}

row_plain : expanded (codes "a*b") ≡ codes "a*b" ∷ []
row_plain = refl

row_alternatives : expanded (codes "*.{rs,rt}") ≡ codes "*.rs" ∷ codes "*.rt" ∷ []
row_alternatives = refl

row_nested : expanded (codes "{a,b{c,d}}") ≡ codes "a" ∷ codes "bc" ∷ codes "bd" ∷ []
row_nested = refl

row_two : expanded (codes "{a,b}-{c,d}") ≡ codes "a-c" ∷ codes "a-d" ∷ codes "b-c" ∷ codes "b-d" ∷ []
row_two = refl

row_one : expanded (codes "{a}") ≡ codes "a" ∷ []
row_one = refl

row_empty : expanded (codes "{}") ≡ [] ∷ []
row_empty = refl

row_or_nothing : expanded (codes "{a,}") ≡ codes "a" ∷ [] ∷ []
row_or_nothing = refl

row_escaped_open : expanded (codes "\\{a,b}") ≡ codes "\\{a,b}" ∷ []
row_escaped_open = refl

row_escaped_close : expanded (codes "{a\\},b}") ≡ codes "a\\}" ∷ codes "b" ∷ []
row_escaped_close = refl

row_escaped_comma : expanded (codes "{a\\,b,c}") ≡ codes "a\\,b" ∷ codes "c" ∷ []
row_escaped_comma = refl

row_escaped_backslash : expanded (codes "{\\\\,\\*}") ≡ codes "\\\\" ∷ codes "\\*" ∷ []
row_escaped_backslash = refl

row_class : expanded (codes "{[{],[},]}") ≡ codes "[{]" ∷ codes "[},]" ∷ []
row_class = refl

row_class_first : expanded (codes "{[]{],[!],]}") ≡ codes "[]{]" ∷ codes "[!],]" ∷ []
row_class_first = refl

row_class_escaped : expanded (codes "{[\\]{],a}") ≡ codes "[\\]{]" ∷ codes "a" ∷ []
row_class_escaped = refl

row_class_name : expanded (codes "{[[:alpha:]{}],a}") ≡ codes "[[:alpha:]{}]" ∷ codes "a" ∷ []
row_class_name = refl

row_not_closed : expanded (codes "{a,b") ≡ codes "{a,b" ∷ []
row_not_closed = refl

row_not_closed_outside : expanded (codes "{a,{b,c}") ≡ codes "{a,b" ∷ codes "{a,c" ∷ []
row_not_closed_outside = refl

row_not_open : expanded (codes "{a,b}}") ≡ codes "a}" ∷ codes "b}" ∷ []
row_not_open = refl

row_comma : expanded (codes "a,b") ≡ codes "a,b" ∷ []
row_comma = refl
