-- Owners, row by row, as `fd --owner` reads them.
use Rattle.std.specs.Prelude.{◌≡◌, ◌++◌, ◌∷◌, [], ℕ, List, Option, None, Some, codes, refl}
use Rattle.seek_found.specs.Owner.{owner_in as owner_by}
use Rattle.seek_words.specs.declared.owner.IdTest.{IdTest}
use Rattle.seek_words.specs.declared.owner.IdTest.TheVariants.{Is, IsNot}
use Rattle.seek_words.specs.declared.owner.Owner.{Owner}

-- a line of a file
abbrev line : List ℕ → List ℕ
line text = text ++ 10 ∷ []

-- the owner of a text, where these users and groups are known
abbrev owner_in : List ℕ → Option (Option Owner)
owner_in =
    owner_by (line (codes "root:x:0:0:root:/root:/bin/sh") ++ line (codes "u:x:1000:100::/home/u:") ++ line (codes "bad:x::7::/:") ++ line (codes "long:x:4294967296:7::/:"))
    (line (codes "root:x:0:") ++ line (codes "adm:x:4:u") ++ codes "users:x:100:")

-- an owner of these two tests
abbrev of : Option IdTest → Option IdTest → Option (Option Owner)
of user group = Some (Some (record { user = user; group = group }))

user_and_group : owner_in (codes "1000:100") ≡ of (Some (Is 1000)) (Some (Is 100))
user_and_group = refl

user : owner_in (codes "1000") ≡ of (Some (Is 1000)) None
user = refl

user_before_a_colon : owner_in (codes "1000:") ≡ of (Some (Is 1000)) None
user_before_a_colon = refl

group : owner_in (codes ":100") ≡ of None (Some (Is 100))
group = refl

any_but_a_user : owner_in (codes "!0") ≡ of (Some (IsNot 0)) None
any_but_a_user = refl

any_but_both : owner_in (codes "!0:!0") ≡ of (Some (IsNot 0)) (Some (IsNot 0))
any_but_both = refl

greatest : owner_in (codes "4294967295") ≡ of (Some (Is 4294967295)) None
greatest = refl

too_great : owner_in (codes "4294967296") ≡ None
too_great = refl

any_owner : owner_in [] ≡ Some None
any_owner = refl

only_a_colon : owner_in (codes ":") ≡ Some None
only_a_colon = refl

no_number : owner_in (codes "!") ≡ None
no_number = refl

a_plus : owner_in (codes "+5:!+7") ≡ of (Some (Is 5)) (Some (IsNot 7))
a_plus = refl

only_a_plus : owner_in (codes "+") ≡ None
only_a_plus = refl

a_name : owner_in (codes "root") ≡ of (Some (Is 0)) None
a_name = refl

a_name_before_a_colon : owner_in (codes "u:") ≡ of (Some (Is 1000)) None
a_name_before_a_colon = refl

a_group_by_name : owner_in (codes "0:users") ≡ of (Some (Is 0)) (Some (Is 100))
a_group_by_name = refl

any_but_names : owner_in (codes "!root:!adm") ≡ of (Some (IsNot 0)) (Some (IsNot 4))
any_but_names = refl

unknown_name : owner_in (codes "none") ≡ None
unknown_name = refl

unknown_group : owner_in (codes "root:none") ≡ None
unknown_group = refl

part_of_a_name : owner_in (codes "roo") ≡ None
part_of_a_name = refl

name_without_a_number : owner_in (codes "bad") ≡ None
name_without_a_number = refl

name_with_a_number_too_great : owner_in (codes "long") ≡ None
name_with_a_number_too_great = refl

two_colons : owner_in (codes "1:2:3") ≡ None
two_colons = refl
