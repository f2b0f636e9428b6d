-- Owners, by what the files of users and groups had.
use Rattle.std.proofs.Common.{◌≡◌, ◌∙◌, ◌<◌, ℕ, List, [], ◌∷◌, length, Option, None, Some, ap, ap₂, refl, subst, sym, arith}
use Rattle.std.specs.Option.{option_or}
use Rattle.jwalk_ignore_rules.specs.Rules.Texts.{Texts}
use Rattle.seek_words.specs.declared.owner.IdTest.{IdTest}
use Rattle.seek_words.specs.declared.owner.Owner.{Owner}
use Rattle.seek_found.specs.Accounts.{id_named}
use Rattle.seek_found.specs.Owner.{accounts_at, group_part, groups_file, number_in, owner_of_parts, user_part, users_file, IsIdBy, IsOwnerBy, IsPartBy}

-- a text of less than one byte
empty : (bytes text : List ℕ) → bytes ≡ text → length bytes < 1 → text ≡ []
empty [] text same below = sym same
empty (c ∷ cs) text same below = absurd (omega arith)

module _ (told : Type 0) (texts : Texts) where
  module _ (file text : List ℕ) where
    -- a text that is a number
    pub by_number : (id : ℕ) → Some id ≡ number_in text → IsIdBy told texts file text (Some id)
    by_number id is = record {
      accounts = accounts_at texts file;
      are = λ _. refl;
      is = ap (λ (o : Option ℕ). option_or o (id_named (accounts_at texts file) text)) is;
    }

    -- an empty text
    pub by_nothing : (bytes : List ℕ) → bytes ≡ text → length bytes < 1 → IsPartBy told texts file text (Some None)
    by_nothing bytes same below = subst (λ (t : List ℕ). IsPartBy told texts file t (Some None)) (sym (empty bytes text same below)) (record {
      accounts = accounts_at texts file;
      are = λ _. refl;
      is = refl;
    })

  -- an owner of a user and a group
  pub by_parts : (text : List ℕ) (user group : Option (Option IdTest)) → IsPartBy told texts users_file (user_part text) user → IsPartBy told texts groups_file (group_part text) group
      → (owner : Option (Option Owner)) → owner ≡ owner_of_parts user group → IsOwnerBy told texts text owner
  by_parts text user group of_user of_group owner is = record {
    accounts = of_user.accounts;
    are = of_user.are;
    is = record {
      accounts = of_group.accounts;
      are = of_group.are;
      is = is ∙ ap₂ owner_of_parts of_user.is of_group.is;
    };
  }
