-- A list after the rules and then the other callback.
use Rattle.std.proofs.Common.{◌≡◌, ◌∙◌, ℕ, List, map, Option, Result, Ok, Err, ap, sym}
use Rattle.std.specs.Prelude.{OnOk}
use Rattle.jwalk.specs.jwalk_model.Counted.{Worth, both}
use Rattle.jwalk.specs.jwalk_model.Entry.{Item}
use Rattle.jwalk.specs.jwalk_model.Job.{Processing}
use Rattle.jwalk.specs.jwalk_job.Given.{Given, IsProcessed, counted_item}
use Rattle.jwalk_ignore.specs.Rules.Chain.{Chain}
use Rattle.jwalk_ignore.specs.Rules.ChainWorth.{chain_worth, rules_of, second_in, with_chain}
use Rattle.jwalk_ignore.specs.Callback.IgnoreFiles.{Made, by_rules}
use Rattle.jwalk_ignore.specs.Callback.IgnoreViews.{CountsRules, Ignores, ignoring, with_processed}
use Rattle.jwalk_ignore.specs.Rules.Texts.{Texts}
use Rattle.jwalk_ignore.specs.Callback.Settings.{Settings}
use Rattle.jwalk_ignore.proofs.MadeFacts.{rules_by}
use Rattle.jwalk_ignore_rules.proofs.WorthFacts.{chain_back}

module _ {R E : Type 0} (rules_in : R → Chain) (others : R → R → Type 0) (given : Given R E) (own : R → Worth) (counts : CountsRules rules_in others given own) where
  -- the rules that a state counts as
  rules_back : (state : R) → rules_of (given.read_dir_state state) ≡ rules_in state
  rules_back state = ap rules_of (counts.0 state) ∙ chain_back (rules_in state)

  -- a state with other rules
  with_rules_of : (old new : R) → own new ≡ own old → with_chain (rules_in new) (given.read_dir_state old) ≡ given.read_dir_state new
  with_rules_of old new same =
      ap (λ (s : Worth). both (chain_worth (rules_in new)) (second_in s)) (counts.0 old)
      ∙ ap (λ (s : Worth). both (chain_worth (rules_in new)) s) (sym same) ∙ sym (counts.0 new)

  module _ (settings : Settings) (texts : Texts) (next : Processing Worth Worth) (depth : Option ℕ) (path : List ℕ) where
    -- what the other callback is given of a list
    by_next : (before left : R) (old new : List (Item R E)) → own left ≡ own before
        → (let made : Made R E = record { chain = rules_in left; list = new } in made) ≡ by_rules settings texts depth path (rules_in before) old
        → ignoring settings texts next depth path (given.read_dir_state before) (map (counted_item given) old)
        ≡ next depth path (given.read_dir_state left) (map (counted_item given) new)
    by_next before left old new same made =
        let state : Worth = given.read_dir_state before in
        ap (λ (c : Chain). let m : Made Worth Worth = by_rules settings texts depth path c (map (counted_item given) old) in next depth path (with_chain m.chain state) m.list) (rules_back before)
        ∙ ap (λ (m : Made Worth Worth). next depth path (with_chain m.chain state) m.list)
        (rules_by given.read_dir_state given.dir_entry_state settings texts depth path (rules_in before) old
        ∙ ap (λ (m : Made R E). let counted : Made Worth Worth = record { chain = m.chain; list = map (counted_item given) m.list } in counted) (sym made))
        ∙ ap (λ (s : Worth). next depth path s (map (counted_item given) new)) (with_rules_of before left same)

-- what is made of a list by rules, and then by the other callback, is what is given
pub then_next : {R E F : Type 0} (rules_in : R → Chain) (others : R → R → Type 0) (given : Given R E) (fixed : Type 0) (texts : Texts) (settings : Settings) (makes : Given R E → Type 0)
    (is : Ignores rules_in others fixed texts settings makes given)
    (depth : Option ℕ) (path : List ℕ) (answer : Result (Unit {0}) F) (before left after : R) (old new list : List (Item R E))
    → OnOk answer (IsProcessed (with_processed given is.3 is.4) depth path left new after list)
    → others before left
    → (let made : Made R E = record { chain = rules_in left; list = new } in made) ≡ by_rules settings texts depth path (rules_in before) old
    → OnOk answer (IsProcessed given depth path before old after list)
then_next rules_in others given fixed texts settings makes is depth path (Ok done) before left after old new list processed same made =
    is.6 depth path (given.read_dir_state before) (map (counted_item given) old)
    ∙ by_next rules_in others given is.1 is.2 settings texts is.3 depth path before left old new (is.2.1 before left same) made ∙ processed
then_next rules_in others given fixed texts settings makes is depth path (Err failed) before left after old new list processed same made = tt
