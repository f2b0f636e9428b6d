-- What chains of rules say.
use Rattle.std.proofs.Common.{◌≡◌, ◌∙◌, ℕ, Bool, true, false, List, [], ◌∷◌, ◌++◌, ap, refl, sym}
use Rattle.std.specs.Prelude.{◌||◌}
use Rattle.std.specs.List.{AllZip}
use Rattle.std.specs.Arc.{arc_value}
use Rattle.std.specs.declared.sync.Arc.{Arc}
use Rattle.std.proofs.lemmas.List.{map-append}
use Rattle.jwalk_ignore_rules.specs.Rules.Chain as value
use Rattle.jwalk_ignore_rules.specs.Rules.Chain.{chain_says, has_any, has_rules, is_said, link_says, links_say}
use Rattle.jwalk_ignore_rules.specs.Rules.ChainViews.{link_value, links_value}
use Rattle.jwalk_ignore_rules.specs.Rules.Matching.{or_else}
use Rattle.jwalk_ignore_rules.specs.declared.rules.decision.Decision.{Decision}
use Rattle.jwalk_ignore_rules.specs.declared.rules.decision.Decision.TheVariants.{Ignored, Kept, Unsaid}
use Rattle.jwalk_ignore_rules.specs.declared.rules.link.Link.{Link}

-- what is said decides
pub said_first : (d next : Decision) → is_said d ≡ true → or_else d next ≡ d
said_first Ignored next is = refl
said_first Kept next is = refl
said_first Unsaid next is = absurd (cc)

-- where nothing is said the next decides
pub unsaid_next : (d next : Decision) → is_said d ≡ false → or_else d next ≡ next
unsaid_next Ignored next is = absurd (cc)
unsaid_next Kept next is = absurd (cc)
unsaid_next Unsaid next is = refl

or_else_assoc : (a b c : Decision) → or_else (or_else a b) c ≡ or_else a (or_else b c)
or_else_assoc Ignored b c = refl
or_else_assoc Kept b c = refl
or_else_assoc Unsaid b c = refl

or_else_unsaid : (d : Decision) → or_else d Unsaid ≡ d
or_else_unsaid Ignored = refl
or_else_unsaid Kept = refl
or_else_unsaid Unsaid = refl

-- the nearest link, and then the others
pub nearest_says : (farther : List value.Link) (nearest : value.Link) (path : List ℕ) (is_dir : Bool)
    → links_say (farther ++ nearest ∷ []) path is_dir ≡ or_else (link_says nearest path is_dir) (links_say farther path is_dir)
nearest_says [] nearest path is_dir = sym (or_else_unsaid (link_says nearest path is_dir))
nearest_says (link ∷ farther) nearest path is_dir =
    ap (λ (d : Decision). or_else d (link_says link path is_dir)) (nearest_says farther nearest path is_dir)
    ∙ or_else_assoc (link_says nearest path is_dir) (links_say farther path is_dir) (link_says link path is_dir)

-- the last of shared links, and then the others
pub last_says : {A : Type 0} (farther : List (Arc (Link A) A)) (last : Arc (Link A) A) (path : List ℕ) (is_dir : Bool)
    → links_say (links_value (farther ++ last ∷ [])) path is_dir ≡ or_else (link_says (link_value (arc_value last)) path is_dir) (links_say (links_value farther) path is_dir)
last_says farther last path is_dir =
    ap (λ (ls : List value.Link). links_say ls path is_dir) (map-append (λ l. link_value (arc_value l)) farther (last ∷ []))
    ∙ nearest_says (links_value farther) (link_value (arc_value last)) path is_dir

-- handles of the same links
pub clones_of : {A : Type 0} (l m : List (Arc (Link A) A)) → AllZip (λ c d. arc_value d ≡ arc_value c) l m → links_value m ≡ links_value l
clones_of [] [] h = refl
clones_of [] (y ∷ m) h = absurd h
clones_of (x ∷ l) [] h = absurd h
clones_of (x ∷ l) (y ∷ m) h = ap (λ t. link_value t ∷ links_value m) h.0 ∙ ap (λ r. link_value (arc_value x) ∷ r) (clones_of l m h.1)

none_in : (links : List value.Link) (path : List ℕ) (is_dir : Bool) → has_any links ≡ false → links_say links path is_dir ≡ Unsaid
none_in [] path is_dir is = refl
none_in (link ∷ links) path is_dir is = absurd (cc)

both_false : (a b : Bool) → (a || b) ≡ false → (a ≡ false) × (b ≡ false)
both_false false b is = (refl, is)
both_false true b is = absurd (cc)

-- where there are no rules nothing is said
pub none_said : (chain : value.Chain) (path : List ℕ) (is_dir : Bool) → has_rules chain ≡ false → chain_says chain path is_dir ≡ Unsaid
none_said chain path is_dir is =
    let outer = both_false (has_any chain.fdignore || has_any chain.ignore || has_any chain.gitignore) (has_any chain.exclude) is in
    let inner = both_false (has_any chain.fdignore || has_any chain.ignore) (has_any chain.gitignore) outer.0 in
    let first = both_false (has_any chain.fdignore) (has_any chain.ignore) inner.0 in
    ap (λ (d : Decision). or_else d (or_else (links_say chain.ignore path is_dir) (or_else (links_say chain.gitignore path is_dir) (links_say chain.exclude path is_dir)))) (none_in chain.fdignore path is_dir first.0)
    ∙ ap (λ (d : Decision). or_else d (or_else (links_say chain.gitignore path is_dir) (links_say chain.exclude path is_dir))) (none_in chain.ignore path is_dir first.1)
    ∙ ap (λ (d : Decision). or_else d (links_say chain.exclude path is_dir)) (none_in chain.gitignore path is_dir inner.1)
    ∙ none_in chain.exclude path is_dir outer.1
