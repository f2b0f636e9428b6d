-- Rules in force that decide alike.
use Rattle.std.proofs.Common.{◌≡◌, ◌∙◌, ◌≤◌, ℕ, Bool, true, false, cond, List, [], ◌∷◌, ◌++◌, map, length, drop, Option, Some, None, Result, Ok, Err, ap, refl, sym, arith, append-nil, length-append}
use Rattle.std.specs.Prelude.{◌&&◌, ◌||◌, not, if◌then◌else◌}
use Rattle.std.specs.declared.io.ErrorKind.{ErrorKind}
use Rattle.jwalk_ignore_laws.specs.Starts.{links_in}
use Rattle.jwalk_ignore.specs.Pattern.{Pattern, decision_of}
use Rattle.jwalk_ignore.specs.Pattern.Names.{names_of}
use Rattle.jwalk_ignore.specs.Rules.Chain.{Chain, Link, chain_says, entered, link_says, links_say}
use Rattle.jwalk_ignore.specs.Rules.Matching.{fit, is_named, or_else, pattern_says, patterns_say}
use Rattle.jwalk_ignore.specs.jwalk_ignore_rules.declared.rules.decision.Decision.{Decision}
use Rattle.jwalk_ignore.specs.jwalk_ignore_rules.declared.rules.decision.Decision.TheVariants.{Unsaid}
use Rattle.jwalk_ignore.specs.jwalk_ignore_rules.declared.rules.rules_kind.RulesKind.{RulesKind}
use Rattle.jwalk_ignore.specs.jwalk_ignore_rules.declared.rules.rules_kind.RulesKind.TheVariants as rules
use Rattle.jwalk_ignore_laws.proofs.NameFacts.{Goes, names_behind}
use Rattle.jwalk_ignore_laws.proofs.OwnFacts.{found_links}

-- Two links have the same patterns, and the same names behind what is before those.
abbrev LinkAlike : List ℕ → List ℕ → Link → Link → Type 0
LinkAlike p q l m = (l.patterns ≡ m.patterns) × (l.before ≤ length p) × (m.before ≤ length q) × (names_of (drop l.before p) ≡ names_of (drop m.before q))

abbrev pub LinksAlike : List ℕ → List ℕ → List Link → List Link → Type 0
LinksAlike p q [] [] = Unit {0}
LinksAlike p q (l ∷ ls) (m ∷ ms) = LinkAlike p q l m × LinksAlike p q ls ms
LinksAlike p q [] (m ∷ ms) = ⊥
LinksAlike p q (l ∷ ls) [] = ⊥

-- one name farther
pub links_go : (p q n p' q' : List ℕ) → Goes p n p' → Goes q n q' → (ls ms : List Link) → LinksAlike p q ls ms → LinksAlike p' q' ls ms
links_go p q n p' q' to_p to_q [] [] h = tt
links_go p q n p' q' to_p to_q [] (m ∷ ms) h = absurd h
links_go p q n p' q' to_p to_q (l ∷ ls) [] h = absurd h
links_go p q n p' q' to_p to_q (l ∷ ls) (m ∷ ms) h =
    let here = to_p l.before h.0.1 in
    let there = to_q m.before h.0.2 in
    ((h.0.0, here.0, there.0, here.1 ∙ ap (λ (names : List (List ℕ)). names ++ n ∷ []) h.0.3 ∙ sym there.1), links_go p q n p' q' to_p to_q ls ms h.1)

-- A path with something behind it that has no name.
abbrev pub Keeps : List ℕ → List ℕ → Type 0
Keeps p q = (b : ℕ) → b ≤ length p → (b ≤ length q) × (names_of (drop b q) ≡ names_of (drop b p))

pub keeps_all : (p : List ℕ) → Keeps p p
keeps_all p = λ b less. (less, refl)

pub keeps_slash : (p : List ℕ) → Keeps p (p ++ 47 ∷ [])
keeps_slash p = λ b less. (rw (length-append p (47 ∷ [])) (omega (arith, less)), names_behind b p [] less ∙ append-nil (names_of (drop b p)))

pub links_keep : (p q p' q' : List ℕ) → Keeps p p' → Keeps q q' → (ls ms : List Link) → LinksAlike p q ls ms → LinksAlike p' q' ls ms
links_keep p q p' q' to_p to_q [] [] h = tt
links_keep p q p' q' to_p to_q [] (m ∷ ms) h = absurd h
links_keep p q p' q' to_p to_q (l ∷ ls) [] h = absurd h
links_keep p q p' q' to_p to_q (l ∷ ls) (m ∷ ms) h =
    let here = to_p l.before h.0.1 in
    let there = to_q m.before h.0.2 in
    ((h.0.0, here.0, there.0, here.1 ∙ h.0.3 ∙ sym there.1), links_keep p q p' q' to_p to_q ls ms h.1)

-- No more is before what links match.
abbrev pub Within : ℕ → List Link → Type 0
Within n [] = Unit {0}
Within n (l ∷ ls) = (l.before ≤ n) × Within n ls

pub within_alike : (p : List ℕ) (ls : List Link) → Within (length p) ls → LinksAlike p p ls ls
within_alike p [] h = tt
within_alike p (l ∷ ls) h = ((refl, h.0, h.0, refl), within_alike p ls h.1)

pub within_more : (n : ℕ) (ls ks : List Link) → Within n ls → Within n ks → Within n (ls ++ ks)
within_more n [] ks h k = k
within_more n (l ∷ ls) ks h k = (h.0, within_more n ls ks h.1 k)

within_found : (n before : ℕ) (found : Result (Option (List Pattern)) ErrorKind) → before ≤ n → Within n (found_links before found)
within_found n before (Ok (Some patterns)) less = (less, tt)
within_found n before (Ok None) less = tt
within_found n before (Err k) less = tt

pub within_if : (n before : ℕ) (b : Bool) (found : Result (Option (List Pattern)) ErrorKind) → before ≤ n → Within n (cond b (found_links before found) [])
within_if n before true found less = within_found n before found less
within_if n before false found less = tt

links_more : (p q : List ℕ) (ls ms ks js : List Link) → LinksAlike p q ls ms → LinksAlike p q ks js → LinksAlike p q (ls ++ ks) (ms ++ js)
links_more p q [] [] ks js h k = k
links_more p q [] (m ∷ ms) ks js h k = absurd h
links_more p q (l ∷ ls) [] ks js h k = absurd h
links_more p q (l ∷ ls) (m ∷ ms) ks js h k = (h.0, links_more p q ls ms ks js h.1 k)

pub drop_whole : (p : List ℕ) → drop (length p) p ≡ []
drop_whole [] = refl
drop_whole (c ∷ p) = drop_whole p

found_alike : (p q : List ℕ) (found : Result (Option (List Pattern)) ErrorKind) → LinksAlike p q (found_links (length p) found) (found_links (length q) found)
found_alike p q (Ok (Some patterns)) = ((refl, omega arith, omega arith, ap names_of (drop_whole p) ∙ sym (ap names_of (drop_whole q))), tt)
found_alike p q (Ok None) = tt
found_alike p q (Err k) = tt

if_alike : (p q : List ℕ) (b : Bool) (found : Result (Option (List Pattern)) ErrorKind) → LinksAlike p q (cond b (found_links (length p) found) []) (cond b (found_links (length q) found) [])
if_alike p q true found = found_alike p q found
if_alike p q false found = tt

-- with what is found in one file
pub more_alike : (p q : List ℕ) (b : Bool) (found : Result (Option (List Pattern)) ErrorKind) (ls ms : List Link) → LinksAlike p q ls ms
    → LinksAlike p q (ls ++ cond b (found_links (length p) found) []) (ms ++ cond b (found_links (length q) found) [])
more_alike p q b found ls ms h =
    links_more p q ls ms (cond b (found_links (length p) found) []) (cond b (found_links (length q) found) []) h (if_alike p q b found)

-- Rules in force have alike links of each kind, and are in a repository or not.
pub record Alike (p q : List ℕ) (a b : Chain) : Type 0 where
  pub repository : a.in_repository ≡ b.in_repository
  pub links : (kind : RulesKind) → LinksAlike p q (links_in kind a) (links_in kind b)

entered_links : (p q : List ℕ) (holds : Bool) (a b : Chain) → Alike p q a b → (kind : RulesKind) → LinksAlike p q (links_in kind (entered holds a)) (links_in kind (entered holds b))
entered_links p q true a b alike rules.Fdignore = alike.links rules.Fdignore
entered_links p q true a b alike rules.Ignore = alike.links rules.Ignore
entered_links p q true a b alike rules.Gitignore = tt
entered_links p q true a b alike rules.Exclude = tt
entered_links p q false a b alike kind = alike.links kind

entered_repository : (holds : Bool) (a b : Chain) → a.in_repository ≡ b.in_repository → (entered holds a).in_repository ≡ (entered holds b).in_repository
entered_repository true a b same = refl
entered_repository false a b same = same

-- inside a directory
pub entered_alike : (p q : List ℕ) (holds : Bool) (a b : Chain) → Alike p q a b → Alike p q (entered holds a) (entered holds b)
entered_alike p q holds a b alike = record { repository = entered_repository holds a b alike.repository; links = entered_links p q holds a b alike }

-- ---- what they say

match_alike : (pattern : Pattern) (a b : List ℕ) (is_dir : Bool) → names_of a ≡ names_of b → pattern_says pattern a is_dir ≡ pattern_says pattern b is_dir
match_alike pattern a b is_dir same =
    ap (λ (names : List (List ℕ)). if (not pattern.only_dirs || is_dir) && fit is_named pattern.parts names then decision_of pattern.keeps else Unsaid) same

patterns_alike : (patterns : List Pattern) (a b : List ℕ) (is_dir : Bool) → names_of a ≡ names_of b → patterns_say patterns a is_dir ≡ patterns_say patterns b is_dir
patterns_alike [] a b is_dir same = refl
patterns_alike (pattern ∷ others) a b is_dir same =
    ap (λ (d : Decision). or_else d (pattern_says pattern a is_dir)) (patterns_alike others a b is_dir same)
    ∙ ap (or_else (patterns_say others b is_dir)) (match_alike pattern a b is_dir same)

link_alike : (p q rest : List ℕ) (is_dir : Bool) (l m : Link) → LinkAlike p q l m → link_says l (p ++ 47 ∷ rest) is_dir ≡ link_says m (q ++ 47 ∷ rest) is_dir
link_alike p q rest is_dir l m h =
    let names : names_of (drop l.before (p ++ 47 ∷ rest)) ≡ names_of (drop m.before (q ++ 47 ∷ rest)) =
    names_behind l.before p rest h.1 ∙ ap (λ (ns : List (List ℕ)). ns ++ names_of rest) h.3 ∙ sym (names_behind m.before q rest h.2) in
    ap (λ (ps : List Pattern). patterns_say ps (drop l.before (p ++ 47 ∷ rest)) is_dir) h.0
    ∙ patterns_alike m.patterns (drop l.before (p ++ 47 ∷ rest)) (drop m.before (q ++ 47 ∷ rest)) is_dir names

links_alike : (p q rest : List ℕ) (is_dir : Bool) (ls ms : List Link) → LinksAlike p q ls ms → links_say ls (p ++ 47 ∷ rest) is_dir ≡ links_say ms (q ++ 47 ∷ rest) is_dir
links_alike p q rest is_dir [] [] h = refl
links_alike p q rest is_dir [] (m ∷ ms) h = absurd h
links_alike p q rest is_dir (l ∷ ls) [] h = absurd h
links_alike p q rest is_dir (l ∷ ls) (m ∷ ms) h =
    ap (λ (d : Decision). or_else d (link_says l (p ++ 47 ∷ rest) is_dir)) (links_alike p q rest is_dir ls ms h.1)
    ∙ ap (or_else (links_say ms (q ++ 47 ∷ rest) is_dir)) (link_alike p q rest is_dir l m h.0)

-- alike rules say the same of every path below
pub says_alike : (p q rest : List ℕ) (is_dir : Bool) (a b : Chain) → Alike p q a b → chain_says a (p ++ 47 ∷ rest) is_dir ≡ chain_says b (q ++ 47 ∷ rest) is_dir
says_alike p q rest is_dir a b alike =
    let at_p : List ℕ = p ++ 47 ∷ rest in
    let at_q : List ℕ = q ++ 47 ∷ rest in
    let first : Decision = links_say b.fdignore at_q is_dir in
    ap (λ (d : Decision). or_else d (or_else (links_say a.ignore at_p is_dir) (or_else (links_say a.gitignore at_p is_dir) (links_say a.exclude at_p is_dir)))) (links_alike p q rest is_dir a.fdignore b.fdignore (alike.links rules.Fdignore))
    ∙ ap (λ (d : Decision). or_else first (or_else d (or_else (links_say a.gitignore at_p is_dir) (links_say a.exclude at_p is_dir)))) (links_alike p q rest is_dir a.ignore b.ignore (alike.links rules.Ignore))
    ∙ ap (λ (d : Decision). or_else first (or_else (links_say b.ignore at_q is_dir) (or_else d (links_say a.exclude at_p is_dir)))) (links_alike p q rest is_dir a.gitignore b.gitignore (alike.links rules.Gitignore))
    ∙ ap (λ (d : Decision). or_else first (or_else (links_say b.ignore at_q is_dir) (or_else (links_say b.gitignore at_q is_dir) d))) (links_alike p q rest is_dir a.exclude b.exclude (alike.links rules.Exclude))

-- they have the same patterns
pub patterns_same : (p q : List ℕ) (ls ms : List Link) → LinksAlike p q ls ms → map (λ l. l.patterns) ls ≡ map (λ m. m.patterns) ms
patterns_same p q [] [] h = refl
patterns_same p q [] (m ∷ ms) h = absurd h
patterns_same p q (l ∷ ls) [] h = absurd h
patterns_same p q (l ∷ ls) (m ∷ ms) h = ap (λ (ps : List Pattern). ps ∷ map (λ k. k.patterns) ls) h.0.0 ∙ ap (λ (all : List (List Pattern)). m.patterns ∷ all) (patterns_same p q ls ms h.1)
