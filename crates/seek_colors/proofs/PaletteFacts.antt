-- The colours of some parts of a text, and of one more.
use Rattle.std.proofs.Common.{◌≡◌, ◌∙◌, ◌+◌, ◌<◌, ℕ, Bor, List, [], ◌∷◌, ◌++◌, append_assoc, length, map, take, sym, ap}
use Rattle.std.proofs.Math.ListN.{get_or}
use Rattle.std.proofs.lemmas.List.{map-append, take_more}
use Rattle.std.proofs.lemmas.List.Elements.{filter-append, filter_map-append}
use Rattle.std.specs.Option.{is_none, option_map}
use Rattle.seek_colors.specs.Entries.{entries_among, entry_in}
use Rattle.seek_colors.specs.Palette.{Colors, kinds_in, suffix_in, suffixes_in}

-- the kinds of two lists of texts
pub kinds-append : (xs ys : List (List ℕ)) → kinds_in (entries_among (xs ++ ys)) ≡ kinds_in (entries_among xs) ++ kinds_in (entries_among ys)
kinds-append xs ys = ap kinds_in (filter_map-append entry_in xs ys) ∙ filter-append (λ it. is_none (suffix_in it.0)) (entries_among xs) (entries_among ys)

-- the ends of names of two lists of texts
pub suffixes-append : (xs ys : List (List ℕ)) → suffixes_in (entries_among (xs ++ ys)) ≡ suffixes_in (entries_among xs) ++ suffixes_in (entries_among ys)
suffixes-append xs ys =
    ap suffixes_in (filter_map-append entry_in xs ys)
    ∙ filter_map-append (λ it. option_map (λ suffix. (suffix, it.1)) (suffix_in it.0)) (entries_among xs) (entries_among ys)

-- with one more part
pub one_more : (read : List (List ℕ) → List (List ℕ × List ℕ)) → ((xs ys : List (List ℕ)) → read (xs ++ ys) ≡ read xs ++ read ys) → (old before after : List (List ℕ × List ℕ)) (parts : List (Bor (List ℕ))) (i : ℕ) (part : Bor (List ℕ))
    → i < length parts → before ≡ old ++ read (map (λ it. it.now) (take i parts)) → after ≡ before ++ read ((get_or parts i part).now ∷ []) → after ≡ old ++ read (map (λ it. it.now) (take (i + 1) parts))
one_more read both old before after parts i part below was is =
    let texts : List (Bor (List ℕ)) → List (List ℕ) = map (λ it. it.now) in
    let last = get_or parts i part in
    is
    ∙ ap (λ it. it ++ read (last.now ∷ [])) was
    ∙ append_assoc old (read (texts (take i parts))) (read (last.now ∷ []))
    ∙ ap (λ it. old ++ it) (sym (ap (λ it. read (texts it)) (take_more parts i part below) ∙ ap read (map-append (λ it. it.now) (take i parts) (last ∷ [])) ∙ both (texts (take i parts)) (last.now ∷ [])))

-- three texts that are added to nothing
pub three_added : (none one two three xs ys zs : List (List ℕ × List ℕ)) → none ≡ [] → one ≡ none ++ xs → two ≡ one ++ ys → three ≡ two ++ zs → three ≡ (xs ++ ys) ++ zs
three_added none one two three xs ys zs is first second third = third ∙ ap (λ it. it ++ zs) (second ∙ ap (λ it. it ++ ys) (first ∙ ap (λ it. it ++ xs) is))

abbrev made : List (List ℕ × List ℕ) → List (List ℕ × List ℕ) → Colors
made kinds suffixes = record { kinds = kinds; suffixes = suffixes }

pub same_colors : (a b : Colors) → a.kinds ≡ b.kinds → a.suffixes ≡ b.suffixes → a ≡ b
same_colors a b kinds suffixes = ap (λ it. made it a.suffixes) kinds ∙ ap (λ it. made b.kinds it) suffixes
