-- The words of a call, option by option.
use Rattle.std.proofs.Common.{◌≡◌, ◌≢◌, ◌<◌, ℕ, arith, length, List, [], ◌∷◌, ◌++◌, Option, Some, None, codes, if◌then◌else◌, bytes_eq, MatchOption, unwrap_or, ap, sym, subst, ◌∙◌}
use Rattle.std.proofs.lemmas.List.{length-append, same_from_push}
use Rattle.walk_text.specs.Number.{IsNumber, value_of}
use Rattle.walk_text.specs.Asked.{nothing, also}
use Rattle.walk_text.specs.Words.{BeginWithNumber, BeginWithNamedNumber, Begin, AddAll, Add, Ask, AreGood}
use Rattle.walk_text.specs.declared.asked.Asked.{Asked}
use Rattle.walk_text.specs.declared.asked.Choice.{Choice}
use Rattle.walk_text.specs.declared.asked.Choice.TheVariants.{Tree, Sort, Hidden, Follow, Usage, Min, Max, Read}
use Rattle.walk_text.specs.declared.read_by.ReadBy.TheVariants.{Batch, Crew}

-- an option and the words behind it
abbrev split_as : Choice → List (List ℕ) → Option (Choice × List (List ℕ))
split_as choice others = Some (choice, others)

-- directories are read in batches of a width
abbrev batch : ℕ → Choice
batch width = Read (Batch width)

-- directories are read by a crew of n workers
abbrev crew : ℕ → Choice
crew workers = Read (Crew workers)

-- an option with the number in front of these words
numbered : (ℕ → Choice) → List (List ℕ) → Option (Choice × List (List ℕ))
numbered option [] = None
numbered option (digits ∷ others) = split_as (option (value_of digits)) others

-- the option that a name in front of these words is
named : List ℕ → List (List ℕ) → Option (Choice × List (List ℕ))
named name behind =
    if bytes_eq name (codes "--tree") then split_as Tree behind
    else if bytes_eq name (codes "--sort") then split_as Sort behind
    else if bytes_eq name (codes "--hidden") then split_as Hidden behind
    else if bytes_eq name (codes "--follow") then split_as Follow behind
    else if bytes_eq name (codes "--usage") then split_as Usage behind
    else if bytes_eq name (codes "--min") then numbered Min behind
    else if bytes_eq name (codes "--max") then numbered Max behind
    else if bytes_eq name (codes "--batch") then numbered batch behind
    else if bytes_eq name (codes "--crew") then numbered crew behind
    else None

-- the option that words begin with, and the words behind it
split : List (List ℕ) → Option (Choice × List (List ℕ))
split [] = None
split (name ∷ behind) = named name behind

numbered_is : (option : ℕ → Choice) (behind : List (List ℕ)) (n : ℕ) (others : List (List ℕ)) → BeginWithNumber behind n others → numbered option behind ≡ split_as (option n) others
unfolding numbered
numbered_is option behind n others (digits, is, number, value) = ap (numbered option) is ∙ ap (λ k. split_as (option k) others) value

split_is : (words : List (List ℕ)) (choice : Choice) (others : List (List ℕ)) → Begin words choice others → split words ≡ split_as choice others
unfolding split named
split_is words Tree others begin = ap split begin
split_is words Sort others begin = ap split begin
split_is words Hidden others begin = ap split begin
split_is words Follow others begin = ap split begin
split_is words Usage others begin = ap split begin
split_is words (Min n) others (behind, is, number) = ap split is ∙ numbered_is Min behind n others number
split_is words (Max n) others (behind, is, number) = ap split is ∙ numbered_is Max behind n others number
split_is words (Read (Batch n)) others (behind, is, number) = ap split is ∙ numbered_is batch behind n others number
split_is words (Read (Crew n)) others (behind, is, number) = ap split is ∙ numbered_is crew behind n others number

same_parts : (a b : Choice) (xs ys : List (List ℕ)) → split_as a xs ≡ split_as b ys → (a ≡ b) × (xs ≡ ys)
same_parts a b xs ys same =
    let P : Type 0 = Choice × List (List ℕ) in
    let e : (a, xs) ≡ (b, ys) = ap (λ (o : Option P). unwrap_or o (a, xs)) same in
    (ap (λ (p : P). p.0) e, ap (λ (p : P). p.1) e)

-- words begin with only one option
pub one_option : (words : List (List ℕ)) (a b : Choice) (xs ys : List (List ℕ)) → Begin words a xs → Begin words b ys → (a ≡ b) × (xs ≡ ys)
one_option words a b xs ys first second = same_parts a b xs ys (sym (split_is words a xs first) ∙ split_is words b ys second)

-- a number and the name in front of it are two words
two_words : (name : List ℕ) (words : List (List ℕ)) (n : ℕ) (others : List (List ℕ)) → BeginWithNamedNumber name words n others → length others < length words
two_words name words n others (behind, is, (digits, behind_is, number, value)) = omega (arith, ap length is, ap length behind_is)

one_word : (name : List ℕ) (words others : List (List ℕ)) → words ≡ name ∷ others → length others < length words
one_word name words others is = omega (arith, ap length is)

-- words that begin with an option are more than those behind it
pub fewer_behind : (words : List (List ℕ)) (choice : Choice) (others : List (List ℕ)) → Begin words choice others → length others < length words
fewer_behind words Tree others begin = one_word (codes "--tree") words others begin
fewer_behind words Sort others begin = one_word (codes "--sort") words others begin
fewer_behind words Hidden others begin = one_word (codes "--hidden") words others begin
fewer_behind words Follow others begin = one_word (codes "--follow") words others begin
fewer_behind words Usage others begin = one_word (codes "--usage") words others begin
fewer_behind words (Min n) others begin = two_words (codes "--min") words n others begin
fewer_behind words (Max n) others begin = two_words (codes "--max") words n others begin
fewer_behind words (Read (Batch n)) others begin = two_words (codes "--batch") words n others begin
fewer_behind words (Read (Crew n)) others begin = two_words (codes "--crew") words n others begin

-- an empty list of words begins with no number
pub no_first_word : (words : List (List ℕ)) → length words ≡ 0 → (n : ℕ) (others : List (List ℕ)) → ¬ (BeginWithNumber words n others)
no_first_word words none n others (digits, is, number, value) = absurd (omega (arith, none, ap length is))

-- nor do words whose first is no number
pub no_number : (words : List (List ℕ)) (first : List ℕ) (behind : List (List ℕ)) → words ≡ first ∷ behind → ¬ (IsNumber first) → (n : ℕ) (others : List (List ℕ)) → ¬ (BeginWithNumber words n others)
no_number words first behind is none n others (digits, begins, number, value) =
    let e : digits ≡ first = cc in
    none (subst IsNumber e number)

-- words that begin with a number are more than those behind it
fewer_behind_number : (words : List (List ℕ)) (n : ℕ) (others : List (List ℕ)) → BeginWithNumber words n others → length others < length words
fewer_behind_number words n others (digits, is, number, value) = omega (arith, ap length is)

-- what is behind a name in front of a number
behind_name : (name : List ℕ) (words : List (List ℕ)) (option : List ℕ) (n : ℕ) (others : List (List ℕ)) → BeginWithNamedNumber option (name ∷ words) n others → (name ≡ option) × BeginWithNumber words n others
behind_name name words option n others (behind, is, number) =
    let same : words ≡ behind = cc in
    (cc, subst (λ ws. BeginWithNumber ws n others) (sym same) number)

-- a name is no option of one word unless it is one of five
pub no_plain_option : (name : List ℕ) → name ≢ codes "--tree" → name ≢ codes "--sort" → name ≢ codes "--hidden" → name ≢ codes "--follow" → name ≢ codes "--usage" → (choice : Choice) (others : List (List ℕ)) → ¬ (Begin (name ∷ others) choice others)
no_plain_option name tree sort hidden follow usage choice others begin = refuted choice begin
  where
    by_number : (option : List ℕ) (n : ℕ) → ¬ (BeginWithNamedNumber option (name ∷ others) n others)
    by_number option n named = absurd (omega (arith, fewer_behind_number others n others (behind_name name others option n others named).1))

    refuted : (c : Choice) → ¬ (Begin (name ∷ others) c others)
    refuted Tree b = tree cc
    refuted Sort b = sort cc
    refuted Hidden b = hidden cc
    refuted Follow b = follow cc
    refuted Usage b = usage cc
    refuted (Min n) b = by_number (codes "--min") n b
    refuted (Max n) b = by_number (codes "--max") n b
    refuted (Read (Batch n)) b = by_number (codes "--batch") n b
    refuted (Read (Crew n)) b = by_number (codes "--crew") n b

-- nor an option with a number, unless it is one of four others
pub no_numbered_option : (name : List ℕ) → name ≢ codes "--min" → name ≢ codes "--max" → name ≢ codes "--batch" → name ≢ codes "--crew" → (n : ℕ) (words others : List (List ℕ)) → BeginWithNumber words n others → (choice : Choice) → ¬ (Begin (name ∷ words) choice others)
no_numbered_option name not_min not_max not_batch not_crew n words others number choice begin = refuted choice begin
  where
    one_word_alone : (option : List ℕ) → name ∷ words ≢ option ∷ others
    one_word_alone option is = absurd (omega (arith, fewer_behind_number words n others number, ap length is))

    refuted : (c : Choice) → ¬ (Begin (name ∷ words) c others)
    refuted Tree b = one_word_alone (codes "--tree") b
    refuted Sort b = one_word_alone (codes "--sort") b
    refuted Hidden b = one_word_alone (codes "--hidden") b
    refuted Follow b = one_word_alone (codes "--follow") b
    refuted Usage b = one_word_alone (codes "--usage") b
    refuted (Min k) b = not_min (behind_name name words (codes "--min") k others b).0
    refuted (Max k) b = not_max (behind_name name words (codes "--max") k others b).0
    refuted (Read (Batch k)) b = not_batch (behind_name name words (codes "--batch") k others b).0
    refuted (Read (Crew k)) b = not_crew (behind_name name words (codes "--crew") k others b).0

-- words begin with no option if their first is none of one word, and none with a number that comes behind it
pub no_option : (words : List (List ℕ)) (name : List ℕ) (behind : List (List ℕ)) → words ≡ name ∷ behind → ((choice : Choice) (others : List (List ℕ)) → ¬ (Begin (name ∷ others) choice others)) → ((n : ℕ) (others : List (List ℕ)) → BeginWithNumber behind n others → (choice : Choice) → ¬ (Begin (name ∷ behind) choice others)) → (choice : Choice) (others : List (List ℕ)) → ¬ (Begin words choice others)
no_option words name behind is plain numbered choice others begin = refuted choice (subst (λ ws. Begin ws choice others) is begin)
  where
    by_number : (option : List ℕ) (n : ℕ) (c : Choice) → BeginWithNamedNumber option (name ∷ behind) n others → ¬ (Begin (name ∷ behind) c others)
    by_number option n c named = numbered n others (behind_name name behind option n others named).1 c

    refuted : (c : Choice) → ¬ (Begin (name ∷ behind) c others)
    refuted Tree b = plain Tree others cc
    refuted Sort b = plain Sort others cc
    refuted Hidden b = plain Hidden others cc
    refuted Follow b = plain Follow others cc
    refuted Usage b = plain Usage others cc
    refuted (Min n) b = by_number (codes "--min") n (Min n) b b
    refuted (Max n) b = by_number (codes "--max") n (Max n) b b
    refuted (Read (Batch n)) b = by_number (codes "--batch") n (batch n) b b
    refuted (Read (Crew n)) b = by_number (codes "--crew") n (crew n) b b

-- an empty list of words begins with no option
none_begins : (choice : Choice) (others : List (List ℕ)) → ¬ (Begin [] choice others)
unfolding split
none_begins choice others begin = absurd (differ (split_is [] choice others begin))
  where
    differ : None ≡ split_as choice others → ⊥
    differ e = subst (λ o. MatchOption o (Unit {0}) (λ _. ⊥)) e tt

-- what options add when one more comes before them
add_front : (words others : List (List ℕ)) (choice : Choice) (old mid new : Asked) → Begin words choice others → also choice old ≡ Some mid → Add others mid new → Add words old new
add_front words others choice old mid new begin more (choices, add) = (choice ∷ choices, (others, mid, begin, more, add))

-- what options add behind the first one
add_behind : (words others : List (List ℕ)) (choice : Choice) (old mid new : Asked) → words ≢ [] → Begin words choice others → also choice old ≡ Some mid → Add words old new → Add others mid new
add_behind words others choice old mid new some begin more ([], done) = absurd (some done.0)
add_behind words others choice old mid new some begin more (c ∷ choices, (rest, m, first, adds, add)) =
    let same : (c ≡ choice) × (rest ≡ others) = one_option words c choice rest others first begin in
    let mids : also choice old ≡ Some m = subst (λ k. also k old ≡ Some m) same.0 adds in
    let e : m ≡ mid = cc in
    (choices, subst (λ ws. AddAll choices ws mid new) same.1 (subst (λ k. AddAll choices rest k new) e add))

-- Words that add to what was asked for what others add to other options.
pub record AsksAlike (old : Asked) (words : List (List ℕ)) (mid : Asked) (left : List (List ℕ)) : Type 0 where
  pub forth : (new : Asked) → Add left mid new → Add words old new
  pub back : (new : Asked) → Add words old new → Add left mid new

-- all words ask for what they ask for
pub alike_at_first : (old : Asked) (words : List (List ℕ)) (mid : Asked) → mid ≡ old → AsksAlike old words mid words
alike_at_first old words mid is = subst (λ asked. AsksAlike old words asked words) (sym is) (record { forth = λ new add. add; back = λ new add. add })

-- one more option
pub alike_behind : (old : Asked) (words : List (List ℕ)) (asked mid : Asked) (left others : List (List ℕ)) (choice : Choice) → AsksAlike old words asked left → left ≢ [] → Begin left choice others → also choice asked ≡ Some mid → AsksAlike old words mid others
alike_behind old words asked mid left others choice alike some begin more = record {
  forth = λ new add. alike.forth new (add_front left others choice asked mid new begin more add);
  back = λ new add. add_behind left others choice asked mid new some begin more (alike.back new add);
}

-- Where the words that are left begin with no option, none of the words ask for anything.
pub asks_no_option : (old : Asked) (words : List (List ℕ)) (asked : Asked) (left : List (List ℕ)) → AsksAlike old words asked left → left ≢ [] → ((choice : Choice) (others : List (List ℕ)) → ¬ (Begin left choice others)) → (new : Asked) → ¬ (Add words old new)
asks_no_option old words asked left alike some none new add = refuted (alike.back new add)
  where
    refuted : ¬ (Add left asked new)
    refuted ([], done) = some done.0
    refuted (c ∷ choices, (rest, m, first, adds, more)) = none c rest first

-- nor where they begin with an option that was asked for already
pub asks_twice : (old : Asked) (words : List (List ℕ)) (asked : Asked) (left others : List (List ℕ)) (choice : Choice) → AsksAlike old words asked left → left ≢ [] → Begin left choice others → also choice asked ≡ None → (new : Asked) → ¬ (Add words old new)
asks_twice old words asked left others choice alike some begin twice new add = refuted (alike.back new add)
  where
    refuted : ¬ (Add left asked new)
    refuted ([], done) = some done.0
    refuted (c ∷ choices, (rest, m, first, adds, more)) =
        let same : (c ≡ choice) × (rest ≡ others) = one_option left c choice rest others first begin in
        let mids : also choice asked ≡ Some m = subst (λ k. also k asked ≡ Some m) same.0 adds in
        subst (λ o. MatchOption o (Unit {0}) (λ _. ⊥)) (sym twice ∙ mids) tt

-- Where no words are left, the words ask for what was asked for by then and for nothing else.
pub asks_only : (old : Asked) (words : List (List ℕ)) (asked : Asked) → AsksAlike old words asked [] → (new : Asked) → Add words old new → new ≡ asked
asks_only old words asked alike new add = ended (alike.back new add)
  where
    ended : Add [] asked new → new ≡ asked
    ended ([], done) = done.1
    ended (c ∷ choices, (rest, m, first, adds, more)) = absurd (none_begins c rest first)

-- what words ask for, by the last of them and the others
asks_by_last : (words options : List (List ℕ)) (last : List ℕ) → words ≡ options ++ last ∷ [] → (asked : Asked) (root : List ℕ) → Ask words asked root → (root ≡ last) × Add options nothing asked
asks_by_last words options last is asked root (front, front_is, add) =
    let same : (front ≡ options) × (root ≡ last) = same_from_push front options root last (sym front_is ∙ is) in
    (same.1, subst (λ ws. Add ws nothing asked) same.0 add)

-- an empty list of words asks for no walk
pub no_root : (words : List (List ℕ)) → length words ≡ 0 → ¬ (AreGood words)
no_root words none (asked, root, (options, is, add)) = absurd (omega (arith, none, ap length is, length-append options (root ∷ [])))

-- words whose others ask for nothing are bad ones
pub bad_options : (words options : List (List ℕ)) (last : List ℕ) → words ≡ options ++ last ∷ [] → ((asked : Asked) → ¬ (Add options nothing asked)) → ¬ (AreGood words)
bad_options words options last is none (asked, root, ask) = none asked (asks_by_last words options last is asked root ask).1

-- what the words ask for is all that they ask for
pub asks_one : (words options : List (List ℕ)) (last : List ℕ) → words ≡ options ++ last ∷ [] → (asked : Asked) → ((other : Asked) → Add options nothing other → other ≡ asked) → (other : Asked) (root : List ℕ) → Ask words other root → (other ≡ asked) × (root ≡ last)
asks_one words options last is asked only other root ask =
    let asks = asks_by_last words options last is other root ask in
    (only other asks.1, asks.0)
