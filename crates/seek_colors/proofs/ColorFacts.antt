-- What `LS_COLORS` gives as colours: digits and `;` alone.
use Rattle.std.proofs.Common.{◌≡◌, ℕ, Bool, true, false, ◌&&◌, cond, List, [], ◌∷◌, ◌++◌, codes, Option, Some, None, subst, sym, refl}
use Rattle.std.specs.Prelude.{IfSome, find, reverse}
use Rattle.std.specs.List.{cons_option, filter, list_all}
use Rattle.std.specs.Option.{is_none, option_map, option_or}
use Rattle.std.proofs.lemmas.List.{reverse-append}
use Rattle.seek_colors.specs.Entries.{entries_among, entries_in, entry_in, is_color_byte, is_entry, parts_in}
use Rattle.seek_colors.specs.Palette.{Colors, defaults, directory_color, file_color, has_all, has_any, is_visible, marked, mode_defaults, name_color, kinds_in, own_color, palette_in, suffix_in, suffixes_in, visible, GivesColorsAlone}
use Rattle.seek_colors.specs.Table.{key_color, last_color, suffix_color}
use Rattle.seek_colors.specs.declared.kind.Kind.{Kind}
use Rattle.seek_colors.specs.declared.kind.Kind.TheVariants.{Directory, Link, BrokenLink, File, Pipe, Socket, BlockDevice, CharDevice, Other}

abbrev Entry : Type 0
Entry = List ℕ × List ℕ

-- a text of digits and `;`
abbrev Is : List ℕ → Type 0
Is color = list_all is_color_byte color ≡ true

abbrev IfAny : Option (List ℕ) → Type 0
IfAny color = IfSome color Is

abbrev Are : List Entry → Type 0
Are [] = Unit {0}
Are (entry ∷ entries) = Is entry.1 × Are entries

second : (a b : Bool) → (a && b) ≡ true → b ≡ true
second true b both = both
second false b both = absurd (cc)

chosen : (b : Bool) (entry : Entry) → (b ≡ true → Is entry.1) → IfSome (cond b (Some entry) None) (λ (it : Entry). Is it.1)
chosen true entry is = is refl
chosen false entry is = tt

among-one : (part : List ℕ) → IfSome (entry_in part) (λ (it : Entry). Is it.1)
among-one part = chosen (is_entry part) _ (second _ _)

with_one : (first : Option Entry) (entries : List Entry) → IfSome first (λ (it : Entry). Is it.1) → Are entries → Are (cons_option first entries)
with_one None entries is are = are
with_one (Some entry) entries is are = (is, are)

among : (parts : List (List ℕ)) → Are (entries_among parts)
among [] = tt
among (part ∷ parts) = with_one (entry_in part) (entries_among parts) (among-one part) (among parts)

kept : (b : Bool) (entry : Entry) (entries : List Entry) → Is entry.1 → Are entries → Are (cond b (entry ∷ entries) entries)
kept true entry entries is are = (is, are)
kept false entry entries is are = are

filtered : (test : Entry → Bool) (entries : List Entry) → Are entries → Are (filter test entries)
filtered test [] are = tt
filtered test (entry ∷ entries) are = kept (test entry) entry (filter test entries) are.0 (filtered test entries are.1)

of_suffix : (suffix : Option (List ℕ)) (color : List ℕ) → Is color → IfSome (option_map (λ (it : List ℕ). (it, color)) suffix) (λ (it : Entry). Is it.1)
of_suffix None color is = tt
of_suffix (Some suffix) color is = is

suffixed : (entries : List Entry) → Are entries → Are (suffixes_in entries)
suffixed [] are = tt
suffixed (entry ∷ entries) are = with_one _ (suffixes_in entries) (of_suffix (suffix_in entry.0) entry.1 are.0) (suffixed entries are.1)

both : (xs ys : List Entry) → Are xs → Are ys → Are (xs ++ ys)
both [] ys xs_are ys_are = ys_are
both (x ∷ xs) ys xs_are ys_are = (xs_are.0, both xs ys xs_are.1 ys_are)

reversed : (entries : List Entry) → Are entries → Are (reverse entries)
reversed [] are = tt
reversed (entry ∷ entries) are = subst Are (sym (reverse-append (entry ∷ []) entries)) (both (reverse entries) (entry ∷ []) (reversed entries are.1) (are.0, tt))

either : (b : Bool) (entry : Entry) (found : Option Entry) → Is entry.1 → IfSome found (λ (it : Entry). Is it.1) → IfSome (cond b (Some entry) found) (λ (it : Entry). Is it.1)
either true entry found is other = is
either false entry found is other = other

among_found : (test : Entry → Bool) (entries : List Entry) → Are entries → IfSome (find test entries) (λ (it : Entry). Is it.1)
among_found test [] are = tt
among_found test (entry ∷ entries) are = either (test entry) entry (find test entries) are.0 (among_found test entries are.1)

color_found : (found : Option Entry) → IfSome found (λ (it : Entry). Is it.1) → IfAny (option_map (λ (it : Entry). it.1) found)
color_found None is = tt
color_found (Some entry) is = is

last : (test : List ℕ → Bool) (entries : List Entry) → Are entries → IfAny (last_color test entries)
last test entries are = color_found _ (among_found (λ it. test it.0) (reverse entries) (reversed entries are))

shown : (b : Bool) (color : List ℕ) → Is color → IfAny (cond b (Some color) None)
shown true color is = is
shown false color is = tt

seen : (color : Option (List ℕ)) → IfAny color → IfAny (visible color)
seen None is = tt
seen (Some color) is = shown (is_visible color) color is

one_of : (first other : Option (List ℕ)) → IfAny first → IfAny other → IfAny (option_or first other)
one_of None other is or_is = or_is
one_of (Some color) other is or_is = is

module _ (colors : Colors) (kinds : Are colors.kinds) (suffixes : Are colors.suffixes) where
  key : (it : List ℕ) → IfAny (key_color colors.kinds it)
  key it = last _ colors.kinds kinds

  name : (name : List ℕ) → IfAny (name_color colors name)
  name it = one_of (suffix_color colors.suffixes it) _ (last _ colors.suffixes suffixes) (key (codes "fi"))

  mark : (has_bits : Bool) (key : List ℕ) → IfAny (marked colors has_bits key)
  mark true it = seen _ (key it)
  mark false it = tt

  first_of : (first second third other : Option (List ℕ)) → IfAny first → IfAny second → IfAny third → IfAny other → IfAny (option_or (option_or (option_or first second) third) other)
  first_of first second third other a b c d = one_of (option_or (option_or first second) third) other (one_of (option_or first second) third (one_of first second a b) c) d

  file : (mode : ℕ) (it : List ℕ) → IfAny (file_color colors mode it)
  file mode it = first_of _ _ _ _ (mark (has_all mode 2048) (codes "su")) (mark (has_all mode 1024) (codes "sg")) (mark (has_any mode 73) (codes "ex")) (name it)

  directory : (mode : ℕ) → IfAny (directory_color colors mode)
  directory mode = first_of _ _ _ _ (mark (has_all mode 514) (codes "tw")) (mark (has_all mode 2) (codes "ow")) (mark (has_all mode 512) (codes "st")) (key (codes "di"))

  own : (kind : Kind) (name : List ℕ) → IfAny (own_color colors kind name)
  own (Directory mode) name = directory mode
  own Link name = key (codes "ln")
  own BrokenLink name = one_of (visible (key_color colors.kinds (codes "or"))) _ (seen _ (key (codes "or"))) (key (codes "ln"))
  own (File mode) it = file mode it
  own Pipe name = key (codes "pi")
  own Socket name = key (codes "so")
  own BlockDevice name = key (codes "bd")
  own CharDevice name = key (codes "cd")
  own Other name = tt

  given : GivesColorsAlone colors
  given kind name = seen _ (one_of (own_color colors kind name) _ (own kind name) (key (codes "no")))

kinds_of : (text : List ℕ) → Are (kinds_in (entries_in text))
kinds_of text = filtered (λ it. is_none (suffix_in it.0)) (entries_in text) (among (parts_in text))

suffixes_of : (text : List ℕ) → Are (suffixes_in (entries_in text))
suffixes_of text = suffixed (entries_in text) (among (parts_in text))

-- the colours of a text are of digits and `;` alone
pub colors_alone : (text : List ℕ) (colors : Colors) → colors.kinds ≡ (palette_in text).kinds → colors.suffixes ≡ (palette_in text).suffixes → GivesColorsAlone colors
colors_alone text colors kinds suffixes =
    given colors
    (subst Are (sym kinds) (both (kinds_in (entries_in defaults) ++ kinds_in (entries_in mode_defaults)) (kinds_in (entries_in text)) (both (kinds_in (entries_in defaults)) (kinds_in (entries_in mode_defaults)) (kinds_of defaults) (kinds_of mode_defaults)) (kinds_of text)))
    (subst Are (sym suffixes) (both (suffixes_in (entries_in defaults) ++ suffixes_in (entries_in mode_defaults)) (suffixes_in (entries_in text)) (both (suffixes_in (entries_in defaults)) (suffixes_in (entries_in mode_defaults)) (suffixes_of defaults) (suffixes_of mode_defaults)) (suffixes_of text)))
