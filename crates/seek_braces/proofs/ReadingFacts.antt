-- The steps of reading.
use Rattle.std.proofs.Common.{◌≡◌, ◌∙◌, ◌≤◌, ◌<◌, ◌+◌, ◌-◌, ℕ, List, [], ◌∷◌, ◌++◌, Some, length, map, ap, sym, subst, append_assoc, arith}
use Rattle.std.specs.List.{slice_get}
use Rattle.std.proofs.Math.ListN.{get_or}
use Rattle.std.proofs.lemmas.List.{append-nil, map-append, map-id, length-append, length-map, get_or_append_left}
use Rattle.std.specs.declared.vec.Vec.{Vec}
use Rattle.seek_braces.specs.Expanded.{Group, Read, with_byte, with_close, with_item}
use Rattle.seek_braces.specs.Reading.{bytes_of, copied, forward, last_len, others_of, pushed, AreGroups, Begins, HoldsBy}
use Rattle.seek_braces.specs.declared.item.Item.TheVariants.{Open, Comma}
use Rattle.seek_braces.specs.declared.reading.OpenGroup.{OpenGroup}
use Rattle.seek_braces.proofs.ListFacts.{map_map, map_same, forward_pushed, forward_copied, length-forward, last_first}

begins_itself : (texts : List (List ℕ)) → Begins texts texts
begins_itself texts = record { front = []; rest = []; is = sym (append-nil (map (λ (t : List ℕ). t) texts) ∙ map-id texts) }

begins_with : (byte : ℕ) (behind texts : List (List ℕ)) → Begins behind texts → Begins behind (map (λ t. byte ∷ t) texts)
begins_with byte behind texts begins = record {
  front = byte ∷ begins.front;
  rest = map (λ t. byte ∷ t) begins.rest;
  is = ap (map (λ t. byte ∷ t)) begins.is ∙ map-append (λ t. byte ∷ t) (map (λ t. begins.front ++ t) behind) begins.rest
      ∙ ap (λ l. l ++ map (λ t. byte ∷ t) begins.rest) (map_map (λ t. byte ∷ t) (λ t. begins.front ++ t) behind);
}

begins_far : (far behind texts others : List (List ℕ)) → Begins far behind → Begins behind texts → Begins far (texts ++ others)
begins_far far behind texts others outer inner =
    let f = λ (t : List ℕ). inner.front ++ t in
    let g = λ (t : List ℕ). outer.front ++ t in
    let h = λ (t : List ℕ). (inner.front ++ outer.front) ++ t in
    let first : map f behind ≡ map h far ++ map f outer.rest
    = ap (map f) outer.is ∙ map-append f (map g far) outer.rest
    ∙ ap (λ l. l ++ map f outer.rest) (map_map f g far ∙ map_same (λ t. f (g t)) h (λ t. sym (append_assoc inner.front outer.front t)) far) in
    record {
      front = inner.front ++ outer.front;
      rest = map f outer.rest ++ (inner.rest ++ others);
      is = ap (λ l. l ++ others) (inner.is ∙ ap (λ l. l ++ inner.rest) first)
          ∙ append_assoc (map h far ++ map f outer.rest) inner.rest others ∙ append_assoc (map h far) (map f outer.rest) (inner.rest ++ others);
    }

groups_with : (byte : ℕ) (texts : List (List ℕ)) (groups : List Group) (kept : List OpenGroup) → AreGroups texts groups kept → AreGroups (map (λ t. byte ∷ t) texts) groups kept
groups_with byte texts [] [] are = tt
groups_with byte texts (g ∷ gs) (k ∷ ks) are = (begins_with byte g.behind texts are.0, are.1, are.2)
groups_with byte texts [] (k ∷ ks) are = are
groups_with byte texts (g ∷ gs) [] are = are

groups_far : (behind texts others : List (List ℕ)) (groups : List Group) (kept : List OpenGroup) → Begins behind texts → AreGroups behind groups kept → AreGroups (texts ++ others) groups kept
groups_far behind texts others [] [] begins are = tt
groups_far behind texts others (g ∷ gs) (k ∷ ks) begins are = (begins_far g.behind behind texts others are.0 begins, are.1, are.2)
groups_far behind texts others [] (k ∷ ks) begins are = are
groups_far behind texts others (g ∷ gs) [] begins are = are

as_many : (kept texts : List (List ℕ)) → forward kept ≡ texts → length kept ≡ length texts
as_many kept texts is = sym (length-forward kept) ∙ ap length is

-- a byte in front
pub held_byte : (read : Read) (kept : List (List ℕ)) (start byte : ℕ) (groups : List OpenGroup) → HoldsBy read kept start groups → HoldsBy (with_byte byte read) (pushed start byte kept) start groups
held_byte read kept start byte groups held =
    let others = others_of read.groups in
    let is = forward_pushed kept read.texts others start byte held.texts held.start in
    let many : length (map (λ t. byte ∷ t) read.texts) ≡ length read.texts = length-map read.texts (λ t. byte ∷ t) in
    let before : length kept ≡ length read.texts + length others = as_many kept (read.texts ++ others) held.texts ∙ length-append read.texts others in
    let after : length (pushed start byte kept) ≡ length (map (λ t. byte ∷ t) read.texts) + length others
    = as_many (pushed start byte kept) (map (λ t. byte ∷ t) read.texts ++ others) is ∙ length-append (map (λ t. byte ∷ t) read.texts) others in
    record {
      texts = is;
      start = held.start;
      some = subst (λ n. 0 < n) (sym many) held.some;
      most = omega (arith, before, after, many, held.most);
      groups = groups_with byte read.texts read.groups groups held.groups;
    }

-- the end of a group in front
pub held_close : (read : Read) (kept : List (List ℕ)) (start : ℕ) (groups : List OpenGroup) (group : OpenGroup) → HoldsBy read kept start groups
    → group.start ≡ start → group.width ≡ length kept - start → group.len ≡ last_len kept → HoldsBy (with_close read) kept start (group ∷ groups)
held_close read kept start groups group held starts wide long =
    let others = others_of read.groups in
    let all : length kept ≡ length read.texts + length others = as_many kept (read.texts ++ others) held.texts ∙ length-append read.texts others in
    record {
      texts = held.texts;
      start = held.start;
      some = held.some;
      most = held.most;
      groups = (
        begins_itself read.texts,
        record {
          start = starts ∙ held.start;
          width = wide ∙ omega (arith, all, held.start);
          some = held.some;
          len = long ∙ last_first kept (omega (arith, all, held.some)) ∙ ap (λ (l : List (List ℕ)). length (get_or l 0 [])) held.texts ∙ ap length (get_or_append_left read.texts others [] 0 held.some);
        },
        held.groups,
      );
    }

-- the beginning of a group in front
opened : (texts : List (List ℕ)) (open_groups : List Group) (kept : List (List ℕ)) (group : OpenGroup) (groups : List OpenGroup) → forward kept ≡ texts ++ others_of open_groups → 0 < length texts → length kept ≤ 1024
    → AreGroups texts open_groups (group ∷ groups) → HoldsBy (with_item Open (record { texts = texts; groups = open_groups })) kept group.start groups
opened texts [] kept group groups is some most are = absurd are
opened texts (g ∷ gs) kept group groups is some most are = record {
  texts = is ∙ sym (append_assoc texts g.others (others_of gs));
  start = are.1.start;
  some = omega (arith, some, length-append texts g.others);
  most = most;
  groups = groups_far g.behind texts g.others gs groups are.0 are.2;
}

pub held_open : (read : Read) (kept : List (List ℕ)) (start : ℕ) (group : OpenGroup) (groups : List OpenGroup) → HoldsBy read kept start (group ∷ groups) → HoldsBy (with_item Open read) kept group.start groups
held_open read kept start group groups held = opened read.texts read.groups kept group groups held.texts held.some held.most held.groups

-- a comma in front, in a group
cut_length : (kept behind rest others : List (List ℕ)) (front : List ℕ) (len : ℕ) → forward kept ≡ (map (λ t. front ++ t) behind ++ rest) ++ others → 0 < length kept → 0 < length behind
    → len ≡ length (get_or behind 0 []) → last_len kept - len ≡ length front
cut_length kept [] rest others front len is full some long = absurd (omega (arith, some))
cut_length kept (b ∷ bs) rest others front len is full some long =
    let last : last_len kept ≡ length (front ++ b) = last_first kept full ∙ ap (λ (l : List (List ℕ)). length (get_or l 0 [])) is in
    omega (arith, last, long, length-append front b)

separated : (texts : List (List ℕ)) (open_groups : List Group) (kept : List (List ℕ)) (group : OpenGroup) (groups : List OpenGroup) → forward kept ≡ texts ++ others_of open_groups → 0 < length texts
    → AreGroups texts open_groups (group ∷ groups) → group.width ≤ 1024 - length kept → length kept ≤ 1024
    → HoldsBy (with_item Comma (record { texts = texts; groups = open_groups })) (copied group.width (last_len kept - group.len) kept) (length kept) (group ∷ groups)
separated texts [] kept group groups is some are fits most = absurd are
separated texts (g ∷ gs) kept group groups is some are fits most =
    let begins = are.0 in
    let others = g.others ++ others_of gs in
    let starts : forward kept ≡ (map (λ t. begins.front ++ t) g.behind ++ begins.rest) ++ others = is ∙ ap (λ l. l ++ others) begins.is in
    let all : length kept ≡ length texts + length others = as_many kept (texts ++ others) is ∙ length-append texts others in
    let cut = cut_length kept g.behind begins.rest others begins.front group.len starts (omega (arith, all, some)) are.1.some are.1.len in
    let new = forward_copied kept g.behind begins.rest others begins.front group.width (last_len kept - group.len) starts are.1.width cut in
    let more : length (copied group.width (last_len kept - group.len) kept) ≡ length g.behind + length kept
    = as_many (copied group.width (last_len kept - group.len) kept) (g.behind ++ forward kept) new ∙ length-append g.behind (forward kept) ∙ ap (λ n. length g.behind + n) (length-forward kept) in
    record {
      texts = new ∙ ap (λ l. g.behind ++ l) (is ∙ sym (append_assoc texts g.others (others_of gs)));
      start = as_many kept ((texts ++ g.others) ++ others_of gs) (is ∙ sym (append_assoc texts g.others (others_of gs)));
      some = are.1.some;
      most = omega (arith, more, fits, most, are.1.width);
      groups = (begins_itself g.behind, record { start = are.1.start; width = are.1.width; some = are.1.some; len = are.1.len }, are.2);
    }

pub held_comma : (read : Read) (kept : List (List ℕ)) (start : ℕ) (group : OpenGroup) (groups : List OpenGroup) → HoldsBy read kept start (group ∷ groups) → group.width ≤ 1024 - length kept
    → HoldsBy (with_item Comma read) (copied group.width (last_len kept - group.len) kept) (length kept) (group ∷ groups)
held_comma read kept start group groups held fits = separated read.texts read.groups kept group groups held.texts held.some held.groups fits held.most

-- the first group, by the first element
pub first_some : (groups : List OpenGroup) (group : OpenGroup) → slice_get groups 0 ≡ Some group → (rest : List OpenGroup) × (groups ≡ group ∷ rest)
first_some [] group is = absurd (cc)
first_some (g ∷ gs) group is = (gs, let same : g ≡ group = cc is in ap (λ (x : OpenGroup). x ∷ gs) same)

-- the number of texts
pub kept_count : {A : Type 0} (texts : Vec (Vec ℕ A) A) → length (bytes_of texts.items) ≡ texts.len
kept_count {A} texts = length-map texts.items (λ (t : Vec ℕ A). t.items) ∙ sym texts.ok.0
