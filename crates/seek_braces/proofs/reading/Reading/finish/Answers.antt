use Rattle.std.proofs.Common.{◌∙◌, ◌++◌, ◌∷◌, Global, List, [], ap, append_assoc, map, reverse, string_bytes, sym}
use Rattle.std.specs.Str.{IsUtf8}
use Rattle.std.specs.declared.string.String.{String}
use Rattle.std.proofs.lemmas.List.{map-append}
use Rattle.std.proofs.lemmas.List.Elements.{All-head, All-rest, All-same}
use Rattle.seek_braces.specs.Reading.{bytes_of, forward}
use Rattle.seek_braces.proofs.ListFacts.{popped}
use Rattle.seek_braces.proofs.reading.Reading.finish.Goals as goal

pub text_of-requires : goal.text_of-requires
text_of-requires c =
    let first = popped c.loop-text.reversed.items c.pop.new.self.items c.in-Some.text c.in-Some.ensures.items in
    let rest = forward (bytes_of c.pop.new.self.items) in
    All-head IsUtf8 (reverse c.in-Some.text.items) rest (All-same IsUtf8 (reverse c.in-Some.text.items ∷ rest) (forward (bytes_of c.loop-text.reversed.items)) (sym first) c.loop-text.invariant.are)

pub loop-text-preserved : goal.loop-text-preserved
loop-text-preserved c =
    let first = popped c.loop-text.reversed.items c.pop.new.self.items c.in-Some.text c.in-Some.ensures.items in
    let rest = forward (bytes_of c.pop.new.self.items) in
    let before = map (string_bytes {Z = Global}) c.loop-text.texts.items in
    record {
      same = ap (λ (l : List (String Global)). map string_bytes l ++ rest) c.in_ok-push.ensures.items
          ∙ ap (λ l. l ++ rest) (map-append (string_bytes {Z = Global}) c.loop-text.texts.items (c.text_of.result ∷ []))
          ∙ append_assoc before (string_bytes c.text_of.result ∷ []) rest
          ∙ ap (λ l. before ++ l) (ap (λ t. t ∷ rest) c.text_of.ensures ∙ sym first)
          ∙ c.loop-text.invariant.same;
      are = All-rest IsUtf8 (reverse c.in-Some.text.items) rest (forward (bytes_of c.loop-text.reversed.items)) first c.loop-text.invariant.are;
    }
