use Rattle.std.proofs.Common.{◌≡◌, ◌∙◌, ◌<◌, List, Some, ℕ, ap, reverse, subst}
use Rattle.std.specs.Str.{IsUtf8}
use Rattle.std.proofs.lemmas.List.Elements.{All-same}
use Rattle.seek_braces.specs.Expanded.{expanded, read_of}
use Rattle.seek_braces.specs.Item.{items_in}
use Rattle.seek_braces.specs.Reading.{Holds, bytes_of, forward, size}
use Rattle.seek_braces.specs.declared.item.Item.{Item}
use Rattle.seek_braces.specs.declared.place.Place.TheVariants.{Outside}
use Rattle.seek_braces.proofs.SizeFacts.{texts_fit, texts_held, too_many_texts}
use Rattle.seek_braces.proofs.Utf8Facts.{expanded_texts}
use Rattle.seek_braces.proofs.expansions.Goals as goal

pub finish-requires : goal.finish-requires
finish-requires c =
    let reading = c.in-Some.reading in
    let all : c.as_slice.result.now ≡ items_in Outside 0 c.args.text.now = c.as_slice.ensures.value ∙ c.in_ok-items.ensures ∙ ap (items_in Outside 0) c.as_bytes.ensures.value in
    let held : Holds (read_of (items_in Outside 0 c.args.text.now)) reading
    = subst (λ (items : List Item). Holds (read_of items) reading) all (rw c.in-Some.is at c.in_ok-reading.ensures) in
    All-same IsUtf8 (forward (bytes_of reading.texts.items)) (expanded c.args.text.now)
    (texts_held c.args.text.now (bytes_of reading.texts.items) reading.start (reverse reading.groups.items) held) (expanded_texts c.args.text.now c.utf8.text)

pub returns-in-Some : goal.returns-in-Some
returns-in-Some c =
    let reading = c.in-Some.reading in
    let all : c.as_slice.result.now ≡ items_in Outside 0 c.args.text.now = c.as_slice.ensures.value ∙ c.in_ok-items.ensures ∙ ap (items_in Outside 0) c.as_bytes.ensures.value in
    let held : Holds (read_of (items_in Outside 0 c.args.text.now)) reading
    = subst (λ (items : List Item). Holds (read_of items) reading) all (rw c.in-Some.is at c.in_ok-reading.ensures) in
    ap (λ (texts : List (List ℕ)). Some texts) c.in_ok-finish-in-Some.ensures
    ∙ texts_fit c.args.text.now (bytes_of reading.texts.items) reading.start (reverse reading.groups.items) held

pub returns : goal.returns
returns c =
    let all : c.as_slice.result.now ≡ items_in Outside 0 c.args.text.now = c.as_slice.ensures.value ∙ c.in_ok-items.ensures ∙ ap (items_in Outside 0) c.as_bytes.ensures.value in
    too_many_texts c.args.text.now (subst (λ (items : List Item). 1024 < size (read_of items)) all (rw c.in-None.is at c.in_ok-reading.ensures))
