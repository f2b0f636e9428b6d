use Rattle.std.proofs.Common.{◌≡◌, ◌+◌, ◌<◌, ◌++◌, ◌∷◌, [], ◌∙◌, ap, sym, map, take, length, get_or, arith, refl}
use Rattle.std.proofs.lemmas.List.{map-append, take_more, take_all}
use Rattle.example_document.specs.declared.document.Line.{Line}
use Rattle.example_document.specs.declared.document.Line.TheVariants.{Text}
use Rattle.example_document.specs.Document.{to_read}
use Rattle.example_document.proofs.line_to_read.lines_to_read.Goals as goal

pub loop-line-init : goal.loop-line-init
loop-line-init g c = rw c.in_ok-to_read.ensures.items (record { items = refl; count = refl; room = omega (arith, c.in_ok-to_read.ensures.capacity) })

pub push_reserved-requires : goal.push_reserved-requires
push_reserved-requires g c = omega (arith, c.loop-line.to_read.ok.0, c.loop-line.invariant.count, c.loop-line.invariant.room)

pub loop-line-preserved : goal.loop-line-preserved
loop-line-preserved g c =
    let line = to_read c.args.levels in
    let xs = c.args.lines.now in
    let i = c.loop-line.line-index in
    let none : Line = Text (record { ref_ptr = (0, 0); now = [] }) in
    let lt : i < length xs = omega arith in
    let gone : map line (take (i + 1) xs) ≡ map line (take i xs) ++ line (get_or xs i none) ∷ [] = ap (map line) (take_more xs i none lt) ∙ map-append line (take i xs) (get_or xs i none ∷ []) in
    let of : c.of.result ≡ line (get_or xs i none) = c.of.ensures in
    record {
      items = c.push_reserved.ensures.items
          ∙ ap (λ l. l ++ c.of.result ∷ []) c.loop-line.invariant.items
          ∙ ap (λ l. map line (take i xs) ++ l ∷ []) of
          ∙ sym gone;
      count = omega (arith, c.push_reserved.ensures.len, c.loop-line.invariant.count);
      room = omega (arith, c.push_reserved.ensures.capacity, c.loop-line.invariant.room);
    }

pub returns : goal.returns
returns g c =
    let xs = c.args.lines.now in
    let all : take c.loop-line.line-index xs ≡ xs = take_all c.loop-line.line-index xs (omega arith) in
    c.loop-line.invariant.items ∙ ap (map (to_read c.args.levels)) all
