use Rattle.std.proofs.Common.{◌≡◌, [], get_or, rules, string_bytes}
use Rattle.since_parts.proofs.ChoiceFacts.{texts_same}
use Rattle.since_parts.proofs.choice.+are_texts.Goals as goal

pub returns-then-eq : goal.returns-then-eq
returns-then-eq t c = λ is.
    let same : string_bytes (get_or c.args.words.now 0 c.word-item.result) ≡ (get_or c.args.texts.now 0 (record { ref_ptr = (0, 0); now = [] })).now = search rules in
    texts_same c.args.words.now c.args.texts.now c.word-item.result (record { ref_ptr = (0, 0); now = [] }) (search rules) (search rules) same (c.are_texts.ensures is)
