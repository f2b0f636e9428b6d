use Rattle.std.proofs.Common.{◌++◌, encode_utf8, encode_utf8_all, sym, ap, ◌∙◌, append_assoc, append-nil, rules}
use Rattle.std.proofs.Output.{has_written_append}
use Rattle.jwalk_job.proofs.EscapeFacts.{first_left, none_left}
use Rattle.jwalk_job.proofs.error.text.write_escaped.Goals as goal

pub loop-byte-preserved : goal.loop-byte-preserved
loop-byte-preserved g c = λ plain.
    let now = c.loop-byte.invariant plain in
    let x = c.in-Some.byte in (
      now.0 ++ encode_utf8 x,
      has_written_append _ _ _ _ _ _ now.1 (search rules),
      append_assoc now.0 (encode_utf8 x) _ ∙ ap (λ l. now.0 ++ encode_utf8_all l) (sym (first_left c.loop-byte.byte-iterator c.next.new.self x c.in-Some.ensures.steps)) ∙ now.2,
    )
