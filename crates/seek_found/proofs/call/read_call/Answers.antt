use Rattle.std.proofs.Common.{◌∙◌, map, string_bytes, sym}
use Rattle.seek_found.proofs.EndFacts.{never_zero, refused_ends, rejected_ends, text_asked}
use Rattle.seek_found.proofs.call.read_call.Goals as goal

pub returns-in-Err-clause-ended : goal.returns-in-Err-clause-ended
returns-in-Err-clause-ended g c = record {
  ends = refused_ends (map string_bytes c.args.words.now) c.in-Err.refusal c.refuse_words.result c.in-Err.ensures.refused c.refuse_words.ensures.refused c.refuse_words.ensures.text;
  text = text_asked (map string_bytes c.args.words.now) c.in-Err.refusal c.refuse_words.result c.in-Err.ensures.refused c.refuse_words.ensures.refused;
}

pub returns-in-Ok-read-clause-asked : goal.returns-in-Ok-read-clause-asked
returns-in-Ok-read-clause-asked g c = (c.in-Ok.ensures.asked, c.in-Ok-read.ensures.sought)

pub returns-clause-ended : goal.returns-clause-ended
returns-clause-ended g c = record {
  ends = rejected_ends (map string_bytes c.args.words.now) c.in-Ok.asked c.in-Ok.ensures.asked c.in-Err-read.bad c.in-Err-read.ensures.rejected _ c.tell.ensures.status;
  text = λ zero. absurd (never_zero c.in-Err-read.bad (sym c.tell.ensures.status ∙ zero));
}
