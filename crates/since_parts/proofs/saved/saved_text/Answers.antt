use Rattle.std.proofs.Common.{◌∙◌, ap, map, rules, string_bytes}
use Rattle.since_parts.proofs.saved.saved_text.Goals as goal

pub returns-in-Ok : goal.returns-in-Ok
returns-in-Ok c = record {
  content = _;
  is_one = c.in-Ok.ensures.is;
  below = search rules;
  words = c.in_ok-words-2.ensures ∙ ap (map string_bytes) c.deref.ensures.value ∙ c.in_ok-words.ensures;
  has = c.in-Ok.ensures.text;
  keeps = c.in_ok-keep_all.ensures c.if-not-branch.false;
}
