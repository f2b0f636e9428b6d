use Rattle.std.proofs.Common.{◌∙◌, ap, sym}
use Rattle.std.proofs.lemmas.Str.{IsUtf8-string_bytes}
use Rattle.jwalk_indexed_fs.proofs.NamesFacts.{cut_more, names_more}
use Rattle.jwalk_indexed_fs.proofs.names.Names.push.Goals as goal

pub invariant_of-self-2 : goal.invariant_of-self-2
invariant_of-self-2 c =
    rw (c.in_ok-push_str.ensures.bytes, c.in_ok-push.ensures.items, c.in_ok-reserve.ensures.items)
    (cut_more _ c.self.inside.pieces.items c.args.name.now c.args.file_type (IsUtf8-string_bytes c.self.inside.text) c.utf8.name c.self.invariant)

pub returns : goal.returns
returns c = record {
  added = rw (c.in_ok-push_str.ensures.bytes, c.in_ok-push.ensures.items, c.in_ok-reserve.ensures.items, ← c.self.view_is)
      (names_more _ c.self.inside.pieces.items c.args.name.now c.args.file_type c.self.invariant);
  unchanged = tt;
}
