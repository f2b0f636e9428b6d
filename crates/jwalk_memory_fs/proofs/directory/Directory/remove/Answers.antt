use Rattle.std.proofs.Common.{sym, ap, ◌∙◌, string_bytes}
use Rattle.std.specs.Str.{bytes_eq}
use Rattle.std.specs.Map.{lookup}
use Rattle.std.specs.Option.{option_map}
use Rattle.jwalk_memory_fs.specs.Child.{child_seen}
use Rattle.jwalk_memory_fs.proofs.DirectoryLemmas.{child_named-named, made, named-remove, named}
use Rattle.jwalk_memory_fs.proofs.directory.Directory.remove.Goals as goal

pub returns-clause-value : goal.returns-clause-value
returns-clause-value g c = ap (option_map child_seen) c.shift_remove.ensures.value ∙ sym (child_named-named c.args.name.now c.args.self.now.children.entries)

pub returns-clause-others : goal.returns-clause-others
returns-clause-others g c =
    ap (λ es. made c.args.self.now.parent c.args.self.now.denied (named es)) c.shift_remove.ensures.entries
    ∙ ap (made c.args.self.now.parent c.args.self.now.denied) (named-remove c.args.name.now c.args.self.now.children.entries
    (sym (ap (λ es. lookup (λ k. bytes_eq c.args.name.now (string_bytes k)) es) c.shift_remove.ensures.entries) ∙ c.shift_remove.ensures.updates.1))
