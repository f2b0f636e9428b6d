use Rattle.std.proofs.Common.{ap, ◌∙◌, sym}
use Rattle.std.specs.Option.{option_map}
use Rattle.jwalk_memory_fs.specs.Child.{child_seen}
use Rattle.jwalk_memory_fs.proofs.DirectoryLemmas.{child_named-named, seen-copied}
use Rattle.jwalk_memory_fs.proofs.directory.Directory.child.Goals as goal

pub returns : goal.returns
returns g c =
    seen-copied c.get.result ∙ ap (option_map child_seen) c.get.ensures.value ∙ sym (child_named-named c.args.name.now c.args.self.now.children.entries)
