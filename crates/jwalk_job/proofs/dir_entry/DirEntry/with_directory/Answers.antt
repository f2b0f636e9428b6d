use Rattle.std.proofs.Common.{refl, sym, ap}
use Rattle.jwalk_job.specs.Entry.{entry}
use Rattle.jwalk_job.proofs.dir_entry.DirEntry.with_directory.Goals as goal

pub returns-then-is_dir : goal.returns-then-is_dir
returns-then-is_dir g c = rw (sym c.if-is_dir.ensures) (ap (λ k. record (entry c.args.self) { read_children = k }) c.new.ensures)

pub returns-else-is_dir : goal.returns-else-is_dir
returns-else-is_dir g c = rw (sym c.if-is_dir.ensures) refl
