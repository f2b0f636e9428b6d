use Rattle.jwalk_model.proofs.PathSame.{same_path-first, same_path-second}
use Rattle.jwalk_fs.proofs.path_text.same_path.Goals as goal

pub returns-then-starts_with : goal.returns-then-starts_with
returns-then-starts_with c =
    same_path-second c.starts_with.result c.starts_with-then-starts_with.result c.args.a.now c.args.b.now (rw (← c.new.ensures) c.starts_with.ensures) (rw (← c.new-then-starts_with.ensures) c.starts_with-then-starts_with.ensures) c.if-starts_with.true

pub returns-else-starts_with : goal.returns-else-starts_with
returns-else-starts_with c = same_path-first c.starts_with.result c.args.a.now c.args.b.now (rw (← c.new.ensures) c.starts_with.ensures) c.if-starts_with.false
