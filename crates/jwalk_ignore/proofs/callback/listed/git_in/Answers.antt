use Rattle.std.proofs.Common.{◌≡◌, IfOk, subst}
use Rattle.std.specs.Prelude.{option_and_then}
use Rattle.jwalk_ignore.specs.Callback.IgnoreFiles.{git_by}
use Rattle.jwalk_ignore.proofs.callback.listed.git_in.Goals as goal

pub returns-in-Some : goal.returns-in-Some
returns-in-Some g c = λ fixed.
    let asked = git_by (g.T.Texts.functions c.args.texts.now) c.args.directory.now in
    subst (λ found. IfOk c.git_by.result (λ git. git ≡ option_and_then asked found)) c.in-Some.ensures (c.git_by.ensures fixed)
