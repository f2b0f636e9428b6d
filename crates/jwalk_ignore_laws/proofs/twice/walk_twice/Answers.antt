use Rattle.std.proofs.Common.{◌+◌, ◌<◌, subst, sym}
use Rattle.std.specs.Prelude.{All, string_bytes}
use Rattle.jwalk_model.specs.Tree.{functions_of}
use Rattle.jwalk.specs.jwalk_memory_fs.MemoryFs.{tree_of}
use Rattle.jwalk_ignore.specs.Callback.Given.{first_settings}
use Rattle.jwalk_ignore.specs.Callback.IgnoreFiles.{depth_of}
use Rattle.jwalk_ignore.specs.Rules.MemoryTexts.{texts_of}
use Rattle.jwalk_ignore_laws.specs.Walks.{AreTheSameBelow, IsIn}
use Rattle.jwalk_ignore_laws.proofs.WalkFacts.{depths_may_be_the_same}
use Rattle.jwalk_ignore_laws.specs.Twice.{first_options}
use Rattle.jwalk_ignore_laws.proofs.twice.walk_twice.Goals as goal

pub returns : goal.returns
returns c above_known below_known starts e behind is_in shallow =
    let texts = texts_of c.args.texts.now in
    let fs = functions_of (tree_of c.args.fs.now) in
    let directory = string_bytes c.args.directory in
    let above = c.in_ok-above.ensures above_known in
    let below = c.in_ok-below.ensures below_known in
    subst (λ list. AreTheSameBelow e behind list) (sym below)
    (depths_may_be_the_same first_settings texts fs first_options (string_bytes c.args.root) directory e behind starts
    (subst (λ list. IsIn list directory e behind) above is_in)
    (subst (λ list. All (λ x. depth_of x + e.depth < first_options.max_depth) list) below shallow))
