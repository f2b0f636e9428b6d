use Rattle.std.proofs.Common.{◌≡◌, ◌∙◌, false, true, is_some, not, ap, map, sym}
use Rattle.std.specs.List.{filter}
use Rattle.jwalk.specs.jwalk_model.ReadDir.{list_depth}
use Rattle.jwalk.specs.jwalk_job.Entry.{item}
use Rattle.jwalk_ignore.specs.Callback.Excluding.{excluded_of, is_included}
use Rattle.jwalk_ignore.proofs.ExcludingFacts.{depths_kept, excludes_nothing, excludes_rest, processed_by}
use Rattle.jwalk_ignore.proofs.ReaderFacts.{none_given}
use Rattle.jwalk.proofs.GivenFacts.{adds_none}
use Rattle.jwalk_ignore.proofs.callback.excluding.ExcludingProcessReadDir.process.Goals as goal

pub returns-then-not-self-clause-made : goal.returns-then-not-self-clause-made
returns-then-not-self-clause-made g c = λ given makes.
    let it = excluded_of c.args.self.now in
    processed_by given it makes c.args.depth c.args.path.now _ _ (map item c.args.list.now.items) _
    (excludes_nothing it (none_given c.args.self.now.rules (c.is_none-2.ensures ∙ ap not c.if-is_none-2.true)) c.if-not-self.true
    c.args.depth c.args.path.now c.args._state.now (map item c.args.list.now.items))

pub returns-clause-depths : goal.returns-clause-depths
returns-clause-depths g c =
    let test = is_included (excluded_of c.args.self.now) c.in_ok-place.place.items in
    let left = c.in_ok-list.ensures ∙ ap (λ l. filter test (map item l.items)) c.replace-items.ensures.value in
    depths_kept (list_depth c.args.depth) test (map item c.args.list.now.items) _ left c.requires.depths

pub returns-clause-made : goal.returns-clause-made
returns-clause-made g c = λ given makes.
    let it = excluded_of c.args.self.now in
    let list = map item c.args.list.now.items in
    let left = c.in_ok-list.ensures ∙ ap (λ l. filter (is_included it c.in_ok-place.place.items) (map item l.items)) c.replace-items.ensures.value
    ∙ ap (λ p. filter (is_included it p) list) c.in_ok-place.ensures in
    processed_by given it makes c.args.depth c.args.path.now _ _ list _
    (excludes_rest it c.args.depth c.args.path.now c.args._state.now list _ (c.is_none.ensures ∙ ap not c.if-is_none.false) left)

pub returns-then-is_none-clause-root : goal.returns-then-is_none-clause-root
returns-then-is_none-clause-root g c = λ keeps at. adds_none (map item c.args.list.now.items)

pub returns-then-not-self-clause-root : goal.returns-then-not-self-clause-root
returns-then-not-self-clause-root g c = λ keeps at. adds_none (map item c.args.list.now.items)

pub returns-clause-root : goal.returns-clause-root
returns-clause-root g c = λ keeps at.
    let no : false ≡ true = sym (ap is_some at) ∙ (c.is_none.ensures ∙ ap not c.if-is_none.false) in
    absurd (cc)
