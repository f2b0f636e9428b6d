use Rattle.std.proofs.Common.{◌≡◌, ◌++◌, map}
use Rattle.std.specs.Prelude.{fold}
use Rattle.jwalk.specs.jwalk_model.Entry.{AtDepth}
use Rattle.jwalk.specs.jwalk_job.Entry.{item}
use Rattle.jwalk.specs.jwalk_job.Given.{AddsErrors}
use Rattle.jwalk_ignore.specs.Callback.Settings.{settings_value}
use Rattle.jwalk_ignore.specs.Callback.IgnoreFiles.{with_root_item}
use Rattle.jwalk_ignore.specs.Callback.Sources.{made_value}
use Rattle.jwalk_ignore.proofs.callback.rules_reader.RulesReader.add_roots.Given as goal

-- what is made so far is made of what was gone over
abbrev pub invariant-loop-found : goal.invariant-loop-found
invariant-loop-found g l = record {
  value : g.T.Texts.IsFixed l.self.texts → made_value l.made ≡ fold (with_root_item (settings_value l.self.settings) (g.T.Texts.functions l.self.texts)) (made_value l.fn.made) (map item l.yielded);
  depth : (depth : _) → AtDepth depth (map item l.yielded) → AtDepth depth (map item l.fn.made.list.items) → AtDepth depth (map item l.made.list.items);
  errors : AddsErrors (map item l.fn.made.list.items ++ map item l.yielded) (map item l.made.list.items);
}
