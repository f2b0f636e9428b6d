use denote.Shadow.{shadow}
use denote.Text.{Utf8}
use Rattle.std.proofs.Common.{◌≡◌, ◌++◌, false, length, map}
use Rattle.jwalk_ignore_rules.specs.Rules.Folder.{folder_value, folders_above}
use Rattle.jwalk_ignore_rules.proofs.rules.folder.folders_above.Given as goal

-- the folders that were found, and those above what is left, are all
abbrev pub invariant-folders : goal.invariant-folders
invariant-folders g l = record {
  text : shadow (Utf8 l.rest);
  all : g.T.Texts.IsFixed l.texts → folders_above (g.T.Texts.functions l.texts) false (length l.path) l.path ≡ map folder_value l.folders.items ++ folders_above (g.T.Texts.functions l.texts) l.is_outer l.left l.rest;
}

abbrev pub decreases-folders : goal.decreases-folders
decreases-folders g l = l.left
