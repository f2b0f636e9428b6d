use Rattle.std.proofs.Common.{◌≡◌, ◌-◌, map, drop}
use Rattle.git_config.specs.Readings.{setting_value}
use Rattle.user_excludes.specs.Home.{home_value}
use Rattle.user_excludes.specs.Named.{with_file, with_settings}
use Rattle.user_excludes.specs.NamedViews.{named_value}
use Rattle.user_excludes.proofs.named.+with_file.Given as goal

-- what is known behind all settings is what is known behind the rest of them
abbrev pub invariant-loop-setting : goal.invariant-loop-setting
invariant-loop-setting g l =
    g.X.Texts.IsFixed l.texts
    → with_settings (with_file (g.X.Texts.functions l.texts) (home_value l.home) (l.left - 1)) (home_value l.home) l.file (map setting_value l.setting-items) (named_value l.fn.named)
    ≡ with_settings (with_file (g.X.Texts.functions l.texts) (home_value l.home) (l.left - 1)) (home_value l.home) l.file (map setting_value (drop l.setting-index l.setting-items)) (named_value l.named)

-- fewer files may include one another
abbrev pub decreases-with_file : goal.decreases-with_file
decreases-with_file g l = l.left
