-- The options of subtotals.
use Rattle.std.specs.Prelude.{◌^◌, ◌-◌, false}
use Rattle.jwalk_subtotals.specs.declared.options.SubtotalOptions.{SubtotalOptions}

-- sizes by blocks, each file once, and the directories of all depths
abbrev pub defaults : SubtotalOptions
defaults = record { apparent = false; each_name = false; all = false; max_depth = 2 ^ 64 - 1 }
