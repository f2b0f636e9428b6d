use Rattle.std.proofs.Common.{◌∙◌, ap, ap₂, map}
use Rattle.seek_found.specs.NamePattern.{takes_name}
use Rattle.seek_found.specs.Sought.{takes_all}
use Rattle.seek_found.proofs.sought_test.SoughtTest.new.Goals as goal

pub returns : goal.returns
returns c = ap₂ takes_all c.in_ok-new.ensures (c.in_ok-tests_of.ensures ∙ ap (map takes_name) c.as_slice.ensures.value)
