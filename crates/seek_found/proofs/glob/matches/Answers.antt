use Rattle.jwalk_ignore_rules.specs.Pattern.{pattern_value}
use Rattle.seek_found.proofs.GlobFacts.{matches_computed}
use Rattle.seek_found.proofs.glob.matches.Goals as goal

pub returns : goal.returns
returns c = matches_computed (pattern_value c.args.pattern.now) c.args.path.now c.args.is_dir c.matches.result c.matches.ensures
