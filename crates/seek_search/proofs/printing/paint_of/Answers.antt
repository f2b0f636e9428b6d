use Rattle.std.proofs.Common.{rules, ap}
use Rattle.seek_search.proofs.PaintingFacts.{colored_asked, unnot, with_colors}
use Rattle.seek_search.proofs.printing.paint_of.Goals as goal

pub returns : goal.returns
returns c = λ fs.
    colored_asked c.args.asked.now.quiet c.args.asked.now.colored _ _ (search rules) (search (rules, unnot))
    (ap (with_colors fs c.args.asked.now.follow) c.in_ok-read.ensures.palette)
