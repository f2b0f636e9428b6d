use Rattle.std.proofs.Common.{◌∙◌, ap}
use Rattle.jwalk_subtotals.specs.Counted.{is_among}
use Rattle.jwalk_subtotals.specs.Files.{files_of}
use Rattle.tally_run.proofs.WalkFacts.{answers_counted}
use Rattle.tally_run.proofs.counting.count_answers.Goals as goal

pub returns : goal.returns
returns g c =
    let made = c.subtotals_beside-subtotals.ensures in
    answers_counted g.I.Iterator.next_gives c.args.answers c.args.asked.now c.args.root.now (files_of c.args.files) _ _ _ _ _ c.subtotals_beside-subtotals.result c.take_all.new.subtotals _
    made.fresh made.answers (made.options ∙ c.options_of.ensures) c.of.ensures c.in_ok-clean.ensures
    (λ i. ap (λ l. is_among l i) c.take_files.ensures.taken)
