use Rattle.std.proofs.Common.{◌≡◌, ◌∙◌, true, false, inr, sym}
use Rattle.tree_crew.proofs.ArrivalFacts.{made_of}
use Rattle.jwalk_readings.proofs.arrival.arrive.Goals as goal

pub returns-else-fits : goal.returns-else-fits
returns-else-fits g c =
    let came = rw c.in-Entered.is at c.arrive.ensures in
    inr (record {
      item = c.in-Entered.item;
      hands_out = came.0;
      made = made_of c.in-Entered.item.value.outcome came.1;
      other = λ fits. absurd (let no : false ≡ true = sym c.if-fits.false ∙ c.fits.ensures.1 fits in cc);
    })
