use Rattle.std.proofs.Common.{◌++◌, Ok, ap, subst, sym, ◌∙◌, refl}
use Rattle.jwalk_real_fs.specs.Listing.{IsAsked}
use Rattle.jwalk_real_fs.proofs.ListingFacts.{told_is, told_not, adds_one_if, takes_if}
use Rattle.jwalk_real_fs.proofs.listing.Listing.add.Goals as goal

pub returns-in_default : goal.returns-in_default
returns-in_default g c =
    let took = g.K.Sink.Took in
    let asked = IsAsked g.R.DiskCalls c.args.rt.now c.args.dir.now in
    let result = c.take_bad_name.result in
    adds_one_if asked took result c.args.name.now c.args.sink.now c.take_bad_name.new.self _ (sym (told_not c.args.name.now c.in_default.ensures.cases.0)) tt (takes_if took result _ c.args.sink.now c.take_bad_name.new.self c.take_bad_name.ensures)

pub returns : goal.returns
returns g c =
    let took = g.K.Sink.Took in
    let asked = IsAsked g.R.DiskCalls c.args.rt.now c.args.dir.now in
    let begun = c.in_ok-push_str.ensures.bytes ∙ ap (λ l. l ++ c.args.dir.now) c.clear.ensures.bytes in
    let path = c.as_str.ensures.value ∙ c.in_ok-push_str-2.ensures.bytes ∙ ap (λ l. l ++ c.in-Ok.name.now) begun in
    let result = c.take_seen.result in
    adds_one_if asked took result c.args.name.now c.args.sink.now c.take_seen.new.self _ (ap Ok c.in-Ok.ensures.cases.0 ∙ sym (told_is c.args.name.now c.in-Ok.ensures.cases.1)) (c.symlink_metadata.result, c.in_ok-seen.seen, subst (λ p. g.R.DiskCalls.symlink_metadata_gives c.args.rt.now p c.symlink_metadata.result) path c.symlink_metadata.ensures, c.in_ok-seen.ensures.same, refl) (takes_if took result _ c.args.sink.now c.take_seen.new.self c.take_seen.ensures)
