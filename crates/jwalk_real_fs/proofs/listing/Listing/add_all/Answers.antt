use Rattle.std.proofs.Common.{◌++◌, [], ◌∷◌, sym, ◌∙◌, refl}
use Rattle.jwalk_real_fs.specs.Listing.{IsAsked}
use Rattle.jwalk_real_fs.proofs.FaultFacts.{on_ok_at_err}
use Rattle.jwalk_real_fs.proofs.ListingFacts.{adds_on, each_none, gone_child, gone_other}
use Rattle.jwalk_real_fs.proofs.listing.Listing.add_all.Goals as goal

pub loop-left-init : goal.loop-left-init
loop-left-init g c = ([], (([], refl, each_none (IsAsked g.R.DiskCalls c.args.rt.now c.args.dir.now) g.K.Sink.Took c.args.sink.now), refl))

pub loop-left-preserved-in_ok-add : goal.loop-left-preserved-in_ok-add
loop-left-preserved-in_ok-add g c =
    let so_far = c.loop-left.invariant in
    let name = c.split_name.result.0.now in
    let test = sym c.is_child.ensures ∙ c.if-is_child.true in (
      so_far.0 ++ name ∷ [],
      (
        adds_on (IsAsked g.R.DiskCalls c.args.rt.now c.args.dir.now) g.K.Sink.Took so_far.0 (name ∷ []) c.args.sink.now c.loop-left.sink c.add.new.sink so_far.1.0 c.in_ok-add.ensures,
        gone_child so_far.0 c.args.names.now c.loop-left.left.now name c.split_name.result.1.now so_far.1.1 c.split_name.ensures.name c.split_name.ensures.rest test,
      ),
    )

pub loop-left-preserved : goal.loop-left-preserved
loop-left-preserved g c =
    let so_far = c.loop-left.invariant in
    let test = sym c.is_child.ensures ∙ c.if-is_child.false in (
      so_far.0,
      (
        so_far.1.0,
        gone_other so_far.0 c.args.names.now c.loop-left.left.now c.split_name.result.0.now c.split_name.result.1.now so_far.1.1 c.split_name.ensures.name c.split_name.ensures.rest test,
      ),
    )

pub returns-in_err-add : goal.returns-in_err-add
returns-in_err-add g c = on_ok_at_err c.from_residual.result _ _ c.from_residual.ensures.1
