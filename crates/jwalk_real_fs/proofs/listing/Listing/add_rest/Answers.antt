use Rattle.std.proofs.Common.{◌++◌, [], arith}
use Rattle.jwalk_real_fs.specs.Listing.{IsAsked}
use Rattle.jwalk_real_fs.proofs.ListingFacts.{each_none, each_on}
use Rattle.jwalk_real_fs.proofs.ReadFacts.{begins, ends_if, reads_last, reads_on}
use Rattle.jwalk_real_fs.proofs.listing.Listing.add_rest.Goals as goal

pub loop-init : goal.loop-init
loop-init g c = ([], begins (g.R.Dir.Read.remaining c.args.names.now), each_none (IsAsked g.R.DiskCalls c.args.rt.now c.args.dir.now) g.K.Sink.Took c.args.sink.now)

pub returns-then-not-branch : goal.returns-then-not-branch
returns-then-not-branch g c =
    let so_far = c.loop.invariant in
    let read = c.in_ok-add_read.ensures in (
      so_far.0 ++ read.0,
      reads_last (g.R.Dir.Read.remaining c.args.names.now) (g.R.Dir.Read.remaining c.loop.names) (g.R.Dir.Read.remaining c.read-read.new.self) c.read-read.result c.read-read.new.buf so_far.0 read.0 _ (omega (arith, c.read-read.auto.buf)) so_far.1 c.read-read.ensures.bytes read.1 c.if-not-branch.true,
      each_on (IsAsked g.R.DiskCalls c.args.rt.now c.args.dir.now) g.K.Sink.Took so_far.0 read.0 c.args.sink.now c.loop.sink c.add_read.new.sink so_far.2 read.2,
    )

pub loop-preserved : goal.loop-preserved
loop-preserved g c =
    let so_far = c.loop.invariant in
    let read = c.in_ok-add_read.ensures in (
      so_far.0 ++ read.0,
      reads_on (g.R.Dir.Read.remaining c.args.names.now) (g.R.Dir.Read.remaining c.loop.names) (g.R.Dir.Read.remaining c.read-read.new.self) c.read-read.result c.read-read.new.buf so_far.0 read.0 _ so_far.1 c.read-read.ensures.bytes read.1 c.if-not-branch.false,
      each_on (IsAsked g.R.DiskCalls c.args.rt.now c.args.dir.now) g.K.Sink.Took so_far.0 read.0 c.args.sink.now c.loop.sink c.add_read.new.sink so_far.2 read.2,
    )

pub returns : goal.returns
returns g c =
    let so_far = c.loop.invariant in
    ends_if (IsAsked g.R.DiskCalls c.args.rt.now c.args.dir.now) g.K.Sink.Took c.end.result (g.R.Dir.Read.remaining c.args.names.now) (g.R.Dir.Read.remaining c.loop.names) so_far.0 _ c.args.sink.now c.loop.sink c.end.new.sink so_far.1 so_far.2 tt c.end.ensures
