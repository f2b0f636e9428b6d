use Rattle.std.proofs.Common.{◌≡◌, ◌+◌, ◌^◌, ◌<◌, ◌∙◌, ℕ, Bool, ap, sym, true, false, [], Some, Ok, cond, map, subst, inl, inr, arith}
use Rattle.std.proofs.lemmas.Bool.{lt-leb}
use Rattle.std.proofs.lemmas.Bool.Decides.{nat_tests}
use Rattle.std.specs.Prelude.{◌↔◌, IsTrue, nat_le}
use Rattle.jwalk_model.specs.ReadDir.{Reading}
use Rattle.jwalk_model.specs.Sorting.{arranged}
use Rattle.jwalk_job.specs.Entry.{item}
use Rattle.jwalk_job.specs.ReadDirSpec.{spec}
use Rattle.jwalk_job.specs.ReadDir.{reading}
use Rattle.jwalk_job.specs.Job.{options_of, greatest_depth, processed_by, IsReadingOf}
use Rattle.jwalk_job.proofs.ReadingFacts.{goes_as_given, not_read, was_listed}
use Rattle.jwalk_job.proofs.job.Job.read_one.Goals as goal

-- a directory that is read is above the greatest depth
is_higher : {asked depth : ℕ} {reads : Bool} (greatest : ℕ) → asked ≡ depth → IsTrue reads ↔ (asked < greatest) → reads ≡ true → depth < greatest
is_higher greatest same test is = subst (λ d. d < greatest) same (test.0 is)

pub list_items-requires : goal.list_items-requires
list_items-requires g c = subst (λ d. d + 1 < 2 ^ 64) c.depth.ensures (c.reads.ensures.fits c.if-not-reads.false)

pub run_callback-requires-clause-fits : goal.run_callback-requires-clause-fits
run_callback-requires-clause-fits g c = subst (λ d. d + 1 < 2 ^ 64) c.depth.ensures (c.reads.ensures.fits c.if-not-reads.false)

-- one that isn't read is at the greatest depth or below
is_deep : {asked depth : ℕ} {reads : Bool} (greatest : ℕ) → asked ≡ depth → IsTrue reads ↔ (asked < greatest) → reads ≡ false → nat_le greatest depth ≡ true
is_deep greatest same test is = grind (arith, nat_tests)

pub returns-then-not-reads-clause-reading : goal.returns-then-not-reads-clause-reading
returns-then-not-reads-clause-reading g c =
    let deep : nat_le (greatest_depth c.args.self.now) (spec c.args.of.now).depth ≡ true = is_deep (greatest_depth c.args.self.now) c.depth.ensures c.reads.ensures.above c.if-not-reads.true in
    let made : reading c.new-then-not-reads.result ≡ record { state = c.in_ok-state.state; list = [] } = c.new-then-not-reads.ensures ∙ ap (λ l. record { state = c.in_ok-state.state; list = map item l }) c.new.ensures.items in
    subst (λ (r : Reading g.row.C-ReadDirState.Denot g.row.C-DirEntryState.Denot). IsReadingOf g.S.FileSystem g.P.ProcessReadDir g.C.ReadDirState.Clone g.C.DirEntryState.Default c.args.self.now (spec c.args.of.now) (Ok r)) (sym made)
    (not_read g.S.FileSystem g.P.ProcessReadDir g.C.ReadDirState.Clone g.C.DirEntryState.Default c.args.self.now (spec c.args.of.now) c.in_ok-state.state deep c.in_ok-state.ensures.cases)

pub returns-then-not-reads-clause-listed : goal.returns-then-not-reads-clause-listed
returns-then-not-reads-clause-listed g c =
    let deep : nat_le (greatest_depth c.args.self.now) (spec c.args.of.now).depth ≡ true = is_deep (greatest_depth c.args.self.now) c.depth.ensures c.reads.ensures.above c.if-not-reads.true in
    inl (deep, ap (λ (r : Reading g.row.C-ReadDirState.Denot g.row.C-DirEntryState.Denot). r.list) c.new-then-not-reads.ensures ∙ ap (map item) c.new.ensures.items)

pub returns-in_ok-run_callback-in-Ok-clause-listed : goal.returns-in_ok-run_callback-in-Ok-clause-listed
returns-in_ok-run_callback-in-Ok-clause-listed g c =
    let of = spec c.args.of.now in
    let sort = (options_of c.args.self.now).sort in
    let one = c.in-Ok.ensures.listed in
    inr (
      one.0,
      one.1,
      one.2,
      λ given known goes. ap (processed_by given sort of) (sym (one.3 given known goes.default)) ∙ c.in_ok-run_callback-in-Ok.ensures.value given goes,
    )

pub returns-in_ok-run_callback-in-Ok-clause-reading : goal.returns-in_ok-run_callback-in-Ok-clause-reading
returns-in_ok-run_callback-in-Ok-clause-reading g c =
    let of = spec c.args.of.now in
    let sort = (options_of c.args.self.now).sort in
    let higher = is_higher (greatest_depth c.args.self.now) c.depth.ensures c.reads.ensures.above c.if-not-reads.false in
    let above = lt-leb (greatest_depth c.args.self.now) of.depth higher in
    was_listed g.S.FileSystem g.P.ProcessReadDir g.C.ReadDirState.Clone g.C.DirEntryState.Default c.args.self.now of
    (reading c.in_ok-run_callback-in-Ok.field-0) higher above
    c.in_ok-run_callback-in-Ok.ensures.depth c.in_ok-run_callback-in-Ok.ensures.few
    (λ given steady.
    let one = c.in-Ok.ensures.listed in (
      one.0,
      one.2 steady.file_system,
      ap (λ l. given.processed (Some of.depth) of.path (given.read_dir_state of.state) (cond sort (arranged l) l)) (sym (one.3 given (inl steady.file_system) steady.default))
          ∙ c.in_ok-run_callback-in-Ok.ensures.value given (goes_as_given g.S.FileSystem g.P.ProcessReadDir g.C.ReadDirState.Clone g.C.DirEntryState.Default c.args.self.now of steady),
    ))
