-- The next reading is prepared, and then read.
use Rattle.std.proofs.Common.{◌≡◌, ◌∙◌, ◌≤◌, ◌+◌, length, map, Option, Some, None, Result, Ok, Err, inl, inr, sym, ap, subst, arith, ⊎_elim}
use Rattle.jwalk_model.specs.Error.{memory}
use Rattle.jwalk_model.specs.ReadDir.{Spec, Outcome, IsLawfulReading, AreClones, children_of}
use Rattle.jwalk_order.specs.Frontier as order
use Rattle.jwalk_job.specs.declared.error.Error.{Error}
use Rattle.jwalk_job.specs.Error.{failure}
use Rattle.jwalk_job.specs.declared.read_dir.ReadDir.{ReadDir}
use Rattle.jwalk_job.specs.ReadDir.{outcome}
use Rattle.jwalk_job.specs.Given.{Given, counted_spec, counted_outcome}
use Rattle.jwalk_readings.specs.Reads.{ReadsNextBy}
use Rattle.jwalk_readings.specs.Source.{Source}
use Rattle.jwalk_readings.specs.Gives.{GivesError, GivesPreorder, GivesFirst, EntersFirst, PassesFirst, source_of, next_address, Known, Readies, Prepares, Gives}
use Rattle.jwalk_readings.specs.declared.readings.Readings as Readings
use Rattle.jwalk_readings.proofs.GivesFacts.{gives_stopped}

module _ {C A B R E : Type 0} (readings : Readings.Ghosts B C A R E) (old mid new : B) where
  module _ (base : readings.base mid ≡ readings.base old) (wide : 1 ≤ (source_of readings old).width) (most : readings.most mid ≤ readings.most old) (steady : (given : Given R E) → readings.steady old given → readings.steady mid given) (r : Readies readings old mid) where
    abbrev from : Source R E
    from = source_of readings old

    known_prepared : (s : Spec R) (o : Outcome R E) → Known readings mid s o → Known readings old s o
    known_prepared s o known = record {
      told = subst (λ f. from.told (order.next_address f) s o) r.frontier (subst (λ b. (readings.source b).told (next_address readings mid) s o) base known.told);
      value = λ given counted. subst (λ b. counted_outcome given o ≡ (readings.source b).reading given (counted_spec given s)) base (known.value given (steady given counted));
    }

    reads_prepared : (read : Option (Outcome R E)) → ReadsNextBy (source_of readings mid).copies (Known readings mid) (source_of readings mid).options.max_depth (readings.to_read mid) read (readings.to_read new) → ReadsNextBy from.copies (Known readings old) from.options.max_depth (readings.to_read old) read (readings.to_read new)
    reads_prepared None reads = (sym r.same ∙ reads.0, reads.1)
    reads_prepared (Some o) reads = record {
      first = reads.first;
      rest = reads.rest;
      took = sym r.same ∙ reads.took;
      reading = record {
        lawful = subst (λ b. IsLawfulReading (readings.source b).options.max_depth reads.first o) base reads.reading.lawful;
        few = reads.reading.few;
        value = known_prepared reads.first o reads.reading.value;
      };
      stacks = record { front = reads.stacks.front; left = reads.stacks.left; clones = subst (λ b. AreClones (readings.source b).copies (children_of o) reads.stacks.front) base reads.stacks.clones };
    }

    tells_prepared : (read : Option (Outcome R E)) → GivesError (source_of readings mid).tells read → GivesError from.tells read
    tells_prepared read ends = subst (λ b. GivesError (readings.source b).tells read) base ends

    first_prepared : (read : Option (Outcome R E)) → GivesFirst (source_of readings mid) (Known readings mid) (readings.to_read mid) read (readings.to_read new) → GivesFirst from (Known readings old) (readings.to_read old) read (readings.to_read new)
    first_prepared read first = elim first [
      | inl ends ↦ inl (tells_prepared read ends.0, r.some, ends.2)
      | inr reads ↦ inr (reads_prepared read reads)
    ]

    enters_after : (read : Outcome R E) → EntersFirst (source_of readings mid) (next_address readings mid) (readings.read_ahead mid) (Some read) (readings.read_ahead new) → EntersFirst from (next_address readings old) (readings.read_ahead old) (Some read) (readings.read_ahead new)
    enters_after read enters = elim enters [
      | inl ends ↦ inl (tells_prepared (Some read) ends.0, ends.1)
      | inr one ↦ inr (r.ready (readings.read_ahead new)
          (subst (λ f. from.enters (order.next_address f) (readings.read_ahead mid) (readings.read_ahead new)) r.frontier
          (subst (λ b. (readings.source b).enters (next_address readings mid) (readings.read_ahead mid) (readings.read_ahead new)) base one)))
    ]

    ahead_after : (read : Outcome R E) → EntersFirst from (next_address readings old) (readings.read_ahead old) (Some read) (readings.read_ahead new) → length (readings.read_ahead new).done + 1 ≤ length (readings.read_ahead old).done + from.width
    ahead_after read enters = elim enters [
      | inl ends ↦ omega (arith, ap (λ a. length a.done) ends.1, wide)
      | inr one ↦ (readings.sound (readings.base old)).fewer (next_address readings old) (readings.read_ahead old) (readings.read_ahead new) one
    ]

    -- What is given after some were read for it is what one call gives.
    gives_after : (read : Option (Result (ReadDir C A R E) (Error A))) → Gives readings (λ f. f ≡ memory) mid read new → Gives readings (λ f. f ≡ memory) old read new
    gives_after None g = absurd (elim g.first [
      | inl ends ↦ (let no : ◌≡◌ {A = Option (Outcome R E)} None (Some (Err ends.0.error)) = ends.0.told in cc)
      | inr none ↦ r.some (sym r.same ∙ none.0)
    ])
    gives_after (Some read) g =
        let enters = enters_after (outcome read) g.enters in
        record {
          base = g.base ∙ base;
          enters = enters;
          passes = subst (λ f. PassesFirst from.tells f (Some (outcome read)) (readings.frontier new)) r.frontier (subst (λ b. PassesFirst (readings.source b).tells (readings.frontier mid) (Some (outcome read)) (readings.frontier new)) base g.passes);
          ahead = ahead_after (outcome read) enters;
          most = omega (arith, g.most, most);
          steady = λ given counted. g.steady given (steady given counted);
          first = first_prepared (Some (outcome read)) g.first;
          preorder = λ given counted.
              subst (λ l. GivesPreorder (λ f. f ≡ memory) (from.reading given) from.options.max_depth (map (counted_spec given) l) (Some (counted_outcome given (outcome read))) (map (counted_spec given) (readings.to_read new))) r.same
              (subst (λ b. GivesPreorder (λ f. f ≡ memory) ((readings.source b).reading given) (readings.source b).options.max_depth (map (counted_spec given) (readings.to_read mid)) (Some (counted_outcome given (outcome read))) (map (counted_spec given) (readings.to_read new))) base (g.preorder given (steady given counted)));
        }

  -- What is given after a call that prepares it is what one call gives,
  pub prepared_gives : {F : Type 0} (done : Unit {0}) (read : Option (Result (ReadDir C A R E) (Error A))) → Prepares readings {F = F} old (Ok done) mid → Gives readings (λ f. f ≡ memory) mid read new → Gives readings (λ f. f ≡ memory) old read new
  prepared_gives done read p g =
      ⊎_elim
      (λ (same : mid ≡ old). subst (λ m. Gives readings (λ f. f ≡ memory) m read new) same g)
      (λ (r : Readies readings old mid). gives_after p.base p.wide p.most p.steady r read g)
      p.prepared

  -- and so is the error that reports that it failed.
  pub not_prepared_gives : {F : Type 0} (refused : F) (error : Error A) → failure error ≡ memory → Prepares readings old (Err refused) new → Gives readings (λ f. f ≡ memory) old (Some (Err error)) new
  not_prepared_gives refused error is p =
      gives_stopped readings old new p.base (omega (arith, ap (λ a. length a.done) p.nothing, p.wide)) p.most p.steady (λ f. f ≡ memory) error (rw is (readings.sound (readings.base old)).memory_told) (λ given counted. is) p.some p.stopped p.nothing
