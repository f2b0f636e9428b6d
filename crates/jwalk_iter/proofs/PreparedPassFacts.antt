-- The next item of a walk over any readings is prepared, and then passed.
use Rattle.std.proofs.Common.{◌≡◌, ◌∙◌, List, ℕ, map, reverse, length, Option, Some, None, Result, Ok, Err, IsErr, IsErrAnd, inl, inr, sym, ap, subst, ⊎_elim}
use Rattle.jwalk_model.specs.Entry.{Item}
use Rattle.jwalk_model.specs.ReadDir.{Spec, children_of}
use Rattle.jwalk_order.specs.Frontier as order
use Rattle.jwalk_order.specs.Frontier.{next_address}
use Rattle.jwalk_job.specs.declared.error.Error.{Error}
use Rattle.jwalk_job.specs.declared.dir_entry.DirEntry.{DirEntry}
use Rattle.jwalk_job.specs.Entry.{item}
use Rattle.jwalk_job.specs.Given.{Given}
use Rattle.jwalk_readings.specs.Reads.{ReadsFirstBy}
use Rattle.jwalk_readings.specs.declared.readers.Missed.{Missed}
use Rattle.jwalk_readings.specs.declared.readers.Missed.TheVariants.{Memory}
use Rattle.jwalk_readings.specs.CrewReads.{failure_of}
use Rattle.jwalk_iter.specs.Step.{IsAtDirectory}
use Rattle.jwalk_readings.specs.declared.readings.Readings as Readings
use Rattle.jwalk_iter.specs.declared.entries.Entries.{Entries}
use Rattle.jwalk_iter.specs.Entries.{ArePlaced, items_of, source_of, unread_of, position_of, max_depth_of, KnownAt, IsSteadyWalk, PassesOne, Stays, ReadiesNext, Prepares, Passes}
use Rattle.jwalk_readings.proofs.ResultFacts.{none_ok, on_err, refused_not_lost, fewer_not_lost}
use Rattle.jwalk_iter.proofs.AheadFacts.{none_at}
use Rattle.jwalk_iter.proofs.PassFacts.{stays_on, passed_before, tells_refused}

module _ {C A B R E : Type 0} (readings : Readings.Ghosts B C A R E) where
  module _ (old mid new : Entries C A B R E) where
    module _ (stays : Stays readings old mid) (r : ReadiesNext readings old mid) where
      same_items : items_of mid ≡ items_of old
      same_items = ap (λ l. map item (reverse l.items)) r.items

      same_at : IsAtDirectory (items_of mid) (unread_of readings mid)
      same_at = rw (same_items, r.reads.same) r.at

      steady_before : (given : Given R E) → IsSteadyWalk readings old given → IsSteadyWalk readings mid given
      steady_before given counted = record {
        reads = stays.steady given counted.reads;
        placed = subst (λ b. ArePlaced (readings.source b).below (items_of mid) (unread_of readings mid)) (sym stays.base) (rw (same_items, r.reads.same) counted.placed);
      }

      -- what is passed after some were read for it is passed by what was read
      one_prepared : (x : Item R E) → PassesOne readings mid (position_of readings mid) x (position_of readings new) → PassesOne readings old (position_of readings old) x (position_of readings new)
      one_prepared x one = elim (passed_before readings old mid stays one) [
        | inl plain ↦ absurd (plain.none_below same_at)
        | inr enters ↦
            let Reads : List (List ℕ) → List (Spec R) → Type 0 = λ addresses specs. ReadsFirstBy (source_of readings old).copies (KnownAt readings old (next_address addresses) enters.entry) (max_depth_of readings old) specs enters.outcome (unread_of readings new) in
            let here : (source_of readings old).enters (next_address (readings.frontier old.reads)) (readings.read_ahead mid.reads) (readings.read_ahead new.reads)
            = subst (λ f. (source_of readings old).enters (next_address f) (readings.read_ahead mid.reads) (readings.read_ahead new.reads)) r.reads.frontier enters.ahead in
            inr (record {
              entry = enters.entry;
              rest = enters.rest;
              first = sym same_items ∙ enters.first;
              has = enters.has;
              outcome = enters.outcome;
              reads = subst (Reads (readings.frontier old.reads)) r.reads.same (subst (λ f. Reads f (unread_of readings mid)) r.reads.frontier enters.reads);
              told = enters.told;
              items = enters.items;
              frontier = enters.frontier ∙ ap (λ f. order.passed f (length (children_of enters.outcome))) r.reads.frontier;
              ahead = r.reads.ready (readings.read_ahead new.reads) here;
            })
      ]

      passes_after : (result : Result (Option (Result (DirEntry C A R E) (Error A))) Missed) → Passes readings mid result new → Passes readings old result new
      passes_after (Ok None) p = absurd (none_at (items_of mid) (unread_of readings mid) p.end.0 same_at)
      passes_after (Ok (Some x)) p = record { stays = stays_on readings old mid new stays p.stays; end = tt; passed = one_prepared (item x) p.passed; tells = tt; comes = tt; stopped = tt }
      passes_after (Err missed) p = record {
        stays = stays_on readings old mid new stays p.stays;
        end = tt;
        passed = tt;
        tells = subst (λ b. (readings.source b).tells (failure_of missed)) stays.base p.tells;
        comes = fewer_not_lost _ _ missed steady_before p.comes;
        stopped = r.at;
      }

    -- What is passed after a call that prepares it is what one call passes,
    pub prepared_passes : {F : Type 0} (done : Unit {0}) (result : Result (Option (Result (DirEntry C A R E) (Error A))) Missed) → Prepares readings {F = F} old (Ok done) mid → Passes readings mid result new → Passes readings old result new
    prepared_passes done result p passes =
        ⊎_elim
        (λ (same : mid ≡ old). subst (λ m. Passes readings m result new) same passes)
        (λ (r : ReadiesNext readings old mid). passes_after p.stays r result passes)
        p.prepared

  -- and so is the failure of that call.
  pub unprepared_passes : {F : Type 0} (old new : Entries C A B R E) (refused : F) (told : Result (Option (Result (DirEntry C A R E) (Error A))) Missed) → IsErr told → IsErrAnd told (λ m. m ≡ Memory) → Prepares readings old (Err refused) new → Passes readings old told new
  unprepared_passes old new refused told failed why p = record {
    stays = p.stays;
    end = none_ok _ told failed;
    passed = none_ok _ told failed;
    tells = tells_refused (source_of readings old) (readings.sound (readings.base old.reads)) told why;
    comes = refused_not_lost _ told why;
    stopped = on_err told p.stopped;
  }
