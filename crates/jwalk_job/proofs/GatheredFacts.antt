-- What is gathered while a directory is listed.
use Rattle.std.proofs.Common.{◌≡◌, ◌+◌, ◌++◌, ◌∷◌, [], List, Result, map, ap, sym, refl, subst, ◌∙◌, append-nil}
use Rattle.std.proofs.lemmas.Grind.{flat_map-append}
use Rattle.std.proofs.lemmas.List.{map-append, append_assoc}
use Rattle.std.specs.declared.default.Default as Default
use Rattle.std.specs.declared.clone.Clone as Clone
use Rattle.std.specs.declared.fmt.Debug as Debug
use Rattle.jwalk_model.specs.FileSystem.{Functions, Listed}
use Rattle.jwalk_model.specs.Entry.{AtDepth}
use Rattle.jwalk_model.specs.ReadDir.{Spec}
use Rattle.jwalk_model.specs.Job as value
use Rattle.jwalk_model.proofs.HeldFacts.{AtDepth-append}
use Rattle.jwalk_fs.specs.declared.file_system.FileSystem as FileSystem
use Rattle.jwalk_job.specs.declared.dir_entry.DirEntry.{DirEntry}
use Rattle.jwalk_job.specs.declared.error.Error.{Error}
use Rattle.jwalk_job.specs.declared.read_dir_spec.ReadDirSpec.{ReadDirSpec}
use Rattle.jwalk_job.specs.Entry.{item}
use Rattle.jwalk_job.specs.ReadDirSpec.{spec}
use Rattle.jwalk_job.specs.Given.{Given, counted_spec, counted_list, DefaultsCount}
use Rattle.jwalk_job.specs.declared.job.Job.{Job}
use Rattle.jwalk_job.specs.declared.job.gathering.Gathering.{Gathering}
use Rattle.jwalk_job.specs.Job.{file_system, job_by, AsksKnown}
use Rattle.jwalk_job.specs.declared.job.inside.Inside.{Inside}
use Rattle.jwalk_job.specs.Ancestors.{texts}
use Rattle.jwalk_job.specs.Inside.{AsksOn, IsInside}
use Rattle.jwalk_job.specs.Gathering.{depth_below, IsGathered}
use Rattle.jwalk_job.proofs.ListFacts.{counted-append}

module _ {C S P A R E : Type 0} (files : FileSystem.Ghosts S) (defaults : Default.Ghosts E) where
  -- these are the items of the definition for items of a listing
  abbrev AreOf : Job C S P A R E → ReadDirSpec C A R E → List Listed → List (Result (DirEntry C A R E) (Error A)) → Type 0
  AreOf job of listing l = (given : Given R E) → AsksKnown files job → DefaultsCount defaults given
      → counted_list given l ≡ value.raw (job_by files given job) (counted_spec given (spec of)) listing

  -- the same for one of them, by what was asked so far
  abbrev IsOf : Job C S P A R E → ReadDirSpec C A R E → Inside A → Listed → List (Result (DirEntry C A R E) (Error A)) → Type 0
  IsOf job of inside x l = (given : Given R E) → AsksKnown files job → DefaultsCount defaults given
      → IsInside (job_by files given job) (counted_spec given (spec of)) inside
      → counted_list given l ≡ value.item_of (job_by files given job) (counted_spec given (spec of)) x

-- nothing more is asked
pub asks_nothing : {A : Type 0} (fs : Functions) (inside : Inside A) → AsksOn fs inside inside
asks_nothing fs inside = record { ancestors = refl; within = refl; asked = λ asked. asked }

pub asks_more : {A : Type 0} {fs : Functions} {first old new : Inside A} → AsksOn fs first old → AsksOn fs old new → AsksOn fs first new
asks_more before more = record {
  ancestors = more.ancestors ∙ before.ancestors;
  within = more.within ∙ before.within;
  asked = λ asked. more.asked (before.asked asked);
}

-- what is inside a directory stays so, whatever more is asked
pub still_inside : {A R E : Type 0} {job : value.Job R E} {spec : Spec R} {old new : Inside A} → AsksOn job.fs old new → IsInside job spec old → IsInside job spec new
still_inside asks is = record {
  ancestors = ap texts asks.ancestors ∙ is.ancestors;
  within = asks.within ∙ is.within;
  asked = asks.asked is.asked;
}

module _ {C S P A R E : Type 0} {c : Default.Ghosts C} {cd : Debug.Ghosts C} {rc : Clone.Ghosts R} {r : Default.Ghosts R} {rd : Debug.Ghosts R} {e : Default.Ghosts E} {ed : Debug.Ghosts E} (files : FileSystem.Ghosts S) (defaults : Default.Ghosts E) where
  -- nothing is gathered yet
  pub gathered_none : (s : Gathering C S P A R E c cd rc r rd e ed) → IsGathered files defaults s [] s
  gathered_none s = record {
    job = refl;
    of = refl;
    depth = λ at. at;
    asks = λ known. asks_nothing (files.functions (file_system s.job.now)) s.inside;
    value = λ given known default inside. sym (append-nil (counted_list given s.items.items));
  }

  -- what one item gives is gathered behind the others
  pub gathered_more : (first old new : Gathering C S P A R E c cd rc r rd e ed) (before : List Listed) (x : Listed) (more : List (Result (DirEntry C A R E) (Error A)))
      → new.job.now ≡ old.job.now → new.of.now ≡ old.of.now → new.items.items ≡ old.items.items ++ more
      → AtDepth (depth_below old) (map item more) → (AsksKnown files old.job.now → AsksOn (files.functions (file_system old.job.now)) old.inside new.inside)
      → IsOf files defaults old.job.now old.of.now old.inside x more
      → IsGathered files defaults first before old → IsGathered files defaults first (before ++ x ∷ []) new
  gathered_more first old new before x more job of items deep asks one so_far = record {
    job = job ∙ so_far.job;
    of = of ∙ so_far.of;
    depth = λ at.
        let below = subst (λ o. AtDepth ((spec o).depth + 1) (map item more)) so_far.of deep in
        rw (items, map-append item old.items.items more) (AtDepth-append (depth_below first) (map item old.items.items) (map item more) (so_far.depth at) below);
    asks = λ known.
        let here : AsksKnown files first.job.now → AsksOn (files.functions (file_system first.job.now)) old.inside new.inside = subst (λ j. AsksKnown files j → AsksOn (files.functions (file_system j)) old.inside new.inside) so_far.job asks in
        asks_more (so_far.asks known) (here known);
    value = λ given known default inside.
        let by = job_by files given first.job.now in
        let place = counted_spec given (spec first.of.now) in
        let start = counted_list given first.items.items in
        let here : IsOf files defaults first.job.now first.of.now old.inside x more = subst (λ o. IsOf files defaults first.job.now o old.inside x more) so_far.of (subst (λ j. IsOf files defaults j old.of.now old.inside x more) so_far.job one) in
        ap (counted_list given) items
        ∙ counted-append given old.items.items more
        ∙ ap (λ l. l ++ counted_list given more) (so_far.value given known default inside)
        ∙ ap (λ l. (start ++ value.raw by place before) ++ l) (here given known default (still_inside (so_far.asks known) inside))
        ∙ append_assoc start (value.raw by place before) (value.item_of by place x)
        ∙ ap (λ l. start ++ (value.raw by place before ++ l)) (sym (append-nil (value.item_of by place x)))
        ∙ ap (λ l. start ++ l) (sym (flat_map-append (value.item_of by place) before (x ∷ [])));
  }

  -- what is gathered from nothing on is one deeper than the directory
  pub gathered_depth : (of : ReadDirSpec C A R E) (first last : Gathering C S P A R E c cd rc r rd e ed) (listing : List Listed)
      → first.of.now ≡ of → first.items.items ≡ [] → IsGathered files defaults first listing last → AtDepth ((spec of).depth + 1) (map item last.items.items)
  gathered_depth of first last listing at none all = subst (λ o. AtDepth ((spec o).depth + 1) (map item last.items.items)) at (all.depth (rw none tt))

  -- and it is that of the definition
  pub gathered_value : (job : Job C S P A R E) (of : ReadDirSpec C A R E) (first last : Gathering C S P A R E c cd rc r rd e ed) (listing : List Listed)
      → first.job.now ≡ job → first.of.now ≡ of → first.items.items ≡ []
      → ((given : Given R E) → AsksKnown files job → DefaultsCount defaults given → IsInside (job_by files given job) (counted_spec given (spec of)) first.inside)
      → IsGathered files defaults first listing last → AreOf files defaults job of listing last.items.items
  gathered_value job of first last listing by at none inside all = λ given known default.
      let begun : IsInside (job_by files given first.job.now) (counted_spec given (spec first.of.now)) first.inside = rw (by, at) (inside given known default) in
      all.value given (subst (AsksKnown files) (sym by) known) default begun
      ∙ ap (λ l. counted_list given l ++ value.raw (job_by files given first.job.now) (counted_spec given (spec first.of.now)) listing) none
      ∙ ap (λ j. value.raw (job_by files given j) (counted_spec given (spec first.of.now)) listing) by
      ∙ ap (λ o. value.raw (job_by files given job) (counted_spec given (spec o)) listing) at
