-- How answers are counted by what they hold, where nothing is asked.
use Rattle.std.specs.Prelude.{◌≡◌, List, [], ◌∷◌, ◌++◌, map, Option, Some, None, Result}
use Rattle.std.specs.Iterator.{Drains, YieldsThen}
use Rattle.jwalk.specs.jwalk_model.Entry.{Item}
use Rattle.jwalk.specs.jwalk_job.declared.dir_entry.DirEntry.{DirEntry}
use Rattle.jwalk.specs.jwalk_job.declared.error.Error.{Error}
use Rattle.jwalk.specs.jwalk_job.Entry.{item}
use Rattle.jwalk.specs.DirEntryIter.{TellsMemory, NoneRefused}
use Rattle.jwalk_usage.specs.declared.report.Usage.{Usage}
use Rattle.jwalk_usage.specs.declared.report.UsageFault.{UsageFault}
use Rattle.jwalk_usage.specs.declared.report.UsageFault.TheVariants.{TooMany, Memory}
use Rattle.jwalk_usage.specs.Counts.{IsTooGreat}

module _ {R E : Type 0} where
  -- Why one more answer can't be counted, by the usage with it: a number of it is too great, or the answer says that memory ran out.
  abbrev pub CannotAdd : Usage → Item R E → UsageFault → Type 0
  CannotAdd all x TooMany = IsTooGreat all
  CannotAdd all x Memory = TellsMemory x

module _ {C A R E : Type 0} (total : List (Item R E) → Usage) where
  -- None of the answers reports that memory ran out, and the usage is what they come to.
  pub record AddsUp (answered : List (Result (DirEntry C A R E) (Error A))) (usage : Usage) : Type 0 where
    pub none_refused : NoneRefused answered
    pub totals : usage ≡ total (map item answered)

module _ {I C A R E : Type 0} (total : List (Item R E) → Usage) (next : I → Option (Result (DirEntry C A R E) (Error A)) → I → Type 0) where
  -- Calls from the start yielded answers and then `None`, which left the iterator so, and the usage is what the answers come to.
  abbrev pub AddsRest : I → I → Usage → Type 0
  AddsRest start end usage = (answered : List (Result (DirEntry C A R E) (Error A))) × YieldsThen next start answered None end × AddsUp total answered usage

  -- the same, wherever the iterator was left
  abbrev pub AddsAll : I → Usage → Type 0
  AddsAll start usage = (answered : List (Result (DirEntry C A R E) (Error A))) × Drains next start answered × AddsUp total answered usage

  -- Calls from the start yielded answers up to one that can't be counted, which left the iterator so, and this is why.
  pub record StopsAddingRest (start end : I) (fault : UsageFault) : Type 0 where
    pub answered : List (Result (DirEntry C A R E) (Error A))
    pub last : Result (DirEntry C A R E) (Error A)
    pub calls : YieldsThen next start answered (Some last) end
    pub tells : CannotAdd (total (map item answered ++ item last ∷ [])) (item last) fault

  -- the same, wherever the iterator was left
  abbrev pub StopsAdding : I → UsageFault → Type 0
  StopsAdding start fault = (end : I) × StopsAddingRest start end fault
