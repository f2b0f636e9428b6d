-- What a sink took.
use Rattle.std.proofs.Common.{◌++◌, [], List, subst, sym, append-nil}
use Rattle.std.proofs.lemmas.List.{append_assoc}
use Rattle.jwalk_model.specs.FileSystem.{Listed}
use Rattle.jwalk_fs.specs.Views.{TakesAll}

module _ {K : Type 0} (took : K → List Listed → K → Type 0) where
  -- one that was given nothing took nothing
  pub takes_none : (s : K) → TakesAll took [] s s
  takes_none s = λ first before so_far. subst (λ l. took first l s) (sym (append-nil before)) so_far

  -- some items and then others
  pub takes_on : (items others : List Listed) (a b c : K) → TakesAll took items a b → TakesAll took others b c → TakesAll took (items ++ others) a c
  takes_on items others a b c some rest = λ first before so_far.
      subst (λ l. took first l c) (append_assoc before items others) (rest first (before ++ items) (some first before so_far))
