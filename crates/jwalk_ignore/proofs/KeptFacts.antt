-- What walks yield from which lines leave something out, with ignore files and without.
use Rattle.std.proofs.Common.{◌≡◌, ◌∙◌, ℕ, List, Option, ap, ap₂, refl, sym}
use Rattle.jwalk.specs.jwalk_model.Counted.{Worth, blank}
use Rattle.jwalk.specs.jwalk_model.Entry.{Item}
use Rattle.jwalk.specs.jwalk_model.FileSystem.{Functions}
use Rattle.jwalk.specs.jwalk_model.Job.{Processing}
use Rattle.jwalk.specs.jwalk_model.Options.{Options}
use Rattle.jwalk.specs.jwalk_model.Walk.{whole_walk}
use Rattle.jwalk_ignore.specs.Callback.Excluding.{Excluded, Excludes, excluding, excluding-KeepsDepthsOf}
use Rattle.jwalk_ignore.specs.Callback.IgnoreViews.{ignoring, Ignores}
use Rattle.jwalk_ignore.specs.Callback.Kept.{given_kept, ignoring_walk, job_with}
use Rattle.jwalk_ignore.specs.Rules.Chain.{Chain}
use Rattle.jwalk_ignore.specs.Rules.Texts.{Texts}
use Rattle.jwalk_ignore.specs.Callback.Settings.{Settings}

-- the callback of ignore files with lines behind it makes of lists what is given
pub ignores_kept : (R E : Type 0) (rules_in : R → Chain) (others : R → R → Type 0) {fixed : Type 0} {texts texts' : Texts} {settings settings' : Settings} {excluded excluded' : Excluded}
    → fixed → texts' ≡ texts → settings' ≡ settings → excluded' ≡ excluded
    → Ignores {R = R} {E = E} rules_in others fixed texts' settings' (λ given. Excludes excluded' given) (given_kept rules_in settings texts excluded)
ignores_kept R E rules_in others {texts} {texts'} {settings} {settings'} {excluded} {excluded'} told texts_are settings_are lines_are = (
  told,
  (λ state. blank),
  ((λ state. refl), (λ old new same. refl)),
  excluding excluded,
  excluding-KeepsDepthsOf excluded,
  (λ (depth : Option ℕ) (path : List ℕ) (state : Worth) (list : List (Item Worth Worth)). ap (λ (x : Excluded). excluding x depth path state list) (sym lines_are)),
  (λ (depth : Option ℕ) (path : List ℕ) (state : Worth) (list : List (Item Worth Worth)).
      ap₂ (λ (s : Settings) (t : Texts). ignoring s t (excluding excluded) depth path state list) (sym settings_are) (sym texts_are)),
)

-- what a walk yields goes by its file system, its options, its root and its state
pub whole_of : (processed : Processing Worth Worth) {fs fs' : Functions} {options options' : Options} {root root' : List ℕ} {state state' : Worth}
    → fs ≡ fs' → options ≡ options' → root ≡ root' → state ≡ state'
    → whole_walk (job_with fs options processed) root state ≡ whole_walk (job_with fs' options' processed) root' state'
whole_of processed {fs} {fs'} {options} {options'} {root} {root'} {state} {state'} f o r s =
    ap (λ (x : Functions). whole_walk (job_with x options processed) root state) f
    ∙ ap (λ (x : Options). whole_walk (job_with fs' x processed) root state) o
    ∙ ap (λ (x : List ℕ). whole_walk (job_with fs' options' processed) x state) r
    ∙ ap (λ (x : Worth). whole_walk (job_with fs' options' processed) root' x) s

-- what a walk that honours ignore files yields goes by what it is made of
pub ignoring_same : {fs fs' : Functions} {texts texts' : Texts} {settings settings' : Settings} {excluded excluded' : Excluded} {options options' : Options} {root root' : List ℕ}
    → fs ≡ fs' → texts ≡ texts' → settings ≡ settings' → excluded ≡ excluded' → options ≡ options' → root ≡ root'
    → ignoring_walk fs texts settings excluded options root ≡ ignoring_walk fs' texts' settings' excluded' options' root'
ignoring_same {fs} {fs'} {texts} {texts'} {settings} {settings'} {excluded} {excluded'} {options} {options'} {root} {root'} f t s e o r =
    ap (λ (x : Functions). ignoring_walk x texts settings excluded options root) f
    ∙ ap (λ (x : Texts). ignoring_walk fs' x settings excluded options root) t
    ∙ ap (λ (x : Settings). ignoring_walk fs' texts' x excluded options root) s
    ∙ ap (λ (x : Excluded). ignoring_walk fs' texts' settings' x options root) e
    ∙ ap (λ (x : Options). ignoring_walk fs' texts' settings' excluded' x root) o
    ∙ ap (λ (x : List ℕ). ignoring_walk fs' texts' settings' excluded' options' x) r
