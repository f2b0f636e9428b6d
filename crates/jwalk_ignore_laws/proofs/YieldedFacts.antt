-- What a walk that honours ignore files yields goes by what its builder and its rules are made of.
use Rattle.std.proofs.Common.{◌≡◌, ℕ, List, subst}
use Rattle.jwalk_model.specs.Counted.{Worth}
use Rattle.jwalk_model.specs.Entry.{Item}
use Rattle.jwalk_model.specs.FileSystem.{Functions}
use Rattle.jwalk_model.specs.Options.{Options}
use Rattle.jwalk_model.specs.Walk.{whole_walk}
use Rattle.jwalk_ignore.specs.Callback.Given.{job_ignoring}
use Rattle.jwalk_ignore.specs.Rules.Texts.{Texts}
use Rattle.jwalk_ignore.specs.Callback.Settings.{Settings}

-- what is yielded by some settings, texts, file system, options, root and state is yielded by those that they equal
pub yielded_by : (counted : Settings → Texts → List (Item Worth Worth)) {settings settings' : Settings} {texts texts' : Texts} {fs fs' : Functions} {options options' : Options} {root root' : List ℕ} {state state' : Worth}
    → settings ≡ settings' → texts ≡ texts' → fs ≡ fs' → options ≡ options' → root ≡ root' → state ≡ state'
    → counted settings texts ≡ whole_walk (job_ignoring settings texts fs options) root state
    → counted settings' texts' ≡ whole_walk (job_ignoring settings' texts' fs' options') root' state'
yielded_by counted {settings} {settings'} {texts} {texts'} {fs} {fs'} {options} {options'} {root} {root'} {state} {state'} s t f o r w told =
    subst (λ (x : Worth). counted settings' texts' ≡ whole_walk (job_ignoring settings' texts' fs' options') root' x) w
    (subst (λ (x : List ℕ). counted settings' texts' ≡ whole_walk (job_ignoring settings' texts' fs' options') x state) r
    (subst (λ (x : Options). counted settings' texts' ≡ whole_walk (job_ignoring settings' texts' fs' x) root state) o
    (subst (λ (x : Functions). counted settings' texts' ≡ whole_walk (job_ignoring settings' texts' x options) root state) f
    (subst (λ (x : Texts). counted settings' x ≡ whole_walk (job_ignoring settings' x fs options) root state) t
    (subst (λ (x : Settings). counted x texts ≡ whole_walk (job_ignoring x texts fs options) root state) s told)))))
