-- How a look-up goes on over components and links.
use Rattle.std.proofs.Common.{◌≡◌, ◌≢◌, ℕ, zero, suc, ◌-◌, ◌≤◌, Bool, false, List, [], ◌∷◌, ◌++◌, append-nil, None, Some, Result, Ok, Err, refl, sym, ap, subst, ◌∙◌, arith}
use Rattle.std.specs.Borrow.{Bor}
use Rattle.std.specs.Prelude.{IfOk, if◌then◌else◌}
use Rattle.std.specs.declared.io.ErrorKind.{ErrorKind}
use Rattle.std.specs.declared.io.ErrorKind.TheVariants as kind
use Rattle.jwalk_model.specs.Paths.{Component, components}
use Rattle.jwalk_memory_fs.specs.declared.hit.Hit.{Hit as CodeHit}
use Rattle.jwalk_memory_fs.specs.declared.hit.Hit.TheVariants as code
use Rattle.jwalk_memory_fs.specs.Hit.{Hit, on_dir, on_file, on_link, hit_seen, answer_seen}
use Rattle.jwalk_memory_fs.specs.Branch.{Branch, next_hit, go_on, through, reached, from_root, IsSettled, IsFollowed, LeadsOn, LinkLeadsOn}

-- a component is worked off from what is no link
settled-step : (table : List Branch) (follow : Bool) (links : ℕ) (h : Hit) → IsSettled h → (c : Component) (cs : List Component)
    → reached table follow links h (c ∷ cs) ≡ go_on (λ next. reached table follow links next cs) (next_hit table h c)
settled-step table follow zero (on_dir i) settled c cs = refl
settled-step table follow (suc n) (on_dir i) settled c cs = refl
settled-step table follow zero (on_file len) settled c cs = refl
settled-step table follow (suc n) (on_file len) settled c cs = refl
settled-step table follow links (on_link holder target) settled c cs = absurd settled

-- a link is followed by its target
followed-link : (table : List Branch) (follow : Bool) (links holder : ℕ) (target : List ℕ) (left : List Component) → IsFollowed follow left
    → reached table follow (suc links) (on_link holder target) left ≡ through (Some (reached table follow links)) holder target left
followed-link table follow links holder target [] followed =
    ap (λ (b : Bool). if b then through (Some (reached table follow links)) holder target [] else Ok (on_link holder target)) followed
followed-link table follow links holder target (c ∷ left) followed = refl

module _ (table : List Branch) where
  -- there is nothing behind an empty target
  pub no_target : (links holder : ℕ) (target : List ℕ) → links ≢ 0 → target ≡ [] → (follow : Bool) (left : List Component) → IsFollowed follow left
      → reached table follow links (on_link holder target) left ≡ Err kind.NotFound
  no_target zero holder target some empty follow left followed = absurd (some refl)
  no_target (suc n) holder target some empty follow left followed =
      followed-link table follow n holder target left followed ∙ ap (λ (t : List ℕ). through (Some (reached table follow n)) holder t left) empty

  -- a link leads on as its target's components do from its directory
  pub by_target : (links holder : ℕ) (target : List ℕ) (cs : List Component) (result : Result (CodeHit × ℕ) ErrorKind) → links ≢ 0 → target ≢ [] → cs ≡ components target
      → LeadsOn table (links - 1) (on_dir holder) cs result → LinkLeadsOn table links holder target result
  by_target zero holder target cs result some filled is leads follow left followed = absurd (some refl)
  by_target (suc n) holder [] cs result some filled is leads follow left followed = absurd (filled refl)
  by_target (suc n) holder (c ∷ target) cs result some filled is leads follow left followed =
      let less : suc n - 1 ≡ n = omega arith in
      followed-link table follow n holder (c ∷ target) left followed ∙ ap (λ (ds : List Component). reached table follow n (on_dir holder) (ds ++ left)) (sym is)
      ∙ ap (λ k. reached table follow k (on_dir holder) (cs ++ left)) (sym less) ∙ leads follow left

  -- Before a component, the look-up goes on from what is no link as it does from the hit.
  pub record IsReady (left : ℕ) (hit : Hit) (fewer : ℕ) (ready : Hit) : Type 0 where
    pub settled : IsSettled ready
    pub less : fewer ≤ left
    pub same : (follow : Bool) (c : Component) (cs : List Component) → reached table follow left hit (c ∷ cs) ≡ reached table follow fewer ready (c ∷ cs)

  ready-end : (left holder : ℕ) (target : List ℕ) (result : Result (CodeHit × ℕ) ErrorKind) (end : CodeHit) (fewer : ℕ) → LinkLeadsOn table left holder target result → result ≡ Ok (end, fewer)
      → IfOk result (λ r. IsSettled (hit_seen r.0)) → IfOk result (λ r. r.1 ≤ left) → IsReady left (on_link holder target) fewer (hit_seen end)
  ready-end left holder target result end fewer leads is settled less = record {
    settled = subst (λ r. IfOk r (λ x. IsSettled (hit_seen x.0))) is settled;
    less = subst (λ r. IfOk r (λ x. x.1 ≤ left)) is less;
    same = λ follow c cs. leads follow (c ∷ cs) tt ∙ ap (go_on (λ (r : CodeHit × ℕ). reached table follow r.1 (hit_seen r.0) (c ∷ cs))) is;
  }

  pub ready-link : (left holder : ℕ) (target : List ℕ) (hit : Hit) → hit ≡ on_link holder target → (result : Result (CodeHit × ℕ) ErrorKind) (end ready : CodeHit) (fewer less : ℕ) → ready ≡ end → less ≡ fewer
      → LinkLeadsOn table left holder target result → result ≡ Ok (end, fewer) → IfOk result (λ r. IsSettled (hit_seen r.0)) → IfOk result (λ r. r.1 ≤ left) → IsReady left hit less (hit_seen ready)
  ready-link left holder target hit is result end ready fewer less same equal leads was settled at_most =
      subst (λ h. IsReady left h less (hit_seen ready)) (sym is)
      (subst (λ k. IsReady left (on_link holder target) k (hit_seen ready)) (sym equal)
      (subst (λ (h : CodeHit). IsReady left (on_link holder target) fewer (hit_seen h)) (sym same) (ready-end left holder target result end fewer leads was settled at_most)))

  settled-hit : (hit : CodeHit) → ((holder : ℕ) (target : Bor (List ℕ)) → hit ≢ code.Link holder target) → IsSettled (hit_seen hit)
  settled-hit (code.Dir i) no_link = tt
  settled-hit (code.File len) no_link = tt
  settled-hit (code.Link holder target) no_link = absurd (no_link holder target refl)

  pub ready-plain : (left : ℕ) (hit ready : CodeHit) (less : ℕ) → ((holder : ℕ) (target : Bor (List ℕ)) → hit ≢ code.Link holder target) → ready ≡ hit → less ≡ left
      → IsReady left (hit_seen hit) less (hit_seen ready)
  ready-plain left hit ready less no_link same equal =
      subst (λ k. IsReady left (hit_seen hit) k (hit_seen ready)) (sym equal)
      (subst (λ (h : CodeHit). IsReady left (hit_seen hit) left (hit_seen h)) (sym same) (record { settled = settled-hit hit no_link; less = omega arith; same = λ follow c cs. refl }))

  -- one component further
  pub walk_on : (links left fewer : ℕ) (from hit ready : Hit) (all cs cs' : List Component) (c : Component) (r : Result CodeHit ErrorKind)
      → ((follow : Bool) (rest : List Component) → reached table follow left hit (cs ++ rest) ≡ reached table follow links from (all ++ rest))
      → cs ≡ c ∷ cs' → IsReady left hit fewer ready → answer_seen r ≡ next_hit table ready c
      → (follow : Bool) (rest : List Component) → go_on (λ next. reached table follow fewer next (cs' ++ rest)) (answer_seen r) ≡ reached table follow links from (all ++ rest)
  walk_on links left fewer from hit ready all cs cs' c r before is are_ready step follow rest =
      ap (go_on (λ next. reached table follow fewer next (cs' ++ rest))) step
      ∙ sym (settled-step table follow fewer ready are_ready.settled c (cs' ++ rest))
      ∙ sym (are_ready.same follow c (cs' ++ rest))
      ∙ ap (λ (ds : List Component). reached table follow left hit (ds ++ rest)) (sym is)
      ∙ before follow rest

  -- a whole look-up by the components that it works off
  pub whole : (follow : Bool) (cs : List Component) (result : Result (CodeHit × ℕ) ErrorKind) → LeadsOn table 40 (on_dir 0) cs result
      → from_root table follow cs ≡ go_on (λ r. reached table follow r.1 (hit_seen r.0) []) result
  unfolding from_root
  whole follow cs result leads = ap (λ (ds : List Component). reached table follow 40 (on_dir 0) ds) (sym (append-nil cs)) ∙ leads follow []

  pub whole-end : (follow : Bool) (cs : List Component) (result : Result (CodeHit × ℕ) ErrorKind) (hit : CodeHit) (left : ℕ) → LeadsOn table 40 (on_dir 0) cs result → result ≡ Ok (hit, left)
      → from_root table follow cs ≡ reached table follow left (hit_seen hit) []
  whole-end follow cs result hit left leads is = whole follow cs result leads ∙ ap (go_on (λ (r : CodeHit × ℕ). reached table follow r.1 (hit_seen r.0) [])) is

  -- what is no link is where the look-up ends
  pub settled-end : (follow : Bool) (links : ℕ) (h : Hit) → IsSettled h → reached table follow links h [] ≡ Ok h
  settled-end follow zero (on_dir i) settled = refl
  settled-end follow (suc n) (on_dir i) settled = refl
  settled-end follow zero (on_file len) settled = refl
  settled-end follow (suc n) (on_file len) settled = refl
  settled-end follow links (on_link holder target) settled = absurd settled

  pub unfollowed-end : (follow : Bool) (links : ℕ) (h : Hit) → follow ≡ false → reached table follow links h [] ≡ Ok h
  unfollowed-end follow zero (on_dir i) unasked = refl
  unfollowed-end follow (suc n) (on_dir i) unasked = refl
  unfollowed-end follow zero (on_file len) unasked = refl
  unfollowed-end follow (suc n) (on_file len) unasked = refl
  unfollowed-end follow zero (on_link holder target) unasked = ap (λ (b : Bool). if b then through None holder target [] else Ok (on_link holder target)) unasked
  unfollowed-end follow (suc n) (on_link holder target) unasked = ap (λ (b : Bool). if b then through (Some (reached table follow n)) holder target [] else Ok (on_link holder target)) unasked
