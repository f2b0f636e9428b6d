use Rattle.std.proofs.Common.{◌≡◌, ◌∙◌, ◌∷◌, ◌++◌, [], ℕ, Bool, List, Option, Some, None, cond, true, false, map, sym, ap, refl, subst}
use Rattle.std.specs.Prelude.{string_bytes}
use Rattle.std.specs.List.{find}
use Rattle.std.proofs.lemmas.List.{map-append, reverse-append}
use Rattle.jwalk_model.specs.declared.metadata.Identity.{Identity}
use Rattle.jwalk_model.specs.FileSystem.{Functions}
use Rattle.jwalk_model.specs.Job.{identity_at, is_target, looped_to}
use Rattle.jwalk_job.specs.Text.{text}
use Rattle.jwalk_job.specs.Ancestors.{AreKnown}
use Rattle.jwalk_job.proofs.ancestors.Ancestors.nearest.Goals as goal

-- whether a link leads to the directory at a path
abbrev leads_to : Functions → Option Identity → List ℕ → List ℕ → Bool
leads_to fs target place path = is_target target place (identity_at fs path) path

-- the last of a list, if a link leads to it, and else what is found before it
last_first : (fs : Functions) (target : Option Identity) (place : List ℕ) (before : List (List ℕ)) (last : List ℕ)
    → looped_to fs target place (before ++ last ∷ []) ≡ cond (leads_to fs target place last) (Some last) (looped_to fs target place before)
last_first fs target place before last = ap (find (leads_to fs target place)) (reverse-append before (last ∷ []))

-- What was split off is the last of a list of identities, and what was before it.
abbrev IsSplit : List (Option Identity) → Option Identity × List (Option Identity) → Type 0
IsSplit known parts = (before : List (Option Identity)) (last : Option Identity) → known ≡ before ++ last ∷ [] → (parts.0 ≡ last) × (parts.1 ≡ before)

-- the identities of what is before the last
known_before : (fs : Functions) (target : Option Identity) (before : List (List ℕ)) (last : List ℕ) (known : List (Option Identity)) (parts : Option Identity × List (Option Identity))
    → IsSplit known parts → AreKnown fs target (before ++ last ∷ []) known → AreKnown fs target before parts.1
known_before fs None before last known parts split are = tt
known_before fs (Some t) before last known parts split are = (split (map (identity_at fs) before) (identity_at fs last) (are ∙ map-append (identity_at fs) before (last ∷ []))).1

-- whether a link leads to the last, by its identity
leads_to_last : (fs : Functions) (target : Option Identity) (place : List ℕ) (before : List (List ℕ)) (last : List ℕ) (known : List (Option Identity)) (parts : Option Identity × List (Option Identity))
    → IsSplit known parts → AreKnown fs target (before ++ last ∷ []) known → is_target target place parts.0 last ≡ leads_to fs target place last
leads_to_last fs None place before last known parts split are = refl
leads_to_last fs (Some t) place before last known parts split are = ap (λ i. is_target (Some t) place i last) (split (map (identity_at fs) before) (identity_at fs last) (are ∙ map-append (identity_at fs) before (last ∷ []))).0

pub loop-last-preserved : goal.loop-last-preserved
loop-last-preserved g c = λ fs given.
    let target = c.args.target in
    let place = c.args.path.now in
    let last = text c.in-Some.last.now in
    let above = map text c.in-Some.above.now in
    let held = c.loop-last.invariant fs given in
    let left : map text c.loop-last.left.now ≡ above ++ last ∷ [] = ap (map text) c.in-Some.ensures.cases.0 ∙ map-append text c.in-Some.above.now (c.in-Some.last.now ∷ []) in
    let known : AreKnown fs target (above ++ last ∷ []) c.loop-last.identities.now = subst (λ l. AreKnown fs target l c.loop-last.identities.now) left held.0 in
    let parts : Option Identity × List (Option Identity) = (c.split_identity-identity.result.0, c.split_identity-identity.result.1.now) in
    let named = c.as_str.ensures.value ∙ ap string_bytes c.deref.ensures in
    let other : leads_to fs target place last ≡ false =
    sym (leads_to_last fs target place above last c.loop-last.identities.now parts c.split_identity-identity.ensures known)
    ∙ ap (is_target target place parts.0) (sym named)
    ∙ sym (c.is_target.ensures place c.in_ok-place.ensures) ∙ c.if-is_target.false in (
      known_before fs target above last c.loop-last.identities.now parts c.split_identity-identity.ensures known,
      sym (ap (looped_to fs target place) left ∙ last_first fs target place above last ∙ ap (λ b. cond b (Some last) (looped_to fs target place above)) other) ∙ held.1,
    )

pub returns-then-is_target : goal.returns-then-is_target
returns-then-is_target g c = λ fs given.
    let target = c.args.target in
    let place = c.args.path.now in
    let last = text c.in-Some.last.now in
    let above = map text c.in-Some.above.now in
    let held = c.loop-last.invariant fs given in
    let left : map text c.loop-last.left.now ≡ above ++ last ∷ [] = ap (map text) c.in-Some.ensures.cases.0 ∙ map-append text c.in-Some.above.now (c.in-Some.last.now ∷ []) in
    let known : AreKnown fs target (above ++ last ∷ []) c.loop-last.identities.now = subst (λ l. AreKnown fs target l c.loop-last.identities.now) left held.0 in
    let parts : Option Identity × List (Option Identity) = (c.split_identity-identity.result.0, c.split_identity-identity.result.1.now) in
    let named = c.as_str.ensures.value ∙ ap string_bytes c.deref.ensures in
    let same : leads_to fs target place last ≡ true =
    sym (leads_to_last fs target place above last c.loop-last.identities.now parts c.split_identity-identity.ensures known)
    ∙ ap (is_target target place parts.0) (sym named)
    ∙ sym (c.is_target.ensures place c.in_ok-place.ensures) ∙ c.if-is_target.true in
    ap (λ s. Some (string_bytes s)) c.in_ok-clone.ensures.cases
    ∙ sym (ap (looped_to fs target place) left ∙ last_first fs target place above last ∙ ap (λ b. cond b (Some last) (looped_to fs target place above)) same)
    ∙ held.1
