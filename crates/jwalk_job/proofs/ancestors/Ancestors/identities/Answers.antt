use Rattle.std.proofs.Common.{◌≡◌, ◌∙◌, ◌∷◌, ◌++◌, ◌+◌, ◌<◌, [], ℕ, List, map, take, length, get_or, sym, ap, arith}
use Rattle.std.specs.Prelude.{string_bytes}
use Rattle.std.proofs.lemmas.List.{map-append, take_more, take_all}
use Rattle.jwalk_model.specs.Job.{identity_at}
use Rattle.jwalk_job.specs.Text.{text}
use Rattle.jwalk_job.proofs.ancestors.Ancestors.identities.Goals as goal

-- what is made of one more
one_more : {X Y Z : Type 0} (f : Y → Z) (view : X → Y) (xs : List X) (i : ℕ) (none : X) (known more : List Z) (one : Z) → i < length xs
    → known ≡ map f (map view (take i xs)) → more ≡ known ++ one ∷ [] → one ≡ f (view (get_or xs i none)) → more ≡ map f (map view (take (i + 1) xs))
one_more f view xs i none known more one lt so_far push is =
    push
    ∙ ap (λ l. l ++ one ∷ []) so_far
    ∙ ap (λ x. map f (map view (take i xs)) ++ x ∷ []) is
    ∙ sym (ap (λ l. map f (map view l)) (take_more xs i none lt)
    ∙ ap (map f) (map-append view (take i xs) (get_or xs i none ∷ []))
    ∙ map-append f (map view (take i xs)) (view (get_or xs i none) ∷ []))

pub loop-path-preserved : goal.loop-path-preserved
loop-path-preserved g c = λ fixed.
    let asked = identity_at (g.S.FileSystem.functions c.args.fs.now) in
    let xs = c.paths-paths.result.now in
    let i = c.loop-path.path-index in
    let x = c.path-item.result in
    let held = c.loop-path.invariant fixed in
    let at : x ≡ get_or xs i x = cc in
    let named = c.as_str-path.ensures.value ∙ ap string_bytes c.deref.ensures in
    let found = c.in_ok-identity.ensures fixed held.1 in (
      one_more asked text xs i x c.loop-path.known.items c.push.new.self.items c.in_ok-identity.identity c.loop-path-test.true
          held.0 c.in_ok-push.ensures.items (found ∙ ap asked (named ∙ ap text at)),
      found,
    )

pub returns : goal.returns
returns g c = λ fixed.
    let asked = identity_at (g.S.FileSystem.functions c.args.fs.now) in
    let xs = c.paths-paths.result.now in
    (c.loop-path.invariant fixed).0
    ∙ ap (λ l. map asked (map text l)) (take_all c.loop-path.path-index xs (omega arith))
    ∙ ap (map asked) c.paths-paths.ensures
