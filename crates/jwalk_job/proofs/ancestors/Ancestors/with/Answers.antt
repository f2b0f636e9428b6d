use Rattle.std.proofs.Common.{◌≡◌, ◌∙◌, ◌∷◌, ◌++◌, [], List, map, ap, refl}
use Rattle.std.specs.Prelude.{String, string_bytes}
use Rattle.std.specs.Arc.{arc_value}
use Rattle.std.specs.declared.sync.Arc.{Arc}
use Rattle.std.specs.List.{AllZip}
use Rattle.std.proofs.lemmas.List.{map-append}
use Rattle.jwalk_job.specs.Text.{text}
use Rattle.jwalk_job.specs.Ancestors.{texts}
use Rattle.jwalk_job.proofs.ancestors.Ancestors.with.Goals as goal

-- handles of the same texts
clones_of : {A : Type 0} (l m : List (Arc (String A) A)) → AllZip (λ c d. arc_value d ≡ arc_value c) l m → map text m ≡ map text l
clones_of [] [] h = refl
clones_of [] (y ∷ m) h = absurd h
clones_of (x ∷ l) [] h = absurd h
clones_of (x ∷ l) (y ∷ m) h = ap (λ t. string_bytes t ∷ map text m) h.0 ∙ ap (λ r. text x ∷ r) (clones_of l m h.1)

pub returns : goal.returns
returns g c =
    let added = c.in_ok-extend_with_clones.ensures.items in
    let one = text c.args.path ∷ [] in
    let before = map text c.extend_with_clones.new.self.items in
    let above : before ≡ texts c.args.self.now =
    ap (map text) (added.1 ∙ ap (λ l. l ++ added.0) c.in_ok-all.ensures.items) ∙ clones_of c.paths-above.result.now added.0 added.2 ∙ c.paths-above.ensures in
    ap (λ v. map text v.items) c.in_ok-new.ensures.ok
    ∙ ap (map text) c.in_ok-push.ensures.items
    ∙ map-append text c.extend_with_clones.new.self.items (c.args.path ∷ [])
    ∙ ap (λ l. l ++ one) above
