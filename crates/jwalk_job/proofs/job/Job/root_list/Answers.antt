use Rattle.std.proofs.Common.{◌≡◌, ◌∙◌, ◌∷◌, ◌++◌, [], List, None, refl, length, map, ap, sym}
use Rattle.std.proofs.lemmas.List.{length-map}
use Rattle.std.specs.Prelude.{string_bytes}
use Rattle.jwalk_model.specs.Counted.{Worth}
use Rattle.jwalk_model.specs.ReadDir.{Reading}
use Rattle.jwalk_job.specs.Entry.{item}
use Rattle.jwalk_job.specs.Given.{counted_item, counted_reading}
use Rattle.jwalk_job.proofs.GivenFacts.{of_root, same_call}
use Rattle.jwalk_job.proofs.job.Job.root_list.Goals as goal

-- the list that the callback is given
one_item : {X Y : Type 0} (view : X → Y) (made : X) (start list : List X) → start ≡ [] → list ≡ start ++ made ∷ [] → map view list ≡ view made ∷ []
one_item view made start list none added = ap (map view) (added ∙ ap (λ l. l ++ made ∷ []) none)

-- a list that counts as one of one item has one item
one_kept : {X Y Z : Type 0} (view : Y → Z) (item : X → Y) (new old : List X) → map view (map item new) ≡ map view (map item old) → length old ≡ 1 → length (map item new) ≡ 1
one_kept view item new old same one =
    sym (length-map (map item new) view) ∙ ap length same ∙ length-map (map item old) view ∙ length-map old item ∙ one

pub returns-clause-depth : goal.returns-clause-depth
returns-clause-depth g c =
    rw (ap (λ (r : Reading g.row.C-ReadDirState.Denot g.row.C-DirEntryState.Denot). r.list) c.new.ensures)
    c.in_ok-process.ensures.depths

pub returns-clause-value : goal.returns-clause-value
returns-clause-value g c = λ given steady.
    let path = c.as_str.ensures.value ∙ ap string_bytes c.deref.ensures ∙ c.in_ok-item.ensures.parent given steady.file_system steady.default in
    let items = ap (map (counted_item given)) (one_item item c.in_ok-item.field-0.item c.new-items.result.items c.push.new.self.items c.new-items.ensures.items c.in_ok-push.ensures.items) ∙ ap (λ i. i ∷ []) (c.in_ok-item.ensures.value given steady.file_system steady.default) in
    same_call (given.processed None) path refl items (c.in_ok-process.ensures.made given steady.callback)
    ∙ sym (ap (counted_reading given) c.new.ensures)

pub returns-clause-one : goal.returns-clause-one
returns-clause-one g c = λ given makes keeps.
    let made = c.in_ok-process.ensures.made given makes in
    let same = ap (λ (r : Reading Worth Worth). r.list) (sym made ∙ keeps None _ _ _) in
    let one = ap length (c.in_ok-push.ensures.items ∙ ap (λ l. l ++ c.in_ok-item.field-0.item ∷ []) c.new-items.ensures.items) in
    ap (λ (r : Reading g.row.C-ReadDirState.Denot g.row.C-DirEntryState.Denot). length r.list) c.new.ensures ∙ one_kept (counted_item given) item _ _ same one

pub returns-clause-root : goal.returns-clause-root
returns-clause-root g c = λ keeps.
    let one = one_item item c.in_ok-item.field-0.item c.new-items.result.items c.push.new.self.items c.new-items.ensures.items c.in_ok-push.ensures.items in
    rw (ap (λ (r : Reading g.row.C-ReadDirState.Denot g.row.C-DirEntryState.Denot). r.list) c.new.ensures)
    (of_root (item c.in_ok-item.field-0.item) _ _ one (c.in_ok-process.ensures.root keeps refl))
