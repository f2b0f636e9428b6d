use Rattle.std.proofs.Common.{◌≡◌, ◌∙◌, ◌++◌, map, reverse, true, false, refl, sym, ap}
use Rattle.std.proofs.lemmas.List.{append-nil}
use Rattle.jwalk_job.specs.ReadDir.{reading}
use Rattle.jwalk_job.specs.Entry.{item}
use Rattle.jwalk_job.specs.Job.{greatest_depth}
use Rattle.jwalk_iter.specs.DirEntryIter.{job_of, items_of, unread_of}
use Rattle.jwalk_iter.proofs.AheadFacts.{begins_with_none}
use Rattle.jwalk_iter.proofs.StartFacts.{holds_refusal, refusal_sourced, holds_root, at_root, within_root, root_sourced}
use Rattle.jwalk_iter.proofs.PlacedFacts.{none_placed, root_placed}
use Rattle.jwalk_iter.proofs.entries.starts.DirEntryIter+C+S+P+A+L.from_root.Goals as goal

pub returns-in-Ok-clause-within : goal.returns-in-Ok-clause-within
returns-in-Ok-clause-within g c =
    within_root (greatest_depth (job_of c.begin.new.self)) (items_of c.begin.new.self)
    (at_root (reading c.in-Some.read).list (items_of c.begin.new.self) (items_of c.refused-walk.result) c.in-Ok.ensures.items c.refused-walk.ensures.items (rw c.in-Some.is at c.requires))

pub returns-in-Ok-clause-sourced : goal.returns-in-Ok-clause-sourced
returns-in-Ok-clause-sourced g c =
    root_sourced g.C.ReadDirState.Clone (reading c.in-Some.read) c.refused-walk.result c.begin.new.self (record c.begin.new.self { refused = false }) refl refl refl c.refused-walk.ensures.items c.in-Ok.ensures.items c.in-Ok.ensures.children

pub returns-in-Ok-clause-held : goal.returns-in-Ok-clause-held
returns-in-Ok-clause-held g c = λ given counts started.
    rw c.in-Some.is
    (holds_root g.C.ReadDirState.Clone given (reading c.in-Some.read) c.refused-walk.result c.begin.new.self (record c.begin.new.self { refused = false }) counts refl refl refl c.refused-walk.ensures.items c.in-Ok.ensures.items c.in-Ok.ensures.children)

pub returns-in_default-clause-own : goal.returns-in_default-clause-own
returns-in_default-clause-own g c = c.refused-walk.ensures.own

pub returns-in_default-clause-job : goal.returns-in_default-clause-job
returns-in_default-clause-job g c = c.refused-walk.ensures.job

pub returns-in_default-clause-depth : goal.returns-in_default-clause-depth
returns-in_default-clause-depth g c = λ started. absurd (let no : true ≡ false = sym c.refused-walk.ensures.refused ∙ started in cc)

pub returns-in_default-clause-list : goal.returns-in_default-clause-list
returns-in_default-clause-list g c = λ started. absurd (let no : true ≡ false = sym c.refused-walk.ensures.refused ∙ started in cc)

pub returns-in_default-clause-width : goal.returns-in_default-clause-width
returns-in_default-clause-width g c = c.refused-walk.ensures.width

pub returns-in_default-clause-ahead : goal.returns-in_default-clause-ahead
returns-in_default-clause-ahead g c = c.refused-walk.ensures.ahead

pub returns-in_default-clause-held : goal.returns-in_default-clause-held
returns-in_default-clause-held g c = λ given counts started. absurd (let no : true ≡ false = sym c.refused-walk.ensures.refused ∙ started in cc)

pub returns-in-Ok-clause-own : goal.returns-in-Ok-clause-own
returns-in-Ok-clause-own g c = ap (λ b. b.by_crew) c.begin.ensures.base ∙ c.refused-walk.ensures.own

pub returns-in-Ok-clause-job : goal.returns-in-Ok-clause-job
returns-in-Ok-clause-job g c = ap (λ b. b.job) c.begin.ensures.base ∙ c.refused-walk.ensures.job

pub returns-in-Ok-clause-refused : goal.returns-in-Ok-clause-refused
returns-in-Ok-clause-refused g c = λ refused. absurd cc

pub returns-in-Ok-clause-depth : goal.returns-in-Ok-clause-depth
returns-in-Ok-clause-depth g c = λ started. at_root (reading c.in-Some.read).list (items_of c.begin.new.self) (items_of c.refused-walk.result) c.in-Ok.ensures.items c.refused-walk.ensures.items (rw c.in-Some.is at c.requires)

pub returns-in-Ok-clause-list : goal.returns-in-Ok-clause-list
returns-in-Ok-clause-list g c = λ started.
    rw c.in-Some.is
    (c.in-Ok.ensures.items ∙ ap (λ l. (reading c.in-Some.read).list ++ l) c.refused-walk.ensures.items ∙ append-nil (reading c.in-Some.read).list)

pub returns-in-Ok-clause-width : goal.returns-in-Ok-clause-width
returns-in-Ok-clause-width g c = ap (λ b. b.width) c.begin.ensures.base ∙ c.refused-walk.ensures.width

pub returns-in-Ok-clause-ahead : goal.returns-in-Ok-clause-ahead
returns-in-Ok-clause-ahead g c = c.in-Ok.ensures.ahead

pub returns-in-Err-clause-own : goal.returns-in-Err-clause-own
returns-in-Err-clause-own g c = ap (λ b. b.by_crew) (c.stop.ensures.base ∙ c.begin.ensures.base) ∙ c.refused-walk.ensures.own

pub returns-in-Err-clause-job : goal.returns-in-Err-clause-job
returns-in-Err-clause-job g c = ap (λ b. b.job) (c.stop.ensures.base ∙ c.begin.ensures.base) ∙ c.refused-walk.ensures.job

pub returns-in-Err-clause-depth : goal.returns-in-Err-clause-depth
returns-in-Err-clause-depth g c = λ started. absurd (let no : true ≡ false = sym (c.begin.ensures.refused ∙ c.refused-walk.ensures.refused) ∙ started in cc)

pub returns-in-Err-clause-list : goal.returns-in-Err-clause-list
returns-in-Err-clause-list g c = λ started. absurd (let no : true ≡ false = sym (c.begin.ensures.refused ∙ c.refused-walk.ensures.refused) ∙ started in cc)

pub returns-in-Err-clause-width : goal.returns-in-Err-clause-width
returns-in-Err-clause-width g c = ap (λ b. b.width) (c.stop.ensures.base ∙ c.begin.ensures.base) ∙ c.refused-walk.ensures.width

pub returns-in-Err-clause-ahead : goal.returns-in-Err-clause-ahead
returns-in-Err-clause-ahead g c = begins_with_none _ _ _ c.stop.ensures.to_read (c.stop.ensures.frontier (ap (λ b. b.by_crew) c.begin.ensures.base ∙ c.refused-walk.ensures.own)) c.stop.ensures.read_ahead

pub returns-in-Err-clause-held : goal.returns-in-Err-clause-held
returns-in-Err-clause-held g c = λ given counts started. absurd (let no : true ≡ false = sym (c.begin.ensures.refused ∙ c.refused-walk.ensures.refused) ∙ started in cc)

pub returns-in-Err-clause-refused : goal.returns-in-Err-clause-refused
returns-in-Err-clause-refused g c = λ refused. record { tells = holds_refusal (record c.begin.new.self { reads = c.stop.new.self; items = c.clear.new.self }) refused (ap (λ l. map item (reverse l)) c.clear.ensures.items); nothing_unread = c.stop.ensures.to_read }

pub returns-in-Err-clause-sourced : goal.returns-in-Err-clause-sourced
returns-in-Err-clause-sourced g c = refusal_sourced (record c.begin.new.self { reads = c.stop.new.self; items = c.clear.new.self }) (c.begin.ensures.refused ∙ c.refused-walk.ensures.refused) (ap (λ l. map item (reverse l)) c.clear.ensures.items) c.stop.ensures.to_read

pub returns-in_default-clause-placed : goal.returns-in_default-clause-placed
returns-in_default-clause-placed g c = none_placed (items_of c.refused-walk.result) (unread_of c.refused-walk.result) c.refused-walk.ensures.unread

pub returns-in-Ok-clause-placed : goal.returns-in-Ok-clause-placed
returns-in-Ok-clause-placed g c =
    root_placed g.C.ReadDirState.Clone.is_clone (reading c.in-Some.read) (items_of c.begin.new.self) (unread_of c.begin.new.self)
    (c.in-Ok.ensures.items ∙ ap (λ l. (reading c.in-Some.read).list ++ l) c.refused-walk.ensures.items ∙ append-nil (reading c.in-Some.read).list)
    c.in-Ok.ensures.children

pub returns-in-Err-clause-placed : goal.returns-in-Err-clause-placed
returns-in-Err-clause-placed g c = none_placed _ _ c.stop.ensures.to_read
