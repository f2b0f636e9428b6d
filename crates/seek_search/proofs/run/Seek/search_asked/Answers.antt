use Rattle.std.proofs.Common.{◌≡◌, ◌∙◌, Bool, true, false, Some, Result, Ok, Err, ap, refl, subst, sym}
use Rattle.std.specs.Prelude.{if◌then◌else◌, IfOk}
use Rattle.std.specs.List.{list_any}
use Rattle.std.proofs.lemmas.Bool.{true≢false}
use Rattle.std.proofs.lemmas.Result.{IfOk-weaker}
use Rattle.program_walks.specs.Crew.{threads_in, IsCrewOf}
use Rattle.seek_words.specs.Sought.{Sought}
use Rattle.seek_found.specs.Limit.{is_hit}
use Rattle.seek_found.proofs.FirstFacts.{none_of_first}
use Rattle.seek_found.proofs.RootsFacts.{found_if_full, printed_such, such_printed_by}
use Rattle.seek_search.specs.KeptLinks.{functions_kept}
use Rattle.seek_search.specs.Printing.{IsFront}
use Rattle.seek_search.specs.Search.{form_before, front_if, positive, roots_asked, sought_before}
use Rattle.seek_search.specs.declared.kept_links.KeptLinks.{KeptLinks}
use Rattle.program_walks.proofs.FolderFacts.{reads_as}
use Rattle.seek_found.proofs.FoundFacts.{asked_if}
use Rattle.seek_search.proofs.RunFacts.{form_over, printed_over, quiet_asks_nothing, sought_over}
use Rattle.seek_search.proofs.SearchFacts.{same_below, stops_sooner}
use Rattle.seek_found.specs.Sought.{takes_by}
use Rattle.seek_search.proofs.run.Seek.search_asked.Goals as goal

-- what holds of a result follows from three facts of it
from_three : {T E : Type 0} (r : Result T E) (P Q R S : T → Type 0) → ((x : T) → P x → Q x → R x → S x) → IfOk r P → IfOk r Q → IfOk r R → IfOk r S
from_three (Ok x) P Q R S is p q r = is x p q r
from_three (Err y) P Q R S is p q r = tt

-- a limit that is reached unless there is room
reached : (full : Bool) {X : Type 0} → (full ≡ false → X → ⊥) → X → full ≡ true
reached true room stops = refl
reached false room stops = absurd (room refl stops)

pub returns-clause-whole : goal.returns-clause-whole
returns-clause-whole g c =
    let asked = c.args.asked.now in
    let made = c.in_ok-printer.ensures in
    let disk = c.in_ok-shared.ensures in
    let texts = c.in_ok-shared-2.ensures in
    let looked = sought_over (λ (d : KeptLinks _). functions_kept d.follow (g.S.FileSystem.functions d.disk)) c.in_ok-printer.printer.filter asked disk made.filter.sought in
    let formed = form_over (λ (d : KeptLinks _). functions_kept d.follow (g.S.FileSystem.functions d.disk)) c.in_ok-printer.printer.lines c.args.self.screen asked disk made.form in
    IfOk-weaker c.print.result _ _
    (λ ended whole. λ is fixed told.
    let told_so = subst g.X.Texts.IsFixed (sym texts) told in
    (printed_over c.args.given.now asked (ap (λ (d : KeptLinks _). functions_kept d.follow (g.S.FileSystem.functions d.disk)) disk) (ap g.X.Texts.functions texts)
    (looked ∙ ap (λ front. sought_before (g.S.FileSystem.functions c.args.self.disk) front asked (takes_by c.args.sought.now)) (made.filter.is_front.found told_so ∙ ap (λ x. front_if asked.full_path (g.X.Texts.functions x)) texts))
    (formed ∙ ap (λ front. form_before (functions_kept asked.follow (g.S.FileSystem.functions c.args.self.disk)) front c.args.self.screen asked) (made.is_shown.found told_so ∙ ap (λ x. front_if asked.absolute (g.X.Texts.functions x)) texts))
    made.limit (whole (subst (λ (d : KeptLinks _). g.S.FileSystem.IsFixed d.disk) (sym disk) fixed) told_so made.empty)).first is)
    c.print.ensures.whole

pub returns-clause-one : goal.returns-clause-one
returns-clause-one g c =
    let asked = c.args.asked.now in
    let made = c.in_ok-printer.ensures in
    let disk = c.in_ok-shared.ensures in
    let texts = c.in_ok-shared-2.ensures in
    let looked = sought_over (λ (d : KeptLinks _). functions_kept d.follow (g.S.FileSystem.functions d.disk)) c.in_ok-printer.printer.filter asked disk made.filter.sought in
    let formed = form_over (λ (d : KeptLinks _). functions_kept d.follow (g.S.FileSystem.functions d.disk)) c.in_ok-printer.printer.lines c.args.self.screen asked disk made.form in
    from_three c.print.result _ _ _ _
    (λ ended whole filled room. λ quiet fixed told.
    let told_so = subst g.X.Texts.IsFixed (sym texts) told in
    let limited = ap (λ b. if b then Some 1 else positive asked.max_results) quiet in
    let printed = printed_over c.args.given.now asked (ap (λ (d : KeptLinks _). functions_kept d.follow (g.S.FileSystem.functions d.disk)) disk) (ap g.X.Texts.functions texts)
    (looked ∙ ap (λ front. sought_before (g.S.FileSystem.functions c.args.self.disk) front asked (takes_by c.args.sought.now)) (made.filter.is_front.found told_so ∙ ap (λ x. front_if asked.full_path (g.X.Texts.functions x)) texts))
    (formed ∙ ap (λ front. form_before (functions_kept asked.follow (g.S.FileSystem.functions c.args.self.disk)) front c.args.self.screen asked) (made.is_shown.found told_so ∙ ap (λ x. front_if asked.absolute (g.X.Texts.functions x)) texts))
    made.limit (whole (subst (λ (d : KeptLinks _). g.S.FileSystem.IsFixed d.disk) (sym disk) fixed) told_so made.empty) in
    record {
      one = λ full. printed.one limited (filled full);
      none = λ more clean. none_of_first printed limited clean (room more);
    })
    c.print.ensures.whole c.print.ensures.full c.print.ensures.room

pub returns-clause-yielded : goal.returns-clause-yielded
returns-clause-yielded g c =
    let asked = c.args.asked.now in
    let made = c.in_ok-printer.ensures in
    let looked = sought_over (λ (d : KeptLinks _). functions_kept d.follow (g.S.FileSystem.functions d.disk)) c.in_ok-printer.printer.filter asked c.in_ok-shared.ensures made.filter.sought in
    let formed = form_over (λ (d : KeptLinks _). functions_kept d.follow (g.S.FileSystem.functions d.disk)) c.in_ok-printer.printer.lines c.args.self.screen asked c.in_ok-shared.ensures made.form in
    let stays = subst (λ (d : KeptLinks _). g.S.FileSystem.IsFixed d.disk) (sym c.in_ok-shared.ensures) in
    let crewed = subst (λ n. IsCrewOf n c.in_ok-crew_with.field-0) (c.threads_in.ensures ∙ ap (threads_in c.args.self.cores) c.threads_asked.ensures) c.in_ok-crew_with.ensures in
    let crews = reads_as stays (ap (λ (d : KeptLinks _). functions_kept d.follow (g.S.FileSystem.functions d.disk)) c.in_ok-shared.ensures) in
    IfOk-weaker c.print.result _ _
    (λ ended prints. record {
      crew = c.in_ok-crew_with.field-0;
      is_crew = crewed;
      front = made.filter.front;
      in_front = subst (λ x. IsFront (g.X.Texts.IsFixed x) (g.X.Texts.functions x) asked.full_path made.filter.front) c.in_ok-shared-2.ensures made.filter.is_front;
      shown = made.shown;
      is_shown = subst (λ x. IsFront (g.X.Texts.IsFixed x) (g.X.Texts.functions x) asked.absolute made.shown) c.in_ok-shared-2.ensures made.is_shown;
      left = c.print.new.printer.left;
      printed = λ known. such_printed_by looked formed made.limit
          (printed_such (same_below _ _ _ asked _ (roots_asked asked) crews c.in_ok-shared.ensures c.in_ok-shared-2.ensures looked) (prints made.empty (asked_if looked formed stays known)));
    })
    c.print.ensures.yielded

pub returns-clause-found : goal.returns-clause-found
returns-clause-found g c =
    let asked = c.args.asked.now in
    let made = c.in_ok-printer.ensures in
    let looked = sought_over (λ (d : KeptLinks _). functions_kept d.follow (g.S.FileSystem.functions d.disk)) c.in_ok-printer.printer.filter asked c.in_ok-shared.ensures made.filter.sought in
    let formed = form_over (λ (d : KeptLinks _). functions_kept d.follow (g.S.FileSystem.functions d.disk)) c.in_ok-printer.printer.lines c.args.self.screen asked c.in_ok-shared.ensures made.form in
    let stays = subst (λ (d : KeptLinks _). g.S.FileSystem.IsFixed d.disk) (sym c.in_ok-shared.ensures) in
    let crewed = subst (λ n. IsCrewOf n c.in_ok-crew_with.field-0) (c.threads_in.ensures ∙ ap (threads_in c.args.self.cores) c.threads_asked.ensures) c.in_ok-crew_with.ensures in
    let crews = reads_as stays (ap (λ (d : KeptLinks _). functions_kept d.follow (g.S.FileSystem.functions d.disk)) c.in_ok-shared.ensures) in
    from_three c.print.result _ _ _ _
    (λ ended prints filled room. λ quiet empties.
    let none = quiet_asks_nothing (functions_kept asked.follow (g.S.FileSystem.functions c.args.self.disk)) made.shown c.args.self.screen asked quiet in
    let yielded = prints made.empty (asked_if looked formed stays (empties, λ links. absurd (true≢false (sym links ∙ none)))) in
    let limited = made.limit ∙ ap (λ b. if b then Some 1 else positive asked.max_results) quiet in
    record {
      crew = c.in_ok-crew_with.field-0;
      is_crew = crewed;
      front = made.filter.front;
      in_front = subst (λ x. IsFront (g.X.Texts.IsFixed x) (g.X.Texts.functions x) asked.full_path made.filter.front) c.in_ok-shared-2.ensures made.filter.is_front;
      answers = yielded.answers;
      yielded = stops_sooner _ _ _ _ _ _ asked _ _ _ (reached ended.full room) (roots_asked asked) yielded.answers (same_below _ _ _ asked _ (roots_asked asked) crews c.in_ok-shared.ensures c.in_ok-shared-2.ensures looked yielded.answers yielded.such);
      one = subst (λ (s : Sought). list_any (is_hit s) yielded.answers ≡ ended.full) looked (found_if_full yielded limited ended.full filled room);
      all = yielded.all;
    })
    c.print.ensures.yielded c.print.ensures.full c.print.ensures.room
