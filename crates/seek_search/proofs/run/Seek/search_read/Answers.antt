use Rattle.std.proofs.Common.{◌≡◌, ◌∙◌, ap, ap₂, subst, sym}
use Rattle.std.proofs.lemmas.Result.{IfOk-weaker}
use Rattle.user_excludes.specs.Home.{home_value}
use Rattle.user_excludes.specs.UserTexts.{home_of, texts_behind, with_user}
use Rattle.seek_search.specs.Printing.{IsFront}
use Rattle.seek_search.specs.Run.{FindsRead, PrintsRead}
use Rattle.seek_search.specs.RulesRead.{home_asked, lines_asked}
use Rattle.seek_search.proofs.RunFacts.{found_if, front_behind, printed_if}
use Rattle.seek_search.proofs.run.Seek.search_read.Goals as goal

pub returns-clause-yielded : goal.returns-clause-yielded
returns-clause-yielded g c =
    IfOk-weaker c.search_asked.result _ _
    (λ ended prints. record {
      reads = c.new-texts.result;
      behind = c.new-texts.ensures.texts;
      own = c.new-texts.ensures.home ∙ c.in_ok-home_asked.ensures;
      lines = _;
      named = λ told. c.as_slice.ensures.value ∙ c.in_ok-lines.ensures told;
      known = printed_if _ _ (λ still. still) (λ wanted front is. subst (λ x. IsFront (g.X.Texts.IsFixed x) (g.X.Texts.functions x) wanted front) c.new-texts.ensures.texts (front_behind (home_of c.new-texts.result) wanted front is)) c.new-texts.result _ prints;
    })
    c.search_asked.ensures.yielded

pub returns-clause-found : goal.returns-clause-found
returns-clause-found g c =
    IfOk-weaker c.search_asked.result _ _
    (λ ended finds. λ quiet empties. record {
      reads = c.new-texts.result;
      behind = c.new-texts.ensures.texts;
      own = c.new-texts.ensures.home ∙ c.in_ok-home_asked.ensures;
      lines = _;
      named = λ told. c.as_slice.ensures.value ∙ c.in_ok-lines.ensures told;
      known = found_if _ _ (λ still. still) (λ wanted front is. subst (λ x. IsFront (g.X.Texts.IsFixed x) (g.X.Texts.functions x) wanted front) c.new-texts.ensures.texts (front_behind (home_of c.new-texts.result) wanted front is)) c.new-texts.result _ (finds quiet empties);
    })
    c.search_asked.ensures.found

pub returns-clause-whole : goal.returns-clause-whole
returns-clause-whole g c =
    let disk = g.S.FileSystem.functions c.args.self.disk in
    let texts = g.X.Texts.functions c.args.self.texts in
    let asked = c.args.asked.now in
    let behind = g.X.Texts.functions (texts_behind c.new-texts.result) in
    let same : with_user (home_of c.new-texts.result) behind ≡ with_user (home_asked (home_value c.args.self.home) asked) texts
    = ap₂ with_user (c.new-texts.ensures.home ∙ c.in_ok-home_asked.ensures) (ap g.X.Texts.functions c.new-texts.ensures.texts) in
    IfOk-weaker c.search_asked.result _ _
    (λ ended whole. λ clean fixed told.
    let lines = c.as_slice.ensures.value ∙ c.in_ok-lines.ensures told in
    subst (λ t. PrintsRead disk t (lines_asked texts asked) c.args.self.screen asked c.args.sought.now (g.W.Write.contents c.args.out.now) (g.W.Write.contents c.search_asked.new.out)) same
    (subst (λ l. PrintsRead disk (with_user (home_of c.new-texts.result) behind) l c.args.self.screen asked c.args.sought.now (g.W.Write.contents c.args.out.now) (g.W.Write.contents c.search_asked.new.out)) lines
    (whole clean fixed (subst g.X.Texts.IsFixed (sym c.new-texts.ensures.texts) told))))
    c.search_asked.ensures.whole

pub returns-clause-one : goal.returns-clause-one
returns-clause-one g c =
    let disk = g.S.FileSystem.functions c.args.self.disk in
    let texts = g.X.Texts.functions c.args.self.texts in
    let asked = c.args.asked.now in
    let behind = g.X.Texts.functions (texts_behind c.new-texts.result) in
    let same : with_user (home_of c.new-texts.result) behind ≡ with_user (home_asked (home_value c.args.self.home) asked) texts
    = ap₂ with_user (c.new-texts.ensures.home ∙ c.in_ok-home_asked.ensures) (ap g.X.Texts.functions c.new-texts.ensures.texts) in
    IfOk-weaker c.search_asked.result _ _
    (λ ended one. λ quiet fixed told.
    let lines = c.as_slice.ensures.value ∙ c.in_ok-lines.ensures told in
    subst (λ t. FindsRead disk t (lines_asked texts asked) asked c.args.sought.now ended) same
    (subst (λ l. FindsRead disk (with_user (home_of c.new-texts.result) behind) l asked c.args.sought.now ended) lines
    (one quiet fixed (subst g.X.Texts.IsFixed (sym c.new-texts.ensures.texts) told))))
    c.search_asked.ensures.one
