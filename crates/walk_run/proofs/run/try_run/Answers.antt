use Rattle.std.proofs.Common.{◌≤◌, map, string_bytes}
use Rattle.std.proofs.lemmas.Result.{IfOk-weaker}
use Rattle.walk_run.specs.Run.{BeginsWalk}
use Rattle.walk_run.specs.AskedWalk.{PrintsOver}
use Rattle.walk_run.proofs.RunFacts.{first_makes, ok_two, of_tree, of_disk}
use Rattle.walk_run.proofs.run.try_run.Goals as goal

pub returns-clause-begins : goal.returns-clause-begins
returns-clause-begins g c =
    let request = c.in-Some.request in
    let goes = c.in_ok-source.ensures.over in
    let begun : BeginsWalk (map string_bytes c.args.words.now) (g.R.Read.remaining c.args.input.now) = record {
      asked = request.asked;
      root = request.root.now;
      ask = c.in-Some.ensures.some;
      tree = goes.tree;
      wanted = goes.wanted;
      builds = goes.builds;
    } in
    IfOk-weaker c.print_asked.result (λ status. status ≤ 1) (λ _. BeginsWalk (map string_bytes c.args.words.now) (g.R.Read.remaining c.args.input.now)) (λ status small. begun) c.print_asked.ensures.status

pub returns-clause-printed : goal.returns-clause-printed
returns-clause-printed g c =
    let request = c.in-Some.request in
    let goes = c.in_ok-source.ensures.over in
    let source = c.in_ok-source.source in
    let old = g.W.Write.contents c.args.out.now in
    let new = g.W.Write.contents c.print_asked.new.out in
    ok_two c.print_asked.result _ _ _ c.print_asked.ensures.walked c.print_asked.ensures.printed (λ status walked prints clean. record {
      printed = record {
        walk = record { asked = request.asked; root = request.root.now; ask = c.in-Some.ensures.some; tree = goes.tree; wanted = goes.wanted; builds = goes.builds };
        source = source;
        over = goes.over;
        begun = walked clean;
      };
      over_tree = of_tree c.args.disk source g.S.FileSystem.IsFixed g.S.FileSystem.functions (λ fs. PrintsOver fs request.asked request.root.now old new) goes.tree goes.over (prints clean);
      over_disk = of_disk c.args.disk source g.S.FileSystem.IsFixed g.S.FileSystem.functions (λ fs. PrintsOver fs request.asked request.root.now old new) goes.tree goes.over (prints clean);
    })

pub returns-clause-failed : goal.returns-clause-failed
returns-clause-failed g c =
    let request = c.in-Some.request in
    let goes = c.in_ok-source.ensures.over in
    IfOk-weaker c.print_asked.result _ _ (λ status failed one. first_makes (failed one) (λ begun. record {
      walk = record { asked = request.asked; root = request.root.now; ask = c.in-Some.ensures.some; tree = goes.tree; wanted = goes.wanted; builds = goes.builds };
      source = c.in_ok-source.source;
      over = goes.over;
      begun = begun;
    })) c.print_asked.ensures.failed
