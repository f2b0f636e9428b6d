use Rattle.std.proofs.Common.{◌∙◌, ◌++◌, ap}
use Rattle.std.proofs.lemmas.Result.{on_ok_weaker}
use Rattle.seek_colors.specs.Palette.{colored_path, colors_of}
use Rattle.seek_words.proofs.paint.Paint.write.Goals as goal

pub returns-clause-path : goal.returns-clause-path
returns-clause-path g c =
    on_ok_weaker c.write.result
    (λ is. λ known. is ∙ ap (λ kind. c.args.out.now.items ++ colored_path (colors_of c.args.self.now.palette) kind c.args.folder.now c.args.name.now) (c.in_ok-kind.ensures known))
    c.write.ensures
