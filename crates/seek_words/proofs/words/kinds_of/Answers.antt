use Rattle.std.proofs.Common.{rules, ◌≡◌, refl}
use Rattle.program_parts.specs.Values.{texts_of}
use Rattle.seek_words.specs.Asks.{kinds_in}
use Rattle.seek_words.proofs.words.kinds_of.Goals as goal

pub returns : goal.returns
returns c =
    let dir : c.if-names_one.result ≡ (kinds_in (texts_of c.args.names.now)).dir = search rules in
    rw (c.names_one.ensures, dir, c.names_one-3.ensures, c.names_one-4.ensures, c.names_one-5.ensures, c.names_one-6.ensures, c.names_one-7.ensures, c.names_one-8.ensures, c.names_one-9.ensures, c.names_one-10.ensures) refl
