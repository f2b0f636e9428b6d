-- The printed lines.
use Rattle.std.specs.Prelude.{ℕ, Bool, List}
use Rattle.jwalk_model.specs.FileSystem.{Functions}
use Rattle.seek_words.specs.Layout.{Form, form_in}
use Rattle.seek_words.specs.declared.lines.Lines.{Lines}

-- the form of their lines over a file system
abbrev pub form_of : Functions → Lines → Form
form_of fs lines = form_in fs lines.layout

-- the bytes that aren't written yet
abbrev pub gathered_of : Lines → List ℕ
gathered_of lines = lines.gathered.bytes.items

-- whether a line was printed
abbrev pub has_printed : Lines → Bool
has_printed lines = lines.has_printed
