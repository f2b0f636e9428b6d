-- Which results are written.
use Rattle.std.specs.Prelude.{ℕ, ◌-◌, ◌^◌, ◌==◌, nat_le, Bool, ◌&&◌, ◌||◌, unwrap_or}
use Rattle.jwalk.specs.jwalk_model.Entry.{Entry}
use Rattle.jwalk.specs.jwalk_model.FileType.{is_dir}
use Rattle.tally_words.specs.declared.asked.Asked.{Asked}
use Rattle.tally_words.specs.declared.form.Form.{Form}
use Rattle.tally_words.specs.declared.form.Form.TheVariants.{Table}
use Rattle.tally_run.specs.declared.shown.Shown.{Shown}

-- up to which depth results are written where none is named
abbrev pub any_depth : Form → ℕ
any_depth Table = 1
any_depth _ = 2 ^ 64 - 1

-- which results are asked for
abbrev pub shown_asked : Asked → Shown
shown_asked asked = record { all = asked.all; greatest = unwrap_or asked.depth (any_depth asked.form) }

-- whether the result of an entry is written: it is not too deep, and it is a directory or a root, or all are written
abbrev pub is_shown : {R E : Type 0} → Shown → Entry R E → Bool
is_shown shown e = nat_le e.depth shown.greatest && (shown.all || ((e.depth == 0) || is_dir e.file_type))
