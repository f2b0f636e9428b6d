-- The printer of a search.
use Rattle.std.specs.Prelude.{◌≡◌, ℕ, Bool, List, [], Option, is_some}
use Rattle.jwalk.specs.jwalk_model.FileSystem.{Functions}
use Rattle.jwalk_ignore.specs.Rules.Texts.{Texts}
use Rattle.seek_words.specs.Filter.{sought_of}
use Rattle.seek_words.specs.Lines.{form_of, gathered_of}
use Rattle.seek_words.specs.declared.asked.Asked.{Asked}
use Rattle.seek_words.specs.declared.filter.Filter.{Filter}
use Rattle.seek_words.specs.declared.screen.Screen.{Screen}
use Rattle.seek_found.specs.SoughtTest.{takes_of}
use Rattle.seek_found.specs.declared.printer.Printer.{Printer}
use Rattle.seek_found.specs.declared.sought_test.SoughtTest.{SoughtTest}
use Rattle.seek_search.specs.Search.{form_before, front_if, limit_asked, sought_before}

-- The text is in front of a relative path if it is wanted. Over texts that always answer the same it is the folder that
-- the program runs in.
pub record IsFront (fixed : Type 0) (texts : Texts) (wanted : Bool) (front : Option (List ℕ)) : Type 0 where
  pub wanted_so : is_some front ≡ wanted
  pub found : fixed → front ≡ front_if wanted texts

-- The filter looks for what is asked for, over any file system.
pub record IsFilterFor (fixed : Type 0) (texts : Texts) (asked : Asked) (takes : List ℕ → Bool → Bool) (filter : Filter SoughtTest) : Type 0 where
  pub front : Option (List ℕ)
  pub is_front : IsFront fixed texts asked.full_path front
  pub sought : (fs : Functions) → sought_of takes_of fs filter ≡ sought_before fs front asked takes

-- The printer prints what is asked for, over any file system, and has printed nothing yet.
pub record IsPrinterFor (fixed : Type 0) (texts : Texts) (screen : Screen) (asked : Asked) (takes : List ℕ → Bool → Bool) (printer : Printer SoughtTest) : Type 0 where
  pub filter : IsFilterFor fixed texts asked takes printer.filter
  pub shown : Option (List ℕ)
  pub is_shown : IsFront fixed texts asked.absolute shown
  pub form : (fs : Functions) → form_of fs printer.lines ≡ form_before fs shown screen asked
  pub limit : printer.left ≡ limit_asked asked
  pub empty : gathered_of printer.lines ≡ []
