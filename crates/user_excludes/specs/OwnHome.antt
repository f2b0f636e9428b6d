-- Where a user's own files are, as it is kept.
use Rattle.std.specs.Prelude.{string_bytes}
use Rattle.user_excludes.specs.Home.{Home}
use Rattle.user_excludes.specs.declared.home.OwnHome.{OwnHome}

abbrev pub own_home_value : OwnHome → Home
own_home_value own = record { home = string_bytes own.home; config = string_bytes own.config }
