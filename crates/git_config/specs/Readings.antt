-- What is read of a configuration, as the code keeps it.
use Rattle.std.specs.Prelude.{ℕ, ◌+◌, List, [], ◌∷◌, ◌++◌, Option, Some, None, option_map, map}
use Rattle.git_config.specs.Config.{behind, read, setting_of, Blank, Config, Enters, Fails, FailsNext, Goes, Place, Sets, Setting, Step}
use Rattle.git_config.specs.declared.config.Config.{Config as CodeConfig}
use Rattle.git_config.specs.declared.config.Reading.{Reading as CodeReading}
use Rattle.git_config.specs.declared.config.Setting.{Setting as CodeSetting}

-- What is read of a configuration up to a byte: its settings, unless a line was bad, the section there and the line.
pub record Reading : Type 0 where
  pub settings : List Setting
  pub bad : Option ℕ
  pub section : List ℕ
  pub line : ℕ

abbrev pub setting_value : CodeSetting → Setting
setting_value setting = record { name = setting.name.items; value = option_map (λ text. text.items) setting.value; line = setting.line }

abbrev pub config_value : CodeConfig → Config
config_value config = record { settings = map setting_value config.settings.items; bad = config.bad }

abbrev pub reading_value : CodeReading → Reading
reading_value reading = record {
  settings = map setting_value reading.config.settings.items;
  bad = reading.config.bad;
  section = reading.section.items;
  line = reading.line;
}

-- nothing is read
abbrev pub unread : Reading
unread = record { settings = []; bad = None; section = []; line = 1 }

-- a setting more
abbrev pub with_setting : List ℕ → Option (List ℕ) → Reading → Reading
with_setting key value reading =
    record reading { settings = reading.settings ++ setting_of reading.section key value reading.line ∷ [] }

-- what is read behind a step, and the place there
abbrev pub followed : Step → Reading → Reading × Place
followed (Goes place) reading = (reading, place)
followed (Enters name) reading = (record reading { section = name }, Blank)
followed (Sets key value) reading = (with_setting key value reading, Blank)
followed Fails reading = (record reading { bad = Some reading.line }, Blank)
followed FailsNext reading = (record reading { bad = Some (reading.line + 1) }, Blank)

-- the configuration, if the rest of its bytes are these
abbrev pub resumed : Reading → Place → List ℕ → Config
resumed reading place rest = behind reading.settings (read place reading.section reading.line rest)
