-- What the code keeps of a configuration.
use Rattle.std.specs.Prelude.{option_map}
use Rattle.git_config.specs.Config.{Step, Written}
use Rattle.git_config.specs.Config as spec
use Rattle.git_config.specs.declared.place.Place.{Place}
use Rattle.git_config.specs.declared.place.Place.TheVariants.{Blank, Comment, Section, Gap, Subsection, SubsectionEscape, Header, Key, KeyGap, Value, Escape, ValueComment}
use Rattle.git_config.specs.declared.place.Step.{Step as CodeStep}
use Rattle.git_config.specs.declared.place.Step.TheVariants.{Goes, Enters, Sets, Fails, FailsNext}
use Rattle.git_config.specs.declared.place.Written.{Written as CodeWritten}

abbrev pub written_of : CodeWritten → Written
written_of written = record { name = written.name.items; quoted = written.quoted; text = written.text.items; spaces = written.spaces.items }

abbrev pub place_of : Place → spec.Place
place_of Blank = spec.Blank
place_of Comment = spec.Comment
place_of (Section name) = spec.Section name.items
place_of (Gap name) = spec.Gap name.items
place_of (Subsection name) = spec.Subsection name.items
place_of (SubsectionEscape name) = spec.SubsectionEscape name.items
place_of (Header name) = spec.Header name.items
place_of (Key name) = spec.Key name.items
place_of (KeyGap name) = spec.KeyGap name.items
place_of (Value written) = spec.Value (written_of written)
place_of (Escape written) = spec.Escape (written_of written)
place_of (ValueComment written) = spec.ValueComment (written_of written)

abbrev pub step_of : CodeStep → Step
step_of (Goes place) = spec.Goes (place_of place)
step_of (Enters name) = spec.Enters name.items
step_of (Sets name value) = spec.Sets name.items (option_map (λ text. text.items) value)
step_of Fails = spec.Fails
step_of FailsNext = spec.FailsNext
