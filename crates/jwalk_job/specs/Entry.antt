-- Entries as values.
use Rattle.std.specs.Prelude.{option_map, Result, Ok, Err, string_bytes}
use Rattle.jwalk_model.specs.Entry as value
use Rattle.jwalk_model.specs.Entry.{Children, Item}
use Rattle.jwalk_job.specs.declared.dir_entry.DirEntry.{DirEntry}
use Rattle.jwalk_job.specs.declared.read_children.ReadChildren.{ReadChildren}
use Rattle.jwalk_job.specs.declared.error.Error.{Error}
use Rattle.jwalk_job.specs.Text.{text}
use Rattle.jwalk_job.specs.Ancestors.{texts}
use Rattle.jwalk_job.specs.Error.{failure}

module _ {C A R E : Type 0} where
  abbrev pub children : ReadChildren C A R E → Children R
  children c = record { path = text c.path; error = option_map (λ boxed. failure boxed.value) c.error; state = c.client_read_state }

  abbrev pub entry : DirEntry C A R E → value.Entry R E
  entry e = record {
    depth = e.depth;
    file_name = string_bytes e.file_name;
    file_type = e.file_type;
    seen = option_map (λ boxed. boxed.value) e.seen;
    client_state = e.client_state;
    parent_path = text e.parent_path;
    through_link = e.through_link;
    ancestors = texts e.ancestors;
    read_children = option_map children e.read_children;
  }

  abbrev pub item : Result (DirEntry C A R E) (Error A) → Item R E
  item (Ok e) = Ok (entry e)
  item (Err e) = Err (failure e)
