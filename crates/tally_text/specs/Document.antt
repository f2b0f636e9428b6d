-- Results as JSON.
use Rattle.std.specs.Prelude.{ℕ, ◌^◌, nat_lt, codes, decimal, string_bytes, if◌then◌else◌}
use Rattle.serde_json.specs.Data.{Data, Items, Members, array, no_members, number, object, put, string, unsigned}
use Rattle.serde_json.specs.View.{items_of}
use Rattle.tally_text.specs.declared.node.Node.{Node}
use Rattle.tally_text.specs.declared.numbers.Numbers.{Numbers}
use Rattle.tally_text.specs.declared.node.Node.TheOpen.{Node-F}
use Rattle.tally_text.specs.declared.node.Node.TheFolds.{fold-Node}

-- a number, or its digits as a text if it needs more than 64 bits
abbrev pub number_data : ℕ → Data
number_data n = if nat_lt n (2 ^ 64) then number (unsigned n) else string (decimal n)

-- members with those of numbers
abbrev pub with_numbers : Numbers → Members → Members
with_numbers n members =
    put (codes "errors") (number_data n.errors) (put (codes "others") (number_data n.others) (put (codes "links") (number_data n.links)
    (put (codes "dirs") (number_data n.dirs) (put (codes "files") (number_data n.files) (put (codes "file_bytes") (number_data n.file_bytes)
    (put (codes "bytes") (number_data n.bytes) members))))))

-- a node with its members by their keys: its numbers, its name and these children
abbrev pub data_with : {A : Type 0} → Node-F A → Items → Data
data_with n children =
    object (put (codes "children") (array children) (put (codes "name") (string (string_bytes n.name)) (with_numbers n.numbers no_members)))

-- one node, with the data of each child in its place
abbrev pub data_step : Node-F Data → Data
data_step n = data_with n (items_of n.children.items)

-- the data of a node and of all below it
abbrev pub data_of : Node → Data
data_of = fold-Node Data data_step
