-- Modes as `ls -l` writes them, row by row.
use Rattle.std.specs.Prelude.{◌≡◌, ℕ, ◌+◌, ◌*◌, codes, refl}
use Rattle.seek_details.specs.Mode.{mode_text}

-- a mode by its four octal digits, and the digits of its type
abbrev octal : ℕ → ℕ → ℕ → ℕ → ℕ → ℕ
octal type special user group others = 4096 * type + 512 * special + 64 * user + 8 * group + others

regular : mode_text (octal 8 0 6 4 4) ≡ codes "-rw-r--r--"
regular = refl

directory : mode_text (octal 4 0 7 5 5) ≡ codes "drwxr-xr-x"
directory = refl

link : mode_text (octal 10 0 7 7 7) ≡ codes "lrwxrwxrwx"
link = refl

pipe : mode_text (octal 1 0 6 4 4) ≡ codes "prw-r--r--"
pipe = refl

socket : mode_text (octal 12 0 7 5 5) ≡ codes "srwxr-xr-x"
socket = refl

block_device : mode_text (octal 6 0 6 6 0) ≡ codes "brw-rw----"
block_device = refl

character_device : mode_text (octal 2 0 6 6 6) ≡ codes "crw-rw-rw-"
character_device = refl

set_uid : mode_text (octal 8 4 7 5 5) ≡ codes "-rwsr-xr-x"
set_uid = refl

set_uid_alone : mode_text (octal 8 4 6 4 4) ≡ codes "-rwSr--r--"
set_uid_alone = refl

set_gid : mode_text (octal 8 2 7 5 5) ≡ codes "-rwxr-sr-x"
set_gid = refl

set_gid_alone : mode_text (octal 8 2 7 4 4) ≡ codes "-rwxr-Sr--"
set_gid_alone = refl

sticky : mode_text (octal 4 1 7 7 7) ≡ codes "drwxrwxrwt"
sticky = refl

sticky_alone : mode_text (octal 4 1 7 7 6) ≡ codes "drwxrwxrwT"
sticky_alone = refl

no_right : mode_text (octal 8 0 0 0 0) ≡ codes "----------"
no_right = refl
