-- The file system that a runtime reaches.
use Rattle.jwalk_real_fs.specs.declared.real_fs.RealFs.{RealFs}

-- the runtime that it was made with
abbrev pub runtime_of : {R : Type 0} → RealFs R → R
runtime_of fs = fs.rt
