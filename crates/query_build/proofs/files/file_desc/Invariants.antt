use Rattle.std.proofs.Common.{◌≡◌, ◌++◌, drop, take}
use Rattle.descriptor_types.specs.Descriptors.{plain}
use Rattle.query_build.specs.Query.{file_desc}
use Rattle.query_build.proofs.files.file_desc.Given as goal

-- what the file says of the first properties, and the defaults of the rest
abbrev pub invariant-loop-place : goal.invariant-loop-place
invariant-loop-place l =
    l.desc ≡ file_desc (take l.place l.layout) l.fields ++ plain (drop l.place l.layout)
