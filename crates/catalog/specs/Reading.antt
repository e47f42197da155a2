-- What the readers of a catalog's parts give, and the first part that is not as it must be.
use Rattle.std.specs.Prelude.{◌≡◌, ⊤, not, ◌&&◌, Option, Some, None, is_some, if◌then◌else◌, Result, Ok, Err}
use Rattle.serde_json.specs.Data.{Data}
use Rattle.catalog.specs.Shape.{files_in, tables_in, are_arrays, is_object_if_any, members_if_any}
use Rattle.catalog.specs.declared.error.CatalogError.{CatalogError}
use Rattle.catalog.specs.declared.error.CatalogError.TheVariants as error
use Rattle.catalog.specs.declared.error.CatalogPart.{CatalogPart}
use Rattle.catalog.specs.declared.error.CatalogPart.TheVariants as part

-- nothing is bad and the value is as said, or this is the first bad part, unless memory ran out
abbrev pub ReadsUnless : {X : Type 0} → Option CatalogPart → (X → Type 0) → Result X CatalogError
    → Type 0
ReadsUnless bad Said (Ok x) = (bad ≡ None) × Said x
ReadsUnless bad Said (Err (error.BadShape p)) = bad ≡ Some p
ReadsUnless bad Said (Err error.NotJson) = ⊥
ReadsUnless bad Said (Err error.Memory) = ⊤

-- the first bad part of the member `files`, if any
abbrev pub bad_in_files : Option Data → Option CatalogPart
bad_in_files o =
    if not (is_object_if_any o) then Some part.Files else
    (if not (is_some (files_in (members_if_any o))) then Some part.File else None)

-- the same of the member `tables`
abbrev pub bad_in_tables : Option Data → Option CatalogPart
bad_in_tables o =
    if not (is_object_if_any o && are_arrays (members_if_any o)) then Some part.Tables else
    (if not (is_some (tables_in (members_if_any o))) then Some part.Row else None)
