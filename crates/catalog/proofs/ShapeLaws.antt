-- Laws of the JSON values that are catalogs.
use Rattle.std.proofs.Common.{◌≡◌, Bool, true, false, not, Option, Some, None, codes, refl, ap, sym, ◌∙◌, if◌then◌else◌}
use Rattle.std.specs.Prelude.{is_some, option_and_then}
use Rattle.serde_json.specs.Data.{Data}
use Rattle.serde_json.specs.Find.{get}
use Rattle.catalog.specs.Contents.{Catalog}
use Rattle.catalog.specs.Shape.{first_bad, files_in, is_object, is_object_if_any, members_of, members_if_any, Says, OneCatalog, listed_files, tables_in, tables_of}
use Rattle.catalog.specs.declared.error.CatalogPart.{CatalogPart}

-- where no part is named, the first test holds, and nothing is named behind it
none-left : (b : Bool) (p : CatalogPart) (rest : Option CatalogPart) → (if not b then Some p else rest) ≡ None → (b ≡ true) × (rest ≡ None)
none-left true p rest h = (refl, h)
none-left false p rest h = absurd (cc h)

listed-member : (o : Option Data) → is_some (files_in (members_if_any o)) ≡ true → is_some (option_and_then (λ f. files_in (members_of f)) o) ≡ is_some o
listed-member None h = refl
listed-member (Some d) h = h

-- a catalog lists files exactly where its JSON value has the member `files`
pub lists_files : (c : Catalog) (d : Data) → first_bad d ≡ None → Says c d → is_some c.files ≡ is_some (get (codes "files") d)
lists_files c d h says =
    let root : _ = none-left (is_object d) _ _ h in
    let files : _ = none-left (is_object_if_any (get (codes "files") d)) _ _ root.1 in
    let each : _ = none-left (is_some (files_in (members_if_any (get (codes "files") d)))) _ _ files.1 in
    ap is_some says.files ∙ listed-member (get (codes "files") d) each.0

some_same : {A : Type 0} (x y : A) → Some x ≡ Some y → x ≡ y
some_same x y e = cc

pub one_catalog : OneCatalog
one_catalog bytes d e b c (utf8, one) (utf8', other) says says' =
    let same : d ≡ e = some_same d e (sym one ∙ other) in
    let files : b.files ≡ c.files = says.files ∙ ap listed_files same ∙ sym says'.files in
    let tables : b.tables ≡ c.tables = some_same b.tables c.tables (sym says.tables ∙ ap (λ f. tables_in (tables_of f)) same ∙ says'.tables) in
    λ i. record { files = files i; tables = tables i }
