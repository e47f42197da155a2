-- Tables.
use Rattle.std.proofs.Common.{◌≡◌, inl, inr, Bool, true, false, cond, ◌&&◌, List, [], ◌∷◌, Option, Some, None, option_map, option_and_then, Result, Ok, Err, string_bytes, refl, sym, ap, ◌∙◌}
use Rattle.std.specs.Cmp.{first_so, second_so}
use Rattle.std.specs.List.{AllZip, Any, find}
use Rattle.std.specs.Str.{bytes_eq}
use Rattle.serde_json.specs.View.{view, members_view}
use Rattle.serde_json.proofs.Views.{Entry}
use Rattle.pr_value.specs.Symbols.{Symbol, is_name}
use Rattle.catalog.specs.Contents.{Row, Table, value_at, rows_of}
use Rattle.value_json.specs.Errors.{ReadsBy, ReadsEach}
use Rattle.catalog.specs.Shape.{table_in, tables_in, is_array, are_arrays}
use Rattle.catalog.specs.Tables.{GivesTable, GivesTables}
use Rattle.value_json.specs.declared.part_error.PartError.{PartError}
use Rattle.value_json.specs.declared.part_error.PartError.TheVariants as part_error
use Rattle.value_json.proofs.EachLaws.{Any-cases, Any-nil}
use Rattle.catalog.proofs.PartLaws.{none_behind}

abbrev pub rows_in_table : Option Table → List Row
rows_in_table None = []
rows_in_table (Some t) = t.rows

rows_of-find : (ts : List Table) (name : Symbol) → rows_of ts name ≡ rows_in_table (find (λ t. bytes_eq t.name name) ts)
rows_of-find [] name = refl
rows_of-find (t ∷ ts) name =
    elim (bytes_eq t.name name) as (λ b. cond b t.rows (rows_of ts name) ≡ rows_in_table (cond b (Some t) (find (λ u. bytes_eq u.name name) ts))) [
      | true ↦ refl
      | false ↦ rows_of-find ts name
    ]

pub rows_found : (ts : List Table) (name : Symbol) (o : Option Table) → o ≡ find (λ t. bytes_eq t.name name) ts → rows_in_table o ≡ rows_of ts name
rows_found ts name o is = ap rows_in_table is ∙ sym (rows_of-find ts name)

-- ---- the members of an object

abbrev Says : Entry → Option Table → Type 0
Says e o = GivesTable (string_bytes e.0) (view e.1) o

tables_all : (es : List Entry) (ts : List Table) → AllZip (λ e t. Says e (Some t)) es ts → tables_in (members_view es) ≡ Some ts
tables_all [] [] all = refl
tables_all [] (t ∷ ts) all = absurd all
tables_all (e ∷ es) [] all = absurd all
tables_all (e ∷ es) (t ∷ ts) all = λ i. option_and_then (λ u. option_map (λ us. u ∷ us) (tables_all es ts all.1 i)) (all.0.1 i)

tables_none : (es : List Entry) → are_arrays (members_view es) ≡ true → Any (λ e. Says e None) es → tables_in (members_view es) ≡ None
tables_none [] arrays some = absurd (Any-nil (λ e. Says e None) some)
tables_none (e ∷ es) arrays some =
    let n = string_bytes e.0 in
    let d = view e.1 in
    let ms = members_view es in
    let named : is_name n ≡ true = first_so (is_name n) (is_array d) (first_so (is_name n && is_array d) (are_arrays ms) arrays) in
    elim (Any-cases (λ e. Says e None) e es some) [
      | inl none ↦ ap (option_and_then (λ t. option_map (λ ts. t ∷ ts) (tables_in ms))) (none named)
      | inr later ↦ ap (λ o. option_and_then (λ t. option_map (λ ts. t ∷ ts) o) (table_in n d)) (tables_none es (second_so (is_name n && is_array d) (are_arrays ms) arrays) later) ∙ none_behind (table_in n d)
    ]

pub tables_each : (es : List Entry) (r : Result (List Table) PartError) → ReadsEach (λ v. v) Says es r → ReadsBy (GivesTables (members_view es)) r
tables_each es (Ok ts) all = tables_all es ts all
tables_each es (Err part_error.Misshapen) some = λ arrays. tables_none es arrays some
tables_each es (Err part_error.Memory) some = tt
