-- What the readers of tables give.
use Rattle.std.specs.Prelude.{◌≡◌, true, List, Option, Some, None}
use Rattle.serde_json.specs.Data.{Data, Members}
use Rattle.pr_value.specs.Symbols.{Symbol, is_name}
use Rattle.catalog.specs.Contents.{Table}
use Rattle.catalog.specs.Shape.{table_in, tables_in, are_arrays}

-- the table that the member says, or none where it says none or has no name
abbrev pub GivesTable : Symbol → Data → Option Table → Type 0
GivesTable n d None = is_name n ≡ true → table_in n d ≡ None
GivesTable n d (Some t) = (t.name ≡ n) × (table_in n d ≡ Some t)

-- the tables that the members say, or none where they are arrays with names and say none
abbrev pub GivesTables : Members → Option (List Table) → Type 0
GivesTables ms None = are_arrays ms ≡ true → tables_in ms ≡ None
GivesTables ms (Some ts) = tables_in ms ≡ Some ts
