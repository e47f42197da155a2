-- Parts of the shape of a catalog.
use Rattle.std.specs.Prelude.{ℕ, ◌&&◌, List, Option, Some, None, if◌then◌else◌}
use Rattle.std.specs.Str.{bytes_eq}
use Rattle.serde_json.specs.Data.{Data, string, Members, no_members, member}
use Rattle.pr_value.specs.Symbols.{Symbol, is_name, is_symbol}

-- a string that is a symbol
abbrev pub symbol_in : Data → Option Symbol
symbol_in (string s) = if is_symbol s then Some s else None
symbol_in _ = None

-- the text, if it is a name
abbrev pub name_in : List ℕ → Option Symbol
name_in s = if is_name s then Some s else None

-- the value of the only member, if it has this name
abbrev pub only : List ℕ → Members → Option Data
only name (member n d no_members) = if bytes_eq n name then Some d else None
only name _ = None

-- the values of the only two members, if they have these names
abbrev pub only_two : List ℕ → List ℕ → Members → Option (Data × Data)
only_two first second (member m d (member n e no_members)) = if bytes_eq m first && bytes_eq n second then Some (d, e) else None
only_two first second _ = None
