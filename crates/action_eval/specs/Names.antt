-- Places of names.
use Rattle.std.specs.Prelude.{◌≡◌, ℕ, suc, ◌<◌, true, false, List, [], ◌∷◌, length, drop, slice_get, Option, Some, None, option_map, if◌then◌else◌}
use Rattle.std.specs.List.{list_any}
use Rattle.std.specs.Str.{bytes_eq}
use Rattle.pr_value.specs.Symbols.{Symbol}
use Rattle.descriptor_types.specs.Descriptors.{Desc}
use Rattle.rule_ast.specs.declared.parts.Helper.{Helper}

-- the place of the descriptor of that name
abbrev pub desc_place : List (Symbol × Desc) → Symbol → Option ℕ
desc_place [] name = None
desc_place (d ∷ ds) name = if bytes_eq d.0 name then Some 0 else option_map suc (desc_place ds name)

-- the helper at a place has the name, and none behind it has
pub record IsLatest (helpers : List Helper) (name : Symbol) (place : ℕ) : Type 0 where
  pub within : place < length helpers
  pub named : (h : Helper) → slice_get helpers place ≡ Some h → bytes_eq h.name name ≡ true
  pub latest : list_any (λ h. bytes_eq h.name name) (drop (suc place) helpers) ≡ false
