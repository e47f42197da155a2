-- Functions by their names in a table.
use Rattle.std.proofs.Common.{◌≡◌, cond, true, false, ◌&&◌, ◌||◌, List, [], ◌∷◌, map, Some, refl, ap}
use Rattle.std.specs.List.{find, list_any}
use Rattle.std.specs.Option.{option_map}
use Rattle.std.specs.Str.{bytes_eq}
use Rattle.pr_value.specs.Symbols.{Symbol}
use Rattle.pr_value.specs.declared.kind.Kind.{Kind}
use Rattle.rule_ast.specs.SeenRows.{seen_row}
use Rattle.rule_ast.specs.Typing.{same_types, result_in, function_in}
use Rattle.rule_ast.specs.declared.table.Row as table

pub named-map : (rows : List table.Row) (f : Symbol) → list_any (λ s. bytes_eq s.name f) (map (λ r. r.signature) (map seen_row rows)) ≡ list_any (λ s. bytes_eq s.0.now f) rows
named-map [] f = refl
named-map (r ∷ rs) f = ap (λ b. bytes_eq r.0.now f || b) (named-map rs f)

pub function_in-find : (rows : List table.Row) (f : Symbol) → function_in (map seen_row rows) f ≡ option_map (λ s. s.1) (find (λ s. bytes_eq s.0.now f) rows)
function_in-find [] f = refl
function_in-find (r ∷ rs) f =
    elim (bytes_eq r.0.now f) as (λ b. cond b (Some r.1) (function_in (map seen_row rs) f) ≡ option_map (λ (t : table.Row). t.1) (cond b (Some r) (find (λ t. bytes_eq t.0.now f) rs))) [
      | true ↦ refl
      | false ↦ function_in-find rs f
    ]

pub result_in-find : (rows : List table.Row) (f : Symbol) (types : List Kind) → result_in (map (λ r. r.signature) (map seen_row rows)) f types ≡ option_map (λ s. s.3) (find (λ s. bytes_eq s.0.now f && same_types s.2.now types) rows)
result_in-find [] f types = refl
result_in-find (r ∷ rs) f types =
    elim (bytes_eq r.0.now f && same_types r.2.now types) as (λ b. cond b (Some r.3) (result_in (map (λ r. r.signature) (map seen_row rs)) f types) ≡ option_map (λ (t : table.Row). t.3) (cond b (Some r) (find (λ t. bytes_eq t.0.now f && same_types t.2.now types) rs))) [
      | true ↦ refl
      | false ↦ result_in-find rs f types
    ]

pub ruleset builtin_laws = (named-map, function_in-find, result_in-find)
