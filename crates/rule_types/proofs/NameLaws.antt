-- What is found by its name.
use Rattle.std.proofs.Common.{◌≡◌, true, false, cond, ◌||◌, List, [], ◌∷◌, Some, refl, ap, ◌∙◌}
use Rattle.std.proofs.lemmas.Map.Text.{is_eq-slice_cmp}
use Rattle.std.specs.BTreeMap.{is_at}
use Rattle.std.specs.Cmp.{decided}
use Rattle.std.specs.Cmp.Lexicographic.{bytes_decides}
use Rattle.std.specs.List.{find}
use Rattle.std.specs.Option.{option_map, is_some}
use Rattle.std.specs.Str.{bytes_eq}
use Rattle.pr_value.specs.Symbols.{Symbol}
use Rattle.pr_value.specs.SymbolSets.{compare_symbols, contains}
use Rattle.pr_value.specs.declared.property.Property.{Property}
use Rattle.pr_value.proofs.MemberLaws.{contains-set_of}
use Rattle.rule_ast.specs.Typing.{var_type, property_kind, params_context, type_of_kind}
use Rattle.rule_ast.specs.declared.parts.Param.{Param}
use Rattle.rule_types.specs.Declarations.{param_names}

pub property_kind-find : (ps : List Property) (name : Symbol) → property_kind ps name ≡ option_map (λ p. p.kind) (find (λ p. bytes_eq p.name name) ps)
property_kind-find [] name = refl
property_kind-find (p ∷ ps) name =
    elim (bytes_eq p.name name) as (λ b. cond b (Some p.kind) (property_kind ps name) ≡ option_map (λ (q : Property). q.kind) (cond b (Some p) (find (λ q. bytes_eq q.name name) ps))) [
      | true ↦ refl
      | false ↦ property_kind-find ps name
    ]

-- a key is found where the names are equal
pub is_at-bytes_eq : (s t : Symbol) → is_at (compare_symbols s) t ≡ bytes_eq s t
is_at-bytes_eq = is_eq-slice_cmp

-- a name has a type where it is that of a parameter
pub is_some-var_type : (ps : List Param) (x : Symbol) → is_some (var_type (params_context ps).vars x) ≡ contains (param_names ps) x
is_some-var_type [] x = refl
is_some-var_type (p ∷ ps) x =
    elim (bytes_eq p.name x) as (λ b. is_some (cond b (Some (type_of_kind p.kind)) (var_type (params_context ps).vars x)) ≡ (b || contains (param_names ps) x)) [
      | true ↦ refl
      | false ↦ is_some-var_type ps x
    ]
    ∙ ap (λ b. b || contains (param_names ps) x) ((decided bytes_eq bytes_decides).symm p.name x)

pub ruleset name_laws = (property_kind-find)

pub ruleset index_laws = (contains-set_of, is_at-bytes_eq)

pub ruleset param_laws = (is_some-var_type)
