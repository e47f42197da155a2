-- The fields of a descriptor: names with values, in the order of the names.
use Rattle.std.specs.Prelude.{◌≡◌, ⊤, Bool, true, ◌&&◌, List, [], ◌∷◌, map, Option, Some, None, option_and_then, is_some, if◌then◌else◌}
use Rattle.std.specs.List.{AllByRecursion}
use Rattle.std.specs.List.Sorted.{IsStrictlySortedBy}
use Rattle.std.specs.Ordering.{is_lt, match_ordering}
use Rattle.std.specs.Str.{bytes_eq}
use Rattle.pr_value.specs.Symbols.{Symbol, is_name}
use Rattle.pr_value.specs.SymbolSets.{compare_symbols, ascends}
use Rattle.pr_value.specs.Values.{is_capped}
use Rattle.pr_value.specs.declared.value.Value.{Value}
use Rattle.pr_value.specs.declared.value.Value.TheVariants as value

-- a property with its value
pub record Field : Type 0 where
  pub name : Symbol
  pub value : Value

-- the value of the field of that name
abbrev pub field_value : List Field → Symbol → Option Value
field_value [] name = None
field_value (f ∷ fs) name = if bytes_eq f.name name then Some f.value else field_value fs name

-- the fields and one more, in the order of the names
abbrev pub with_field : Field → List Field → List Field
with_field f [] = f ∷ []
with_field f (g ∷ fs) =
    if is_lt (compare_symbols f.name g.name) then f ∷ g ∷ fs else g ∷ with_field f fs

-- the fields and one more, whose name none of them has
abbrev pub with_new_field : Field → List Field → Option (List Field)
with_new_field f fs = if is_some (field_value fs f.name) then None else Some (with_field f fs)

-- the fields in the order of their names, no two of which are equal
abbrev pub in_order : List Field → Option (List Field)
in_order [] = Some []
in_order (f ∷ fs) = option_and_then (with_new_field f) (in_order fs)

-- the fields with this one, in the place of the one of its name if there is one
abbrev pub put_field : Field → List Field → List Field
put_field f [] = f ∷ []
put_field f (g ∷ gs) =
    match_ordering (compare_symbols f.name g.name) (f ∷ g ∷ gs) (f ∷ gs) (g ∷ put_field f gs)

-- ---- what the types keep

-- a name, and no number past the cap
abbrev pub is_formed : Field → Bool
is_formed f = is_name f.name && is_capped f.value

-- a set is in order
abbrev pub value_fine : Value → Type 0
value_fine (value.Set ss) = ascends ss ≡ true
value_fine _ = ⊤

abbrev pub field_fine : Field → Type 0
field_fine f = (is_formed f ≡ true) × value_fine f.value

abbrev pub names : List Field → List Symbol
names fs = map (λ f. f.name) fs

-- names that differ and ascend
abbrev pub Rise : List Field → Type 0
Rise fs = IsStrictlySortedBy compare_symbols (names fs)

abbrev pub desc_fine : List Field → Type 0
desc_fine fs = Rise fs × AllByRecursion field_fine fs
