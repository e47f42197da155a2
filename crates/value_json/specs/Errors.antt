-- What a reader of a part gives, and its errors.
use Rattle.std.specs.Prelude.{◌≡◌, ⊤, List, Option, Some, None, option_map, Result, Ok, Err}
use Rattle.std.specs.List.{AllZip, Any}
use Rattle.pr_value.specs.declared.symbol.SymbolError.{SymbolError}
use Rattle.pr_value.specs.declared.symbol.SymbolError.TheVariants as symbol_error
use Rattle.value_json.specs.declared.part_error.PartError.{PartError}
use Rattle.value_json.specs.declared.part_error.PartError.TheVariants as part_error

abbrev pub of_symbol_error : SymbolError → PartError
of_symbol_error symbol_error.NotASymbol = part_error.Misshapen
of_symbol_error symbol_error.Memory = part_error.Memory

-- what the part gives is read, unless memory ran out
abbrev pub ReadsBy : {X : Type 0} → (Option X → Type 0) → Result X PartError → Type 0
ReadsBy gives (Ok x) = gives (Some x)
ReadsBy gives (Err part_error.Misshapen) = gives None
ReadsBy gives (Err part_error.Memory) = ⊤

-- what the part says is read, seen by view, unless memory ran out
abbrev pub ReadsAs : {V X : Type 0} → (V → X) → Result V PartError → Option X → Type 0
ReadsAs view result said = ReadsBy (λ o. said ≡ option_map view o) result

-- the same with no view
abbrev pub Reads : {X : Type 0} → Result X PartError → Option X → Type 0
Reads result said = ReadsBy (λ o. said ≡ o) result

-- what each part gives is read, seen by view, or some part gives nothing, unless memory ran out
abbrev pub ReadsEach : {V D X : Type 0} → (V → List X) → (D → Option X → Type 0) → List D → Result V PartError → Type 0
ReadsEach view gives ds (Ok v) = AllZip (λ d x. gives d (Some x)) ds (view v)
ReadsEach view gives ds (Err part_error.Misshapen) = Any (λ d. gives d None) ds
ReadsEach view gives ds (Err part_error.Memory) = ⊤
