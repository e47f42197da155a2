-- Folds over the values that a fold's body has at the members.
use Rattle.std.specs.Prelude.{ℕ, List, [], ◌∷◌, if◌then◌else◌}
use Rattle.std.specs.List.{list_all, list_any}
use Rattle.pr_value.specs.Capped.{capped_add, capped_mul}
use Rattle.pr_value.specs.Symbols.{Symbol}
use Rattle.pr_value.specs.Values.{number_in, truth_in, members_in}
use Rattle.pr_value.specs.declared.value.Value.{Value}
use Rattle.pr_value.specs.declared.value.Value.TheVariants as value
use Rattle.rule_ast.specs.declared.expr.FoldKind.{FoldKind}
use Rattle.rule_ast.specs.declared.expr.FoldKind.TheVariants as folding
use Rattle.action_eval.specs.Builtins.{collection}

abbrev pub total_of : List Value → ℕ → ℕ
total_of [] n = n
total_of (v ∷ vs) n = capped_add (number_in v) (total_of vs n)

abbrev pub product_of : List Value → ℕ → ℕ
product_of [] n = n
product_of (v ∷ vs) n = capped_mul (number_in v) (product_of vs n)

-- the members beside which a truth holds
abbrev pub kept_of : List Symbol → List Value → List Symbol
kept_of (s ∷ ss) (v ∷ vs) = if truth_in v then s ∷ kept_of ss vs else kept_of ss vs
kept_of _ _ = []

-- what a fold makes of a set or a list, from the values at its members
abbrev pub fold_of : FoldKind → Value → List Value → Value
fold_of folding.Sum over vs = value.Num (total_of vs 0)
fold_of folding.Product over vs = value.Num (product_of vs 1)
fold_of folding.Any over vs = value.Truth (list_any truth_in vs)
fold_of folding.All over vs = value.Truth (list_all truth_in vs)
fold_of folding.Keep over vs = collection over (kept_of (members_in over) vs)
