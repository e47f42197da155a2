-- Operators by name, and sides whose operators stand over as many inputs as they declare.
use Rattle.std.specs.Prelude.{◌≡◌, List, [], ◌∷◌, length, Some, slice_get, if◌then◌else◌, ⊤}
use Rattle.std.specs.Str.{bytes_eq}
use Rattle.pr_value.specs.Symbols.{Symbol}
use Rattle.pr_value.specs.Trees.{node, Trees, nil, cons, list_of}
use Rattle.rule_ast.specs.Syntax.{Operator, Rules}
use Rattle.rule_runs.specs.Sides.{Side, SideLabel, operator, stream}

-- the operator of that name, or one without inputs where it is not declared
abbrev pub operator_named : List Operator → Symbol → Operator
operator_named [] name = record { name = name; views = []; own = []; init = [] }
operator_named (o ∷ os) name = if bytes_eq o.name name then o else operator_named os name

-- each operator is declared, and stands over as many inputs as it declares
abbrev mutual
  pub IsOfArities : Rules → Side → Type 0
  IsOfArities r (node (operator op) rs) =
      ((o : Operator) × (slice_get r.operators op ≡ Some o) × (length o.views ≡ length (list_of rs))) × HaveArities r rs
  IsOfArities r (node (stream n) rs) = ⊤

  pub HaveArities : Rules → Trees SideLabel → Type 0
  HaveArities r nil = ⊤
  HaveArities r (cons s rs) = IsOfArities r s × HaveArities r rs
