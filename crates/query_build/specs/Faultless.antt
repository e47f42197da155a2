-- Queries at whose nodes no condition of refusal holds.
use Rattle.std.specs.Prelude.{◌≡◌, ℕ, None, Some, length, slice_get, ⊤}
use Rattle.pr_value.specs.Trees.{node, Trees, nil, cons, list_of}
use Rattle.catalog.specs.Contents.{Catalog}
use Rattle.query_build.specs.Refusals.{unknown_operator, unknown_file, wrong_arity, unknown_property, wrong_type}
use Rattle.rule_ast.specs.Syntax.{QueryLabel, Operator, Rules, Query}

-- nothing is at fault at a node
pub record IsRight (r : Rules) (c : Catalog) (l : QueryLabel) (n : ℕ) : Type 0 where
  pub operator : unknown_operator r l n ≡ None
  pub file : unknown_file c l n ≡ None
  pub arity : wrong_arity r l n ≡ None
  pub property : unknown_property r l n ≡ None
  pub types : wrong_type r c l n ≡ None

-- nor at any node
abbrev mutual
  pub IsFaultless : Rules → Catalog → Query → Type 0
  IsFaultless r c (node l qs) = IsRight r c l (length (list_of qs)) × AreFaultless r c qs

  pub AreFaultless : Rules → Catalog → Trees QueryLabel → Type 0
  AreFaultless r c nil = ⊤
  AreFaultless r c (cons q qs) = IsFaultless r c q × AreFaultless r c qs

-- the operator is one of the rule set's
abbrev pub IsDeclared : Rules → Operator → Type 0
IsDeclared r o = (place : ℕ) × (slice_get r.operators place ≡ Some o)
