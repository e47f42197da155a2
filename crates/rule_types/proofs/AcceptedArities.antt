-- What stands on the sides of an accepted rule set's rules is declared, and has as many inputs as it takes.
use Rattle.std.proofs.Common.{◌≡◌, false, not, length, None, ap}
use Rattle.std.proofs.lemmas.Bool.{not-false, or_parts}
use Rattle.std.specs.List.{list_any}
use Rattle.rule_ast.specs.Syntax.{Rules}
use Rattle.rule_types.specs.AcceptedLaws.{HasArities, HasKnownSides}
use Rattle.rule_types.specs.Conditions.{is_arity, refused_by, unknown_in_irule, unknown_in_sides, unknown_in_trule, unknown_in_uses, unknown_name, wrong_arity, wrong_call, wrong_in_irule, wrong_in_parts, wrong_in_trule}
use Rattle.rule_types.specs.Declarations.{Declaration, operator, algorithm, trule, irule, declarations, helpers_of}
use Rattle.rule_types.specs.Uses.{uses}
use Rattle.rule_types.proofs.DeclarationLaws.{at, each_algorithm, each_irule, each_operator, each_trule}
use Rattle.rule_types.proofs.RefusalLaws.{nowhere-unknown_name, nowhere-wrong_arity}

right_parts : (r : Rules) (d : Declaration) → wrong_arity r d ≡ false → wrong_in_parts r d ≡ false
right_parts r d e = (or_parts (wrong_in_parts r d) (uses (wrong_call (helpers_of r d)) d) e).0

pub accepted-arities : (r : Rules) → refused_by r ≡ None → HasArities r
accepted-arities r accepted =
    let none : list_any (wrong_arity r) (declarations r) ≡ false = nowhere-wrong_arity r accepted in
    record {
      operators = each_operator (wrong_arity r) r none (λ o. is_arity (length o.views)) (λ before o e. not-false (is_arity (length o.views)) (right_parts r (operator (at before o)) e));
      algorithms = each_algorithm (wrong_arity r) r none (λ a. is_arity a.arity) (λ before a e. not-false (is_arity a.arity) (right_parts r (algorithm (at before a)) e));
      trules = each_trule (wrong_arity r) r none (λ t. not (wrong_in_trule r t)) (λ before t e. ap not (right_parts r (trule (at before t)) e));
      irules = each_irule (wrong_arity r) r none (λ i. not (wrong_in_irule r i)) (λ before i e. ap not (right_parts r (irule (at before i)) e));
    }

known_sides : (r : Rules) (d : Declaration) → unknown_name r d ≡ false → unknown_in_sides r d ≡ false
known_sides r d e = (or_parts (unknown_in_sides r d) (unknown_in_uses r d) e).0

pub accepted-known : (r : Rules) → refused_by r ≡ None → HasKnownSides r
accepted-known r accepted =
    let none : list_any (unknown_name r) (declarations r) ≡ false = nowhere-unknown_name r accepted in
    record {
      trules = each_trule (unknown_name r) r none (λ t. not (unknown_in_trule r t)) (λ before t e. ap not (known_sides r (trule (at before t)) e));
      irules = each_irule (unknown_name r) r none (λ i. not (unknown_in_irule r i)) (λ before i e. ap not (known_sides r (irule (at before i)) e));
    }
