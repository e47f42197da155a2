use Rattle.std.proofs.Common.{◌≡◌, ◌++◌, map, take}
use Rattle.rule_ast.specs.Seen.{seen_expr}
use Rattle.rule_syntax.specs.Tokens.{commas, expr_tokens}
use Rattle.rule_syntax.proofs.printing.expr.+push_expr.Given as goal

abbrev pub invariant-push_exprs-loop-i : goal.invariant-push_exprs-loop-i
invariant-push_exprs-loop-i l = l.tokens ≡ l.initial.tokens ++ commas (map (λ x. expr_tokens (seen_expr x)) (take l.i l.es))
