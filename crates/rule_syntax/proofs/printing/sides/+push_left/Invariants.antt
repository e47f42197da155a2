use Rattle.std.proofs.Common.{◌≡◌, ◌++◌, map, take}
use Rattle.rule_ast.specs.Seen.{seen_left_in}
use Rattle.rule_syntax.specs.Tokens.{commas, left_tokens}
use Rattle.rule_syntax.proofs.printing.sides.+push_left.Given as goal

abbrev pub invariant-push_left_ins-loop-i : goal.invariant-push_left_ins-loop-i
invariant-push_left_ins-loop-i l = l.tokens ≡ l.initial.tokens ++ commas (map (λ x. left_tokens (seen_left_in x)) (take l.i l.inputs))
