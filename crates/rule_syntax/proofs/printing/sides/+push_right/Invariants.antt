use Rattle.std.proofs.Common.{◌≡◌, ◌++◌, map, take}
use Rattle.rule_ast.specs.Seen.{seen_right_in}
use Rattle.rule_syntax.specs.Tokens.{commas, right_tokens}
use Rattle.rule_syntax.proofs.printing.sides.+push_right.Given as goal

abbrev pub invariant-push_right_ins-loop-i : goal.invariant-push_right_ins-loop-i
invariant-push_right_ins-loop-i l = l.tokens ≡ l.initial.tokens ++ commas (map (λ x. right_tokens (seen_right_in x)) (take l.i l.inputs))
