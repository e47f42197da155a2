use Rattle.std.proofs.Common.{◌≡◌, drop, map}
use Rattle.rule_ast.specs.Reads.{any_reads}
use Rattle.rule_ast.specs.Seen.{seen_expr, exprs_of}
use Rattle.rule_ast.proofs.questions.+any_read.Given as goal

abbrev pub invariant-any_reads-loop-e : goal.invariant-any_reads-loop-e
invariant-any_reads-loop-e g l = any_reads (g.Q.ReadQuestion.asked l.question) (exprs_of (map seen_expr (drop l.e-index l.es))) ≡ any_reads (g.Q.ReadQuestion.asked l.question) (exprs_of (map seen_expr l.es))
