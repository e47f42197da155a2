use Rattle.std.proofs.Common.{◌≡◌, drop, map}
use Rattle.rule_ast.specs.Seen.{seen_expr, exprs_of}
use Rattle.rule_types.specs.SeenUses.{seen_folds}
use Rattle.rule_types.specs.Uses.{any_uses}
use Rattle.rule_types.proofs.uses.+any_use.Given as goal

-- the rest decides
abbrev pub invariant-any_uses-loop-e : goal.invariant-any_uses-loop-e
invariant-any_uses-loop-e g l =
    let any_of = any_uses (g.Q.UseQuestion.asked l.question) (seen_folds l.folds) in
    any_of (exprs_of (map seen_expr (drop l.e-index l.es))) ≡ any_of (exprs_of (map seen_expr l.es))
