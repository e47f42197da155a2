use Rattle.std.proofs.Common.{ap, sym, ◌∙◌, ◌≡◌, subst, true}
use Rattle.pr_value.specs.Values.{has_kind}
use Rattle.pr_value.specs.declared.value.Value.{Value}
use Rattle.rule_ast.specs.Seen.{seen_expr}
use Rattle.rule_ast.specs.Syntax.{Rules}
use Rattle.action_eval.specs.Environments.{scope_of}
use Rattle.action_eval.specs.Meaning.{functions, value_by}
use Rattle.action_eval.specs.SeenEnv.{seen_env}
use Rattle.action_eval.proofs.StatementLaws.{has_kind-value_here}
use Rattle.action_eval.proofs.expressions.eval.Goals as goal

pub returns-clause-value : goal.returns-clause-value
returns-clause-value c =
    let env = seen_env c.args.env.now in
    c.in_ok-value.ensures ∙ ap (λ (r : Rules). value_by env.layout (functions env.layout r.helpers c.args.catalog.now) (scope_of env) (seen_expr c.args.e.now)) c.rules.ensures

pub returns-clause-kind : goal.returns-clause-kind
returns-clause-kind c =
    λ t sound typed.
    let env = seen_env c.args.env.now in
    let here = c.in_ok-value.ensures ∙ ap (λ (r : Rules). value_by env.layout (functions env.layout r.helpers c.args.catalog.now) (scope_of env) (seen_expr c.args.e.now)) c.rules.ensures in
    subst (λ (v : Value). has_kind t v ≡ true) (sym here) (has_kind-value_here env c.args.catalog.now (seen_expr c.args.e.now) t sound typed)
