use Rattle.std.proofs.Common.{List, map, IfSome, ap, ◌∙◌, subst}
use Rattle.std.specs.List.{list_all}
use Rattle.action_eval.specs.Meaning.{desc_in}
use Rattle.action_eval.specs.SeenEnv.{seen_env}
use Rattle.descriptor_types.specs.Descriptors.{fits}
use Rattle.pr_value.specs.Symbols.{Symbol}
use Rattle.rule_ast.specs.Descs.{right_descs, trule_descs}
use Rattle.rule_ast.specs.Seen.{seen_trule}
use Rattle.rule_ast.specs.SeenRules.{seen_rules}
use Rattle.rule_runs.specs.Ready.{IsReady}
use Rattle.rule_runs.proofs.AskedLaws.{descs-fit, right-known}
use Rattle.rule_runs.proofs.trules.run_trule.Goals as goal

pub returns-clause-fit : goal.returns-clause-fit
returns-clause-fit c =
    let r = seen_rules c.args.rules.now in
    let t = seen_trule c.args.rule.now in
    let env = seen_env c.in-Some.env in
    let ready = subst (λ o. IfSome o (λ e. IsReady r (trule_descs t) (seen_env e))) c.in-Some.is c.in_ok-env.ensures.ready in
    ap (list_all (fits r.properties)) (c.in_ok-descs.ensures ∙ ap (λ (ns : List Symbol). map (desc_in env.descs) ns) (c.as_slice-2.ensures ∙ c.in_ok-right.ensures))
    ∙ descs-fit r (trule_descs t) env (right_descs t.right) ready (right-known t)
