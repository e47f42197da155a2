use Rattle.std.proofs.Common.{◌≡◌, map, ap, ◌∙◌}
use Rattle.rule_ast.specs.Seen.{seen_helper}
use Rattle.rule_ast.specs.SeenRules.{seen_rules}
use Rattle.rule_ast.specs.Typing.{Context}
use Rattle.rule_types.specs.Declarations.{descs_of, helpers_of, param_names, params_of}
use Rattle.rule_types.specs.SeenDeclarations.{seen_declaration}
use Rattle.rule_types.proofs.UseLaws.{uses-same}
use Rattle.rule_types.proofs.conditions.unknown_name.unknown_in_uses.Goals as goal

pub returns : goal.returns
returns c =
    let d = seen_declaration c.args.d.now in
    let context = c.in_ok-context.context in
    let descs : context.descs.now ≡ descs_of d =
    ap (λ (x : Context). x.descs) c.in_ok-context.ensures.seen ∙ (c.as_slice.ensures ∙ c.in_ok-descs.ensures) in
    let params : param_names context.vars.now ≡ params_of d =
    ap param_names c.in_ok-context.ensures.params ∙ c.params_of.ensures.names in
    c.uses.ensures
    ∙ uses-same c.as_slice-2.result.now c.args.rules.now.properties
    (map seen_helper c.helpers_of.result.now) (helpers_of (seen_rules c.args.rules.now) d)
    context.descs.now (descs_of d) (param_names context.vars.now) (params_of d) d
    c.as_slice-2.ensures c.helpers_of.ensures descs params
