use Rattle.std.proofs.Common.{List, length, map, Some, ap, sym, ◌∙◌, subst}
use Rattle.std.specs.Cmp.{first_so}
use Rattle.action_eval.proofs.PlainLaws.{or_second}
use Rattle.descriptor_types.specs.Descriptors.{Desc}
use Rattle.rule_ast.specs.Descs.{stream_numbers}
use Rattle.rule_ast.specs.Seen.{seen_operator, seen_trule}
use Rattle.rule_ast.specs.SeenRules.{seen_rules}
use Rattle.rule_ast.specs.declared.parts.Operator as operator
use Rattle.rule_runs.specs.Laws.{Suffice}
use Rattle.rule_runs.specs.SeenSides.{seen_side}
use Rattle.rule_runs.specs.Sides.{Side, right_side}
use Rattle.rule_trees.proofs.AcceptedFacts.{accepted-operators, trule-CanRun, trule_facts}
use Rattle.rule_trees.proofs.MadeLaws.{right-arities}
use Rattle.rule_trees.proofs.StepLaws.{made-suffice}
use Rattle.rule_trees.specs.Arities.{IsOfArities}
use Rattle.tree_terms.proofs.tree_steps.rewritten_term.Goals as goal

pub run_trule-requires-clause-rule : goal.run_trule-requires-clause-rule
run_trule-requires-clause-rule c = trule-CanRun (seen_rules c.args.under.now.rules.now) c.args.under.now.accepted (seen_trule c.args.rule.now) c.requires.rule

pub make_term-requires-clause-arities : goal.make_term-requires-clause-arities
make_term-requires-clause-arities c =
    let r = seen_rules c.args.under.now.rules.now in
    let t = seen_trule c.args.rule.now in
    let side = c.in_ok-side.ensures ∙ ap (λ (os : List operator.Operator). right_side (map seen_operator os) t.left t.right) c.as_slice-operators.ensures in
    let rule = trule_facts r c.args.under.now.accepted t c.requires.rule in
    subst (IsOfArities r) (sym side) (right-arities r (stream_numbers t.left) (accepted-operators r c.args.under.now.accepted) t.right (or_second _ _ rule.arities))

pub make_term-requires-clause-enough : goal.make_term-requires-clause-enough
make_term-requires-clause-enough c =
    let r = seen_rules c.args.under.now.rules.now in
    let t = seen_trule c.args.rule.now in
    let side = c.in_ok-side.ensures ∙ ap (λ (os : List operator.Operator). right_side (map seen_operator os) t.left t.right) c.as_slice-operators.ensures in
    let ran = sym c.in_ok-descs.ensures.made ∙ c.in-Some.is in
    let many = ap length c.as_slice.ensures.value ∙ c.requires.as_many in
    let enough = made-suffice r c.args.under.now.catalog.now t c.args.found.now.slots (length c.as_slice.result.now) c.in-Some.descs (trule_facts r c.args.under.now.accepted t c.requires.rule) many ran in
    subst (λ (p : Side). Suffice (length c.as_slice.result.now) (length c.as_slice-2.result.now) p) (sym side)
    (subst (λ (ds : List Desc). Suffice (length c.as_slice.result.now) (length ds) (right_side r.operators t.left t.right)) (sym c.as_slice-2.ensures) enough)
