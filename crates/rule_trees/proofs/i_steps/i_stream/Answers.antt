use Rattle.std.proofs.Common.{◌≡◌, ◌<◌, List, length, map, get_or, None, true, false, ap, sym, ◌∙◌, subst}
use Rattle.std.specs.Prelude.{◌==◌, slice_get}
use Rattle.std.proofs.lemmas.Bool.{eq-eqb, ne_eqb}
use Rattle.descriptor_types.specs.Labels.{seen_tree}
use Rattle.descriptor_types.specs.declared.tree.Tree as tree
use Rattle.rule_ast.specs.Seen.{seen_irule, seen_operator}
use Rattle.rule_ast.specs.SeenRules.{seen_rules}
use Rattle.rule_ast.specs.declared.parts.IRule as irule
use Rattle.rule_ast.specs.declared.parts.Operator as operator
use Rattle.rule_ast.specs.declared.rule_set.Rules as rules
use Rattle.rule_ast.specs.declared.sides.Left.{out-Left}
use Rattle.rule_runs.specs.Sides.{operator_at}
use Rattle.rule_types.specs.Conditions.{refused_by}
use Rattle.rule_trees.proofs.StepLaws.{there-at}
use Rattle.rule_trees.proofs.StreamLaws.{irule-at, looked-up, none-file, none-more, none-other, some-at}
use Rattle.rule_trees.specs.Steps.{i_stream_tree}
use Rattle.rule_trees.proofs.i_steps.i_stream.Goals as goal

pub returns-in_default : goal.returns-in_default
returns-in_default c =
    let r = seen_rules c.args.a.now.rules in
    let (x, at, there) = irule-at c.args.a.now.rules.irules c.args.rule c.requires.rule in
    none-file r c.args.a.now.accepted c.args.rule c.args.stream x at there c.args.t.now c.in_default.field-0 c.in_default.field-1 c.in_default.is

pub returns-then-op-root : goal.returns-then-op-root
returns-then-op-root c =
    let r = seen_rules c.rules-rules.result.now in
    let x = c.index-as_slice-rule.result in
    let within = subst (λ (rs : rules.Rules). c.args.rule < length rs.irules) (sym c.rules-rules.ensures.same) c.requires.rule in
    let at = there-at seen_irule c.rules-rules.result.now.irules c.as_slice.result.now c.args.rule x c.as_slice.ensures (subst (λ ts. c.args.rule < length ts) (sym c.as_slice.ensures) within) c.index-as_slice-rule.is in
    let accepted = ap (λ rs. refused_by (seen_rules rs)) c.rules-rules.ensures.same ∙ c.rules-rules.ensures.accepted in
    let root : c.operator_at-root.result ≡ operator_at r.operators (out-Left x.left).op =
    c.operator_at-root.ensures
    ∙ (ap (λ (os : List operator.Operator). operator_at (map seen_operator os) (out-Left (get_or c.as_slice.result.now c.args.rule x).left).op) c.as_slice-2.ensures
    ∙ ap (λ (y : irule.IRule). operator_at r.operators (out-Left y.left).op) (sym c.index-as_slice-rule.is)) in
    let none = none-other r accepted c.args.rule c.args.stream x at.1 at.0 c.args.t.now c.in-Node.op c.in-Node.desc c.in-Node.inputs c.in-Node.is (ne_eqb c.in-Node.op (operator_at r.operators (out-Left x.left).op) (λ e. c.if-op-root.true (e ∙ sym root))) in
    none ∙ ap (λ (rs : rules.Rules). i_stream_tree (seen_rules rs) c.args.rule c.args.stream (seen_tree c.args.t.now)) c.rules-rules.ensures.same

pub returns-then-len : goal.returns-then-len
returns-then-len c =
    let r = seen_rules c.rules-rules.result.now in
    let x = c.index-as_slice-rule.result in
    let within = subst (λ (rs : rules.Rules). c.args.rule < length rs.irules) (sym c.rules-rules.ensures.same) c.requires.rule in
    let at = there-at seen_irule c.rules-rules.result.now.irules c.as_slice.result.now c.args.rule x c.as_slice.ensures (subst (λ ts. c.args.rule < length ts) (sym c.as_slice.ensures) within) c.index-as_slice-rule.is in
    let accepted = ap (λ rs. refused_by (seen_rules rs)) c.rules-rules.ensures.same ∙ c.rules-rules.ensures.accepted in
    let root : c.operator_at-root.result ≡ operator_at r.operators (out-Left x.left).op =
    c.operator_at-root.ensures
    ∙ (ap (λ (os : List operator.Operator). operator_at (map seen_operator os) (out-Left (get_or c.as_slice.result.now c.args.rule x).left).op) c.as_slice-2.ensures
    ∙ ap (λ (y : irule.IRule). operator_at r.operators (out-Left y.left).op) (sym c.index-as_slice-rule.is)) in
    let long : c.len-2.result ≡ length (out-Left x.left).inputs = c.len-2.ensures ∙ ap (λ (y : irule.IRule). length (out-Left y.left).inputs) (sym c.index-as_slice-rule.is) in
    let none = none-more r accepted c.args.rule c.args.stream x at.1 at.0 c.args.t.now c.in-Node.op c.in-Node.desc c.in-Node.inputs c.in-Node.is (λ e. c.if-len.true (c.len.ensures ∙ (e ∙ sym long))) in
    none ∙ ap (λ (rs : rules.Rules). i_stream_tree (seen_rules rs) c.args.rule c.args.stream (seen_tree c.args.t.now)) c.rules-rules.ensures.same

pub returns : goal.returns
returns c =
    let r = seen_rules c.rules-rules.result.now in
    let x = c.index-as_slice-rule.result in
    let within = subst (λ (rs : rules.Rules). c.args.rule < length rs.irules) (sym c.rules-rules.ensures.same) c.requires.rule in
    let at = there-at seen_irule c.rules-rules.result.now.irules c.as_slice.result.now c.args.rule x c.as_slice.ensures (subst (λ ts. c.args.rule < length ts) (sym c.as_slice.ensures) within) c.index-as_slice-rule.is in
    let accepted = ap (λ rs. refused_by (seen_rules rs)) c.rules-rules.ensures.same ∙ c.rules-rules.ensures.accepted in
    let root : c.operator_at-root.result ≡ operator_at r.operators (out-Left x.left).op =
    c.operator_at-root.ensures
    ∙ (ap (λ (os : List operator.Operator). operator_at (map seen_operator os) (out-Left (get_or c.as_slice.result.now c.args.rule x).left).op) c.as_slice-2.ensures
    ∙ ap (λ (y : irule.IRule). operator_at r.operators (out-Left y.left).op) (sym c.index-as_slice-rule.is)) in
    let long : c.len-2.result ≡ length (out-Left x.left).inputs = c.len-2.ensures ∙ ap (λ (y : irule.IRule). length (out-Left y.left).inputs) (sym c.index-as_slice-rule.is) in
    let some = some-at r accepted c.args.rule c.args.stream x at.1 at.0 c.args.t.now c.in-Node.op c.in-Node.desc c.in-Node.inputs c.in-Node.is (eq-eqb c.in-Node.op (operator_at r.operators (out-Left x.left).op) (c.if-op-root.false ∙ root)) (sym c.len.ensures ∙ (c.if-len.false ∙ long)) in
    let last = some ∙ ap (λ (rs : rules.Rules). i_stream_tree (seen_rules rs) c.args.rule c.args.stream (seen_tree c.args.t.now)) c.rules-rules.ensures.same in
    looked-up c.get.result c.as_slice-3.result.now c.args.stream _ c.get.ensures.lookup.1 c.get.ensures.lookup.3
    ∙ (ap (λ (us : List tree.Tree). slice_get (map seen_tree us) c.args.stream) c.as_slice-3.ensures ∙ last)
