use Rattle.std.proofs.Common.{◌≡◌, ℕ, List, length, map, ap, sym, ◌∙◌, subst}
use Rattle.std.proofs.lemmas.List.{length-map}
use Rattle.action_eval.proofs.TypeLaws.{some-same}
use Rattle.descriptor_types.proofs.SeenLaws.{seen_node}
use Rattle.descriptor_types.specs.Descriptors.{Desc}
use Rattle.descriptor_types.specs.Labels.{Label, operator, seen_tree}
use Rattle.descriptor_types.specs.declared.tree.Tree as rust
use Rattle.descriptor_types.specs.declared.tree.Tree.TheVariants as variant
use Rattle.pr_value.specs.Trees.{Tree, tree}
use Rattle.query_build.specs.Built.{built_operator}
use Rattle.query_build.specs.Query.{initial_desc}
use Rattle.rule_trees.specs.Arities.{operator_named}
use Rattle.rule_runs.specs.Sides.{operator_at}
use Rattle.rule_trees.specs.Trees.{IsDesc, IsTree}
use Rattle.rule_trees.specs.Views.{view_in}
use Rattle.query_build.proofs.BuildLaws.{found, operator-tree, stands-right, within-map}
use Rattle.rule_trees.proofs.OperatorLaws.{Stands}
use Rattle.rule_ast.specs.Seen.{seen_operator}
use Rattle.rule_ast.specs.SeenRules.{seen_rules}
use Rattle.rule_ast.specs.Syntax.{Operator}
use Rattle.query_build.proofs.building.operator_tree.Goals as goal

pub declared_at-operator-requires : goal.declared_at-operator-requires
declared_at-operator-requires c =
    let under = c.args.under.now in
    let r = seen_rules under.rules.now in
    let o = c.args.op.now in
    let stands = stands-right r o c.args.settings.now (length c.args.inputs) under.accepted c.requires.right.arity in
    let at = found under.rules.now.operators c.as_slice-operators.result.now o (length c.args.inputs) c.operator_at-place.result c.as_slice-operators.ensures c.operator_at-place.ensures stands in
    within-map seen_operator c.as_slice-operators.result.now c.operator_at-place.result (operator_named r.operators o) at.1

pub initial_desc-requires-clause-as_many : goal.initial_desc-requires-clause-as_many
initial_desc-requires-clause-as_many c =
    let under = c.args.under.now in
    let r = seen_rules under.rules.now in
    let o = c.args.op.now in
    let stands = stands-right r o c.args.settings.now (length c.args.inputs) under.accepted c.requires.right.arity in
    let at = found under.rules.now.operators c.as_slice-operators.result.now o (length c.args.inputs) c.operator_at-place.result c.as_slice-operators.ensures c.operator_at-place.ensures stands in
    let named : operator_named r.operators o ≡ seen_operator c.declared_at-operator.result.now = some-same (sym at.1 ∙ c.declared_at-operator.ensures) in
    sym (ap (λ (p : Operator). length p.views) named) ∙ (stands.views ∙ sym (ap length c.as_slice.ensures))

pub returns-clause-tree : goal.returns-clause-tree
returns-clause-tree c =
    let under = c.args.under.now in
    let r = seen_rules under.rules.now in
    let o = c.args.op.now in
    let stands = stands-right r o c.args.settings.now (length c.args.inputs) under.accepted c.requires.right.arity in
    let at = found under.rules.now.operators c.as_slice-operators.result.now o (length c.args.inputs) c.operator_at-place.result c.as_slice-operators.ensures c.operator_at-place.ensures stands in
    let named : operator_named r.operators o ≡ seen_operator c.declared_at-operator.result.now = some-same (sym at.1 ∙ c.declared_at-operator.ensures) in
    let catalog = under.catalog.now in
    let ss = c.args.settings.now in
    let ts = map seen_tree c.args.inputs in
    let own : c.in_ok-desc.desc ≡ initial_desc r catalog (operator_named r.operators o) ss (map (view_in r) ts) =
    c.in_ok-desc.ensures.initial
    ∙ (ap (λ (p : Operator). initial_desc r catalog p ss (map (view_in r) (map seen_tree c.as_slice.result.now))) (sym named)
    ∙ ap (λ (us : List rust.Tree). initial_desc r catalog (operator_named r.operators o) ss (map (view_in r) (map seen_tree us))) c.as_slice.ensures) in
    let whole : seen_tree (variant.Node c.operator_at-place.result c.in_ok-desc.desc c.args.inputs) ≡ built_operator r catalog o ss ts =
    seen_node c.operator_at-place.result c.in_ok-desc.desc c.args.inputs
    ∙ (ap (λ (n : ℕ). tree (operator n c.in_ok-desc.desc) ts) at.0 ∙ ap (λ (d : Desc). tree (operator (operator_at r.operators o) d) ts) own) in
    whole

pub returns-clause-sound : goal.returns-clause-sound
returns-clause-sound c =
    let under = c.args.under.now in
    let r = seen_rules under.rules.now in
    let o = c.args.op.now in
    let stands = stands-right r o c.args.settings.now (length c.args.inputs) under.accepted c.requires.right.arity in
    let at = found under.rules.now.operators c.as_slice-operators.result.now o (length c.args.inputs) c.operator_at-place.result c.as_slice-operators.ensures c.operator_at-place.ensures stands in
    let named : operator_named r.operators o ≡ seen_operator c.declared_at-operator.result.now = some-same (sym at.1 ∙ c.declared_at-operator.ensures) in
    let catalog = under.catalog.now in
    let ss = c.args.settings.now in
    let ts = map seen_tree c.args.inputs in
    let own : c.in_ok-desc.desc ≡ initial_desc r catalog (operator_named r.operators o) ss (map (view_in r) ts) =
    c.in_ok-desc.ensures.initial
    ∙ (ap (λ (p : Operator). initial_desc r catalog p ss (map (view_in r) (map seen_tree c.as_slice.result.now))) (sym named)
    ∙ ap (λ (us : List rust.Tree). initial_desc r catalog (operator_named r.operators o) ss (map (view_in r) (map seen_tree us))) c.as_slice.ensures) in
    let whole : seen_tree (variant.Node c.operator_at-place.result c.in_ok-desc.desc c.args.inputs) ≡ built_operator r catalog o ss ts =
    seen_node c.operator_at-place.result c.in_ok-desc.desc c.args.inputs
    ∙ (ap (λ (n : ℕ). tree (operator n c.in_ok-desc.desc) ts) at.0 ∙ ap (λ (d : Desc). tree (operator (operator_at r.operators o) d) ts) own) in
    let there = subst (λ (n : ℕ). Stands r.operators o n) (sym (length-map c.args.inputs seen_tree)) stands in
    subst (λ (t : Tree Label). IsTree r catalog t) (sym whole)
    (operator-tree r catalog o ss ts there c.requires.sound (subst (λ (d : Desc). IsDesc r d) own c.in_ok-desc.ensures.sound))
