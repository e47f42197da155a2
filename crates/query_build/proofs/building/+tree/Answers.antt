use Rattle.std.proofs.Common.{rules, ◌≡◌, ℕ, List, length, map, ap, sym, ◌∙◌, subst, arith}
use Rattle.std.proofs.lemmas.List.{length-map}
use Rattle.descriptor_types.specs.Labels.{seen_tree}
use Rattle.query_build.specs.Built.{built_operator}
use Rattle.query_build.specs.Faultless.{IsFaultless, IsRight}
use Rattle.query_build.specs.Query.{query_tree}
use Rattle.query_build.proofs.BuildLaws.{built-more, node-right, query_tree-node, tree-same}
use Rattle.query_build.proofs.FaultLaws.{faultless-at}
use Rattle.rule_ast.proofs.SeenLaws.{seen_node}
use Rattle.rule_ast.specs.Seen.{seen_query}
use Rattle.rule_ast.specs.SeenRules.{seen_rules}
use Rattle.rule_ast.specs.Syntax.{QueryLabel}
use Rattle.rule_ast.specs.declared.query.QueryText.{QueryText, the_lemmas}
use Rattle.rule_ast.specs.declared.query.Setting.{Setting}
use Rattle.query_build.proofs.building.+tree.Goals as goal

pub all_trees-tree_of-requires : goal.all_trees-tree_of-requires
all_trees-tree_of-requires t c =
    let r = seen_rules c.args.under.now.rules.now in
    let right : IsFaultless r c.args.under.now.catalog.now (seen_query c.query-item.result) =
    faultless-at r c.args.under.now.catalog.now c.args.queries.now c.loop-query.query-index c.query-item.result (omega arith) c.query-item.is c.requires.right in
    (search (rules, the_lemmas), right)

pub all_trees-loop-query-preserved : goal.all_trees-loop-query-preserved
all_trees-loop-query-preserved t c =
    built-more (seen_rules c.args.under.now.rules.now) c.args.under.now.catalog.now c.args.queries.now c.loop-query.query-index c.query-item.result c.loop-query.trees c.push.new.self c.in_ok-tree.tree
    (omega arith) c.query-item.is c.loop-query.invariant c.in_ok-tree.ensures.tree c.in_ok-tree.ensures.sound c.in_ok-push.ensures.ok

pub tree_of-operator_tree-requires-clause-right : goal.tree_of-operator_tree-requires-clause-right
tree_of-operator_tree-requires-clause-right t c =
    let r = seen_rules c.args.under.now.rules.now in
    let catalog = c.args.under.now.catalog.now in
    let o = c.in-Node.op in
    let qs = c.in-Node.inputs in
    let right = node-right r catalog c.args.query.now o c.in-Node.settings qs c.in-Node.is c.requires.right in
    let same : length c.in_ok-inputs-in-Node.inputs ≡ length qs =
    sym (length-map c.in_ok-inputs-in-Node.inputs seen_tree)
    ∙ (ap length c.in_ok-inputs-in-Node.ensures.trees
    ∙ (length-map c.as_slice.result.now (λ (q : QueryText). query_tree r catalog (seen_query q)) ∙ ap length c.as_slice.ensures)) in
    subst (λ (ss : List Setting). IsRight r catalog (QueryLabel.operator o ss) (length c.in_ok-inputs-in-Node.inputs)) (sym c.as_slice-in-Node.ensures)
    (subst (λ (n : ℕ). IsRight r catalog (QueryLabel.operator o c.in-Node.settings) n) (sym same) right)

pub tree_of-returns-in_ok-inputs-in-Node-clause-tree : goal.tree_of-returns-in_ok-inputs-in-Node-clause-tree
tree_of-returns-in_ok-inputs-in-Node-clause-tree t c =
    let r = seen_rules c.args.under.now.rules.now in
    let catalog = c.args.under.now.catalog.now in
    let o = c.in-Node.op in
    let qs = c.in-Node.inputs in
    let ts = map seen_tree c.in_ok-inputs-in-Node.inputs in
    let are : ts ≡ map (λ (q : QueryText). query_tree r catalog (seen_query q)) qs =
    c.in_ok-inputs-in-Node.ensures.trees ∙ ap (map (λ (q : QueryText). query_tree r catalog (seen_query q))) c.as_slice.ensures in
    tree-same c.operator_tree.result (built_operator r catalog o c.as_slice-in-Node.result.now ts) (query_tree r catalog (seen_query c.args.query.now)) c.operator_tree.ensures.tree
    (ap (λ (ss : List Setting). built_operator r catalog o ss ts) c.as_slice-in-Node.ensures
    ∙ (query_tree-node r catalog o c.in-Node.settings qs ts are
    ∙ sym (ap (query_tree r catalog) (ap seen_query c.in-Node.is ∙ seen_node o c.in-Node.settings qs))))
