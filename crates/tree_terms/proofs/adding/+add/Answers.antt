use Rattle.std.proofs.Common.{rules, ◌<◌, length, map, subst, sym}
use Rattle.std.specs.Prelude.{All}
use Rattle.derivation.specs.Stands.{StandAll}
use Rattle.descriptor_types.specs.Labels.{seen_tree}
use Rattle.descriptor_types.specs.declared.tree.Tree.{the_lemmas}
use Rattle.pr_value.specs.Trees.{nil, trees_of}
use Rattle.tree_terms.specs.Dressed.{dressed}
use Rattle.rule_ast.specs.SeenRules.{seen_rules}
use Rattle.tree_terms.proofs.AddLaws.{file_stands, inputs-long, kept_itself, kept_trans, node_IsTree, node_over_one, node_stands, stand_none, stand_within, stand-all, stand-more, trees-at}
use Rattle.tree_terms.proofs.PartsAdded.{file_parts, node_parts, none_new, parts_all, parts_more}
use Rattle.tree_terms.proofs.adding.+add.Goals as goal

pub add_node-add-requires-in-Node-clause-below : goal.add_node-add-requires-in-Node-clause-below
add_node-add-requires-in-Node-clause-below t c =
    let r = seen_rules c.args.dressing.now.rules.now in
    subst (All (λ n. n < length c.add_nodes.new.terms)) (sym c.as_slice-in-Node.ensures.value)
    (stand_within c.add_nodes.new.terms c.in_ok-numbers-in-Node.numbers.items (map (λ u. dressed r (seen_tree u)) c.as_slice.result.now) c.in_ok-numbers-in-Node.ensures.stand)

pub add_node-add-requires-in-Node-clause-over_one :
    goal.add_node-add-requires-in-Node-clause-over_one
add_node-add-requires-in-Node-clause-over_one t c =
    let r = seen_rules c.args.dressing.now.rules.now in
    node_over_one r c.requires.0 c.in_ok-label-in-Node.label c.in-Node.op c.in-Node.desc (map seen_tree c.in-Node.inputs) c.as_slice-in-Node.result.now c.args.dressing.now.accepted
    (node_IsTree r c.requires.0 c.args.tree.now c.in-Node.op c.in-Node.desc c.in-Node.inputs c.in-Node.is c.requires.1)
    (inputs-long r c.add_nodes.new.terms c.in_ok-numbers-in-Node.numbers.items c.as_slice-in-Node.result.now c.in-Node.inputs c.as_slice.result.now c.as_slice-in-Node.ensures.value c.as_slice.ensures c.in_ok-numbers-in-Node.ensures.stand)
    c.in_ok-desc-in-Node.desc c.in_ok-label-in-Node.ensures

pub add_node-returns-in_ok-number-in-File-clause-stands :
    goal.add_node-returns-in_ok-number-in-File-clause-stands
add_node-returns-in_ok-number-in-File-clause-stands t c =
    let r = seen_rules c.args.dressing.now.rules.now in
    file_stands r c.args.terms.now c.add.new.self c.in_ok-number-in-File.number c.args.tree.now c.in-File.name c.in_ok-name-in-File.name c.in-File.desc c.in_ok-desc-in-File.desc c.in_ok-label-in-File.label _
    c.in-File.is c.in_ok-name-in-File.ensures c.in_ok-desc-in-File.ensures c.in_ok-label-in-File.ensures (search rules) c.in_ok-number-in-File.ensures.kept c.in_ok-number-in-File.ensures.at

pub add_node-returns-in_ok-number-in-Node-clause-stands :
    goal.add_node-returns-in_ok-number-in-Node-clause-stands
add_node-returns-in_ok-number-in-Node-clause-stands t c =
    let r = seen_rules c.args.dressing.now.rules.now in
    let row = subst (λ ns. StandAll c.add_nodes.new.terms ns (trees_of (map (λ u. dressed r (seen_tree u)) c.as_slice.result.now))) (sym c.as_slice-in-Node.ensures.value) c.in_ok-numbers-in-Node.ensures.stand in
    node_stands r c.add_nodes.new.terms c.add-in-Node.new.self c.in_ok-number-in-Node.number c.args.tree.now c.in-Node.op c.in-Node.desc c.in_ok-desc-in-Node.desc c.in-Node.inputs c.as_slice.result.now c.in_ok-label-in-Node.label
    c.as_slice-in-Node.result.now c.in-Node.is c.as_slice.ensures c.in_ok-desc-in-Node.ensures c.in_ok-label-in-Node.ensures c.in_ok-number-in-Node.ensures.kept c.in_ok-number-in-Node.ensures.at row

pub add_nodes-loop-tree-init : goal.add_nodes-loop-tree-init
add_nodes-loop-tree-init t c =
    record {
      kept = kept_itself c.args.terms.now;
      parts = none_new _ c.args.terms.now;
      stand = subst (λ ns. StandAll c.args.terms.now ns nil) (sym c.new-numbers.ensures.items) (stand_none c.args.terms.now);
      trees = c.requires;
    }

pub add_nodes-add_node-requires : goal.add_nodes-add_node-requires
add_nodes-add_node-requires t c =
    let r = seen_rules c.args.dressing.now.rules.now in
    let k = c.loop-tree.invariant.trees.0 in
    (search (rules, the_lemmas), (k, (trees-at r k c.args.trees.now c.loop-tree.tree-index c.tree-item.result c.loop-tree-test.true c.tree-item.is c.loop-tree.invariant.trees.1).0))

pub add_nodes-returns-in_err-number-clause-kept : goal.add_nodes-returns-in_err-number-clause-kept
add_nodes-returns-in_err-number-clause-kept t c = kept_trans c.args.terms.now c.loop-tree.terms c.add_node.new.terms c.loop-tree.invariant.kept c.in_err-number.ensures.kept

pub add_nodes-returns-in_err-push-clause-kept : goal.add_nodes-returns-in_err-push-clause-kept
add_nodes-returns-in_err-push-clause-kept t c = kept_trans c.args.terms.now c.loop-tree.terms c.add_node.new.terms c.loop-tree.invariant.kept c.in_ok-number.ensures.kept

pub add_nodes-loop-tree-preserved : goal.add_nodes-loop-tree-preserved
add_nodes-loop-tree-preserved t c =
    let r = seen_rules c.args.dressing.now.rules.now in
    let k = c.loop-tree.invariant.trees.0 in
    record {
      kept = kept_trans c.args.terms.now c.loop-tree.terms c.add_node.new.terms c.loop-tree.invariant.kept c.in_ok-number.ensures.kept;
      stand =
          stand-more r c.loop-tree.terms c.add_node.new.terms c.loop-tree.numbers.items c.push.new.self.items c.args.trees.now c.loop-tree.tree-index c.tree-item.result c.in_ok-number.number c.loop-tree-test.true c.tree-item.is
          c.in_ok-number.ensures.kept c.loop-tree.invariant.stand c.in_ok-number.ensures.stands (search rules);
      parts =
          parts_more r c.args.terms.now c.loop-tree.terms c.add_node.new.terms c.args.trees.now c.loop-tree.tree-index c.tree-item.result c.loop-tree-test.true c.tree-item.is
          c.in_ok-number.ensures.kept c.loop-tree.invariant.parts c.in_ok-number.ensures.parts;
      trees = (k, (trees-at r k c.args.trees.now c.loop-tree.tree-index c.tree-item.result c.loop-tree-test.true c.tree-item.is c.loop-tree.invariant.trees.1).1);
    }

pub add_nodes-returns-clause-kept : goal.add_nodes-returns-clause-kept
add_nodes-returns-clause-kept t c = c.loop-tree.invariant.kept

pub add_nodes-returns-clause-stand : goal.add_nodes-returns-clause-stand
add_nodes-returns-clause-stand t c =
    stand-all (seen_rules c.args.dressing.now.rules.now) c.loop-tree.terms c.loop-tree.numbers.items c.args.trees.now c.loop-tree.tree-index c.loop-tree-test.false c.loop-tree.invariant.stand

pub add_nodes-returns-clause-parts : goal.add_nodes-returns-clause-parts
add_nodes-returns-clause-parts t c =
    parts_all (seen_rules c.args.dressing.now.rules.now) c.args.terms.now c.loop-tree.terms c.args.trees.now c.loop-tree.tree-index c.loop-tree-test.false c.loop-tree.invariant.parts

pub add_node-returns-in_ok-number-in-File-clause-parts :
    goal.add_node-returns-in_ok-number-in-File-clause-parts
add_node-returns-in_ok-number-in-File-clause-parts t c =
    let r = seen_rules c.args.dressing.now.rules.now in
    file_parts r c.args.terms.now c.add.new.self c.args.tree.now c.in_ok-label-in-File.label _ c.in_ok-number-in-File.ensures.added
    (λ n at. file_stands r c.args.terms.now c.add.new.self n c.args.tree.now c.in-File.name c.in_ok-name-in-File.name c.in-File.desc c.in_ok-desc-in-File.desc c.in_ok-label-in-File.label _
    c.in-File.is c.in_ok-name-in-File.ensures c.in_ok-desc-in-File.ensures c.in_ok-label-in-File.ensures (search rules) c.in_ok-number-in-File.ensures.kept at)

pub add_node-returns-in_ok-number-in-Node-clause-parts :
    goal.add_node-returns-in_ok-number-in-Node-clause-parts
add_node-returns-in_ok-number-in-Node-clause-parts t c =
    let r = seen_rules c.args.dressing.now.rules.now in
    let row = subst (λ ns. StandAll c.add_nodes.new.terms ns (trees_of (map (λ u. dressed r (seen_tree u)) c.as_slice.result.now))) (sym c.as_slice-in-Node.ensures.value) c.in_ok-numbers-in-Node.ensures.stand in
    node_parts r c.args.terms.now c.add_nodes.new.terms c.add-in-Node.new.self c.args.tree.now c.in-Node.op c.in-Node.desc c.in-Node.inputs c.as_slice.result.now c.in_ok-label-in-Node.label c.as_slice-in-Node.result.now
    c.in-Node.is c.as_slice.ensures c.in_ok-number-in-Node.ensures.kept c.in_ok-number-in-Node.ensures.added
    (λ n at. node_stands r c.add_nodes.new.terms c.add-in-Node.new.self n c.args.tree.now c.in-Node.op c.in-Node.desc c.in_ok-desc-in-Node.desc c.in-Node.inputs c.as_slice.result.now c.in_ok-label-in-Node.label
    c.as_slice-in-Node.result.now c.in-Node.is c.as_slice.ensures c.in_ok-desc-in-Node.ensures c.in_ok-label-in-Node.ensures c.in_ok-number-in-Node.ensures.kept at row)
    c.in_ok-numbers-in-Node.ensures.parts
