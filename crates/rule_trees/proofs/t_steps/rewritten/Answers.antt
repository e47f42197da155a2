use Rattle.std.proofs.Common.{List, length, map, Some, ap, sym, ◌∙◌, subst, Bor}
use Rattle.std.proofs.lemmas.List.{length-map}
use Rattle.descriptor_types.specs.Descriptors.{Desc}
use Rattle.descriptor_types.specs.Labels.{Label, seen_tree}
use Rattle.descriptor_types.specs.declared.tree.Tree as code
use Rattle.pr_value.specs.Trees.{Tree}
use Rattle.rule_ast.specs.Seen.{seen_operator, seen_trule}
use Rattle.rule_ast.specs.SeenRules.{seen_rules}
use Rattle.rule_ast.specs.declared.parts.Operator as operator
use Rattle.rule_runs.specs.Laws.{Suffice}
use Rattle.rule_runs.specs.SeenSides.{seen_side}
use Rattle.rule_runs.specs.Sides.{Side, right_side}
use Rattle.rule_trees.proofs.AcceptedFacts.{trule-CanRun, trule_facts}
use Rattle.rule_trees.proofs.FoundLaws.{match-slots}
use Rattle.rule_trees.proofs.StepLaws.{made-suffice, rewritten-IsTree, rewritten-some}
use Rattle.rule_trees.specs.Matches.{seen_match}
use Rattle.rule_trees.specs.Steps.{tree_with}
use Rattle.rule_trees.specs.Trees.{IsTree}
use Rattle.rule_trees.proofs.t_steps.rewritten.Goals as goal

pub run_trule-requires-clause-rule : goal.run_trule-requires-clause-rule
run_trule-requires-clause-rule c = trule-CanRun (seen_rules c.args.under.now.rules.now) c.args.under.now.accepted (seen_trule c.args.rule.now) c.requires.rule

pub run_trule-requires-clause-slots : goal.run_trule-requires-clause-slots
run_trule-requires-clause-slots c = match-slots (seen_rules c.args.under.now.rules.now) c.args.under.now.catalog.now (seen_trule c.args.rule.now).left (seen_match c.args.found) c.requires.found

pub make-requires : goal.make-requires
make-requires c =
    let r = seen_rules c.args.under.now.rules.now in
    let t = seen_trule c.args.rule.now in
    let side = c.in_ok-side.ensures ∙ ap (λ (os : List operator.Operator). right_side (map seen_operator os) t.left t.right) c.as_slice-operators.ensures in
    let ran = sym c.in_ok-descs.ensures.made ∙ c.in-Some.is in
    let many = ap length c.as_slice.ensures.value ∙ (sym (length-map c.args.found.streams.items (λ t'. seen_tree t'.now)) ∙ c.requires.found.as_many_streams) in
    let enough = made-suffice r c.args.under.now.catalog.now t c.args.found.slots (length c.as_slice.result.now) c.in-Some.descs (trule_facts r c.args.under.now.accepted t c.requires.rule) many ran in
    subst (λ (p : Side). Suffice (length c.as_slice.result.now) (length c.as_slice-2.result.now) p) (sym side) (subst (λ (ds : List Desc). Suffice (length c.as_slice.result.now) (length ds) (right_side r.operators t.left t.right)) (sym c.as_slice-2.ensures) enough)

pub returns-clause-made : goal.returns-clause-made
returns-clause-made c =
    let r = seen_rules c.args.under.now.rules.now in
    let t = seen_trule c.args.rule.now in
    let side = c.in_ok-side.ensures ∙ ap (λ (os : List operator.Operator). right_side (map seen_operator os) t.left t.right) c.as_slice-operators.ensures in
    let is =
    c.in_ok-tree.ensures
    ∙ (ap (λ (bs : List (Bor code.Tree)). tree_with (map (λ t'. seen_tree t'.now) bs) (seen_side c.in_ok-side.side) c.as_slice-2.result.now) c.as_slice.ensures.value
    ∙ ap (λ (ds : List Desc). tree_with (seen_match c.args.found).streams (seen_side c.in_ok-side.side) ds) c.as_slice-2.ensures) in
    rewritten-some r c.args.under.now.catalog.now t (seen_match c.args.found) c.in-Some.descs c.in_ok-tree._rest.now (seen_tree c.in_ok-tree.tree) (seen_side c.in_ok-side.side) side is (sym c.in-Some.is ∙ c.in_ok-descs.ensures.made)

pub returns-clause-tree : goal.returns-clause-tree
returns-clause-tree c =
    let r = seen_rules c.args.under.now.rules.now in
    let t = seen_trule c.args.rule.now in
    let side = c.in_ok-side.ensures ∙ ap (λ (os : List operator.Operator). right_side (map seen_operator os) t.left t.right) c.as_slice-operators.ensures in
    let is =
    c.in_ok-tree.ensures
    ∙ (ap (λ (bs : List (Bor code.Tree)). tree_with (map (λ t'. seen_tree t'.now) bs) (seen_side c.in_ok-side.side) c.as_slice-2.result.now) c.as_slice.ensures.value
    ∙ (ap (λ (ds : List Desc). tree_with (seen_match c.args.found).streams (seen_side c.in_ok-side.side) ds) c.as_slice-2.ensures
    ∙ ap (λ (p : Side). tree_with (seen_match c.args.found).streams p c.in-Some.descs) side)) in
    subst (IsTree r c.args.under.now.catalog.now) (sym (ap (λ (p : Tree Label × List Desc). p.0) is))
    (rewritten-IsTree r c.args.under.now.catalog.now t (seen_match c.args.found) c.in-Some.descs c.args.under.now.accepted c.requires.rule c.requires.found (sym c.in_ok-descs.ensures.made ∙ c.in-Some.is))
