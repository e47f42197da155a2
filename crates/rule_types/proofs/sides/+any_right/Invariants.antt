use Rattle.std.proofs.Common.{◌≡◌, drop, map}
use Rattle.pr_value.specs.Trees.{trees_of}
use Rattle.rule_ast.specs.Seen.{seen_right_in}
use Rattle.rule_types.specs.Uses.{any_nodes}
use Rattle.rule_types.proofs.sides.+any_right.Given as goal

-- the rest decides
abbrev pub invariant-any_right_ins-loop-input : goal.invariant-any_right_ins-loop-input
invariant-any_right_ins-loop-input g l =
    let asked = g.Q.RightQuestion.asked l.question in
    any_nodes asked (trees_of (map seen_right_in (drop l.input-index l.inputs)))
    ≡ any_nodes asked (trees_of (map seen_right_in l.inputs))
