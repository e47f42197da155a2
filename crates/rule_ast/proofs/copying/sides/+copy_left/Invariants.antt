use Rattle.std.proofs.Common.{◌≡◌, take}
use Rattle.rule_ast.proofs.copying.sides.+copy_left.Given as goal

abbrev pub invariant-copy_left_ins-loop-input : goal.invariant-copy_left_ins-loop-input
invariant-copy_left_ins-loop-input l = l.copies ≡ take l.input-index l.inputs
