use Rattle.std.proofs.Common.{◌≡◌, ◌++◌, take}
use Rattle.rule_ast.specs.Descs.{names_of}
use Rattle.rule_ast.proofs.descs.push_inputs.Given as goal

abbrev pub invariant-loop-input : goal.invariant-loop-input
invariant-loop-input l = l.out ≡ l.initial.out ++ names_of (take l.input-index l.inputs)
