use Rattle.std.proofs.Common.{◌≡◌, ◌++◌, take}
use Rattle.rule_ast.specs.Descs.{names_of}
use Rattle.property_classes.proofs.reading.push_inputs.Given as goal

-- those of the inputs so far
abbrev pub invariant-loop-input : goal.invariant-loop-input
invariant-loop-input l =
    l.out ≡ l.initial.out ++ names_of (take l.input-index l.inputs)
