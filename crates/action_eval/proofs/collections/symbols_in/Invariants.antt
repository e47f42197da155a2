use Rattle.std.proofs.Common.{◌≡◌, take}
use Rattle.action_eval.specs.Builtins.{symbols_in}
use Rattle.action_eval.proofs.collections.symbols_in.Given as goal

abbrev pub invariant-loop-value : goal.invariant-loop-value
invariant-loop-value l = l.symbols.items ≡ symbols_in (take l.value-index l.values)
