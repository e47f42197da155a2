use Rattle.std.proofs.Common.{◌≡◌, ◌++◌, map, take}
use Rattle.descriptor_types.specs.Descriptors.{plain}
use Rattle.rule_runs.proofs.scopes.push_defaults.Given as goal

abbrev pub invariant-loop-name : goal.invariant-loop-name
invariant-loop-name l = l.out ≡ l.initial.out ++ map (λ d. plain l.layout) (take l._name-index l.names)
