use Rattle.std.proofs.Common.{◌≢◌, take}
use Rattle.std.specs.List.{All}
use Rattle.pr_value.specs.declared.kind.Kind.TheVariants as kind
use Rattle.descriptor_types.proofs.layout.first_cost.Given as goal

abbrev pub invariant-loop-place : goal.invariant-loop-place
invariant-loop-place l = All (λ p. p.kind ≢ kind.Cost) (take l.place l.properties)
