use Rattle.std.proofs.Common.{◌≡◌, drop}
use Rattle.rule_types.proofs.TypeLaws.{types_at, with_rest}
use Rattle.rule_types.proofs.typing.+typing.Given as goal

-- what is found so far goes before the types of the rest
abbrev pub invariant-types_in-loop-e : goal.invariant-types_in-loop-e
invariant-types_in-loop-e l = types_at l.scope l.folds l.es ≡ with_rest l.types.items (types_at l.scope l.folds (drop l.e-index l.es))
