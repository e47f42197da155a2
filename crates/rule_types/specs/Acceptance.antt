-- What is told of a rule set that is not accepted.
use Rattle.std.specs.Prelude.{◌≡◌, ⊤, Option, Some}
use Rattle.rule_types.specs.Conditions.{refused}
use Rattle.rule_types.specs.declared.acceptance.AcceptError.{AcceptError}
use Rattle.rule_types.specs.declared.acceptance.AcceptError.TheVariants as error
use Rattle.rule_types.specs.declared.refusal.Refused.{Refused}

-- the condition that holds and its name; memory may run out in any case
abbrev pub IsTold : Option Refused → AcceptError → Type 0
IsTold why (error.Refused k s) = why ≡ Some (refused k s)
IsTold why error.Memory = ⊤
