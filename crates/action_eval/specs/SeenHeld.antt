-- How the definitions see a value that is held.
use Rattle.pr_value.specs.declared.value.Value.{Value}
use Rattle.action_eval.specs.declared.held.Hold.{Hold}
use Rattle.action_eval.specs.declared.held.Hold.TheVariants as hold

abbrev pub held_value : Hold → Value
held_value (hold.Own v) = v
held_value (hold.Lent v) = v.now
