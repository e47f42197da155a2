use Rattle.std.proofs.Common.{subst, sym, ◌≤◌}
use Rattle.pr_value.specs.Capped.{cap}
use Rattle.pr_value.specs.declared.kind.Kind.TheVariants as kind
use Rattle.action_eval.proofs.FormLaws.{number_in-le}
use Rattle.action_eval.proofs.cost_forms.making.number_at.Goals as goal

pub returns-clause-within : goal.returns-clause-within
returns-clause-within c =
    subst (λ n. n ≤ cap) (sym c.number_in.ensures) (number_in-le c.in_ok-value.value (c.in_ok-value.ensures.kind kind.Num c.requires.sound c.requires.typed))
