use Rattle.std.proofs.Common.{rules, refl, sym, arith}
use Rattle.derivation.proofs.CodeLaws.{rule_made}
use Rattle.derivation.specs.declared.reason.Reason.TheVariants.{Rule}
use Rattle.derivation.proofs.lines.rule_line.Goals as goal

pub returns-in-Some-made-clause-made : goal.returns-in-Some-made-clause-made
returns-in-Some-made-clause-made g c = (
  refl,
  rule_made (g.S.Steps.stepped c.args.steps.now) c.args.terms.now c.step.new.terms c.args.lines.now c.args.of c.args.rule c.in-Some-made.u _ (Rule c.args.of c.args.rule) c.in-Some.p (sym c.in-Some.ensures) c.step.ensures.kept (search rules) (omega arith),
)
