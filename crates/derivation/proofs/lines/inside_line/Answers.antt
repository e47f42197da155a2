use Rattle.std.proofs.Common.{rules, refl, sym}
use Rattle.derivation.proofs.CodeLaws.{inside_none, inside_made}
use Rattle.derivation.specs.declared.reason.Reason.TheVariants.{Inside}
use Rattle.derivation.proofs.lines.inside_line.Goals as goal

pub returns-in_default-input_at-clause-made : goal.returns-in_default-input_at-clause-made
returns-in_default-input_at-clause-made g c = (inside_none c.args.terms.now c.args.lines.now c.args.of c.args.at c.args.by c.in-Some.p (sym c.in-Some.ensures) c.in_default-input_at.ensures, refl)

pub returns-clause-made : goal.returns-clause-made
returns-clause-made g c = (
  refl,
  inside_made c.args.terms.now c.with_input.new.terms c.args.lines.now c.args.of c.args.at c.args.by c.in-Some-input_at.u c.in-Some.p c.in-Some-line_at.r
      (record { left = c.in-Some.p.right; right = c.in_ok-v.v; why = Inside c.args.of c.args.at c.args.by; depth = c.deeper.result }) (sym c.in-Some.ensures) (sym c.in-Some-line_at.ensures) c.with_input.ensures.kept c.in-Some-input_at.ensures (search rules) refl c.in_ok-v.ensures.made c.deeper.ensures,
)
