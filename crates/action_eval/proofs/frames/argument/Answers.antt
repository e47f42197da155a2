use Rattle.std.proofs.Common.{sym, ap, ◌∙◌, add-one}
use Rattle.std.specs.Str.{bytes_eq}
use Rattle.rule_ast.specs.declared.parts.Param.{Param}
use Rattle.action_eval.specs.Builtins.{at}
use Rattle.action_eval.proofs.FunctionLaws.{ok-value}
use Rattle.action_eval.proofs.ReadLaws.{bound-here, bound-next}
use Rattle.action_eval.proofs.frames.argument.Goals as goal

pub returns-then-eq : goal.returns-then-eq
returns-then-eq c =
    ok-value c.copy_at.result (at c.args.args.now c.loop-i.i) _ c.copy_at.ensures
    (sym
    (c.loop-i.invariant
    ∙ bound-here c.args.params.now c.args.args.now c.loop-i.i c.index-params-i.result c.args.name.now c.loop-i-test.true
    (ap (λ (p : Param). bytes_eq p.name c.args.name.now) (sym c.index-params-i.is) ∙ sym c.eq.ensures ∙ c.if-eq.true)))

pub loop-i-preserved : goal.loop-i-preserved
loop-i-preserved c =
    rw add-one
    (c.loop-i.invariant
    ∙ bound-next c.args.params.now c.args.args.now c.loop-i.i c.index-params-i.result c.args.name.now c.loop-i-test.true
    (ap (λ (p : Param). bytes_eq p.name c.args.name.now) (sym c.index-params-i.is) ∙ sym c.eq.ensures ∙ c.if-eq.false))
