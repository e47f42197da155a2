use Rattle.std.proofs.Common.{refl, inl, inr}
use Rattle.memo.specs.declared.expr.Join.{Join}
use Rattle.memo.proofs.RebuildLaws.{twins_alike}
use Rattle.memo.proofs.rebuild.note.Goals as goal

pub returns-then-one-other-clause-noted : goal.returns-then-one-other-clause-noted
returns-then-one-other-clause-noted g c = inl (refl, (c.expr_get-one.result.now, c.expr_get-other.result.now, c.expr_get-one.ensures, c.expr_get-other.ensures, c.if-one-other.true))

pub reach-requires-clause-alike : goal.reach-requires-clause-alike
reach-requires-clause-alike g c = twins_alike c.args.log.now.terms c.args.log.now.lines c.args.exprs.now c.args.known.now c.requires.forest c.args.f c.args.i c.expr_get-one.result.now c.expr_get-other.result.now c.expr_get-one.ensures c.expr_get-other.ensures c.requires.twins

pub returns-clause-noted : goal.returns-clause-noted
returns-clause-noted g c =
    let j : Join = record { left = c.args.f; right = c.args.i; line = c.in_ok-line.line } in
    inr (j, c.in_ok-push.ensures.items, refl, refl, (c.expr_get-one.result.now, c.expr_get-other.result.now, c.expr_get-one.ensures, c.expr_get-other.ensures, c.in_ok-line.ensures.line))
