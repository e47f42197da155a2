use Rattle.std.proofs.Common.{◌≡◌, ◌+◌, ◌<◌, arith, sym, subst}
use Rattle.pr_value.specs.Capped.{cap}
use Rattle.loop_plan.specs.Reached.{IsReached, Grows, bound}
use Rattle.loop_plan.specs.declared.reached.Reached.{Reached}
use Rattle.loop_plan.proofs.ReachedLaws.{met_now, met_grows, met_reached}
use Rattle.loop_plan.proofs.reached.meet.Goals as goal

pub returns-in-Ok-clause-reached : goal.returns-in-Ok-clause-reached
returns-in-Ok-clause-reached g c =
    let m = g.C.Choices.graph c.args.choices.now in let m' = g.C.Choices.graph c.open.new.choices in
    let ext = g.met.C.Choices.grows c.args.choices.now c.open.new.choices c.open.ensures.later in
    let there : c.args.goal < m'.goals = omega (arith, c.requires.there, ext.goals) in
    λ n few is. subst (λ (r : Reached). IsReached m' r n) (sym c.in-Ok.ensures)
    (met_reached m m' ext c.args.reached.now c.args.goal there c.in_ok-open.ensures.unfolded c.requires.leads n few is)

pub returns-in-Ok-clause-grows : goal.returns-in-Ok-clause-grows
returns-in-Ok-clause-grows g c =
    let m = g.C.Choices.graph c.args.choices.now in let m' = g.C.Choices.graph c.open.new.choices in
    let ext = g.met.C.Choices.grows c.args.choices.now c.open.new.choices c.open.ensures.later in
    let there : c.args.goal < m'.goals = omega (arith, c.requires.there, ext.goals) in
    subst (λ (r : Reached). Grows c.args.reached.now r) (sym c.in-Ok.ensures) (met_grows m m' ext c.args.reached.now c.args.goal there)

pub returns-in-Ok-clause-met : goal.returns-in-Ok-clause-met
returns-in-Ok-clause-met g c =
    let m = g.C.Choices.graph c.args.choices.now in let m' = g.C.Choices.graph c.open.new.choices in
    let ext = g.met.C.Choices.grows c.args.choices.now c.open.new.choices c.open.ensures.later in
    let there : c.args.goal < m'.goals = omega (arith, c.requires.there, ext.goals) in
    subst (λ (r : Reached). bound r c.args.goal ≡ cap + 1) (sym c.in-Ok.ensures) (met_now m m' ext c.args.reached.now c.args.goal there)
