use Rattle.std.proofs.Common.{sym, ◌∙◌, ap, arith, inl, inr}
use Rattle.std.proofs.lemmas.Bool.Decides.{Decides-eqb, not_from_Decides}
use Rattle.std.proofs.lemmas.Slice.Eq.{slice_eq-Decides}
use Rattle.best_plan.specs.declared.solution.Solution.{Solution}
use Rattle.k_best.proofs.ListLaws.{get_within, item, at_or_before}
use Rattle.k_best.proofs.picking.is_taken.Goals as goal

pub returns-then-eq-clause-yes : goal.returns-then-eq-clause-yes
returns-then-eq-clause-yes c = λ e. (
  c.loop-solution.solution-index,
  c.solution-item.result,
  item c.args.taken.now c.loop-solution.solution-index c.solution-item.result (omega arith) c.solution-item.is,
  sym c.as_slice.ensures ∙ (slice_eq-Decides Decides-eqb c.as_slice.result.now c.args.inputs.now c.eq.result c.eq.ensures).0 c.if-eq.true,
)

pub loop-solution-preserved : goal.loop-solution-preserved
loop-solution-preserved c = λ j s jl e same.
    let n = c.loop-solution.solution-index in let x = c.solution-item.result in
    elim (at_or_before c.args.taken.now n j x s jl (item c.args.taken.now n x (omega arith) c.solution-item.is) e) [
      | inl l ↦ c.loop-solution.invariant j s l e same
      | inr is ↦ not_from_Decides c.eq.result (slice_eq-Decides Decides-eqb c.as_slice.result.now c.args.inputs.now c.eq.result c.eq.ensures) c.if-eq.false
          (c.as_slice.ensures ∙ ap (λ (t : Solution). t.inputs) is ∙ same)
    ]

pub returns-clause-no : goal.returns-clause-no
returns-clause-no c = λ e taken. c.loop-solution.invariant taken.0 taken.1 (omega (arith, get_within c.args.taken.now taken.0 taken.1 taken.2)) taken.2 taken.3
