use Rattle.std.proofs.Common.{length, ap, ◌∙◌, arith, inl, inr}
use Rattle.k_best.specs.Showings.{shown, shown_by}
use Rattle.k_best.proofs.ListLaws.{get_within, item, at_or_before}
use Rattle.k_best.proofs.SameLaws.{pick_alternative, pick_inputs}
use Rattle.k_best.proofs.choosing.is_shown.Goals as goal

pub same-requires-clause-left : goal.same-requires-clause-left
same-requires-clause-left g c =
    let n = c.loop-solution.solution-index in let s = c.solution-item.result in
    pick_alternative (g.M.Choices.graph c.args.moves.now) c.args.lists.now c.args.goal s (c.requires.chosen n s (item c.args.chosen.now n s (omega arith) c.solution-item.is))

pub same-requires-clause-left_inputs : goal.same-requires-clause-left_inputs
same-requires-clause-left_inputs g c =
    let n = c.loop-solution.solution-index in let s = c.solution-item.result in let l = c.args.lists.now in
    pick_inputs (g.M.Choices.graph c.args.moves.now) l c.args.goal (length l.labels) s c.requires.ends (c.requires.chosen n s (item c.args.chosen.now n s (omega arith) c.solution-item.is))

pub same-requires-clause-right_inputs : goal.same-requires-clause-right_inputs
same-requires-clause-right_inputs g c =
    let l = c.args.lists.now in pick_inputs (g.M.Choices.graph c.args.moves.now) l c.args.goal (length l.labels) c.args.other.now c.requires.ends c.requires.other

pub returns-then-same-clause-yes : goal.returns-then-same-clause-yes
returns-then-same-clause-yes g c = λ e.
    let n = c.loop-solution.solution-index in let s = c.solution-item.result in
    (n, s, item c.args.chosen.now n s (omega arith) c.solution-item.is, c.same.ensures.yes c.if-same.true)

pub loop-solution-preserved : goal.loop-solution-preserved
loop-solution-preserved g c = λ j s jl e same.
    let n = c.loop-solution.solution-index in let x = c.solution-item.result in let face = g.M.Faces.face c.args.moves.now in
    elim (at_or_before c.args.chosen.now n j x s jl (item c.args.chosen.now n x (omega arith) c.solution-item.is) e) [
      | inl l ↦ c.loop-solution.invariant j s l e same
      | inr is ↦ c.same.ensures.no c.if-same.false (ap (shown_by face (shown face c.args.lists.now.solutions)) is ∙ same)
    ]

pub returns-clause-no : goal.returns-clause-no
returns-clause-no g c = λ e is. c.loop-solution.invariant is.0 is.1 (omega (arith, get_within c.args.chosen.now is.0 is.1 is.2)) is.2 is.3
