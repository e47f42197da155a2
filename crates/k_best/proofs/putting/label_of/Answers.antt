use Rattle.std.proofs.Common.{List, length, ap, sym, ◌∙◌, subst, arith, inl}
use Rattle.best_plan.specs.declared.solution.Solution.{Solution}
use Rattle.k_best.specs.Showings.{shown}
use Rattle.k_best.specs.Indexes.{IsLast, chain_at}
use Rattle.k_best.proofs.ListLaws.{item_in}
use Rattle.k_best.proofs.SolutionLaws.{sound_inputs, sound_shown}
use Rattle.k_best.proofs.IndexLaws.{rest_of, rest_next, rest_start}
use Rattle.k_best.proofs.putting.label_of.Goals as goal

pub loop-next-init : goal.loop-next-init
loop-next-init g c =
    let l = c.args.lists.now in let seen = shown (g.M.Faces.face c.args.moves.now) l.solutions in
    rest_start seen l.index c.requires.indexed c.args.at c.args.mark c.last-next.result (omega (arith, c.requires.first, c.requires.marked)) c.requires.mark c.last-next.ensures

pub bounds-solutions-earlier : goal.bounds-solutions-earlier
bounds-solutions-earlier g c =
    let l = c.args.lists.now in let seen = shown (g.M.Faces.face c.args.moves.now) l.solutions in
    let rest = rest_of (length l.index.heads) seen c.args.at c.loop-next.next c.in-Some.earlier c.in-Some.is c.loop-next.invariant in
    omega (arith, rest.0, c.requires.place, ap (λ (ss : List Solution). length ss) c.as_slice-solutions.ensures)

pub same-requires-clause-left : goal.same-requires-clause-left
same-requires-clause-left g c =
    let l = c.args.lists.now in let seen = shown (g.M.Faces.face c.args.moves.now) l.solutions in
    let ss = l.solutions in let n = c.in-Some.earlier in let s = c.index-solutions-earlier.result in
    let rest = rest_of (length l.index.heads) seen c.args.at c.loop-next.next n c.in-Some.is c.loop-next.invariant in
    (c.requires.sound n s (item_in c.as_slice-solutions.result.now ss n s c.as_slice-solutions.ensures (omega (arith, rest.0, c.requires.place)) c.index-solutions-earlier.is)).alternative

pub same-requires-clause-right : goal.same-requires-clause-right
same-requires-clause-right g c =
    let ss = c.args.lists.now.solutions in let s = c.index-solutions-at.result in
    (c.requires.sound c.args.at s (item_in c.as_slice-solutions.result.now ss c.args.at s c.as_slice-solutions.ensures c.requires.place c.index-solutions-at.is)).alternative

pub same-requires-clause-left_inputs : goal.same-requires-clause-left_inputs
same-requires-clause-left_inputs g c =
    let l = c.args.lists.now in let seen = shown (g.M.Faces.face c.args.moves.now) l.solutions in let n = c.in-Some.earlier in let s = c.index-solutions-earlier.result in
    let rest = rest_of (length l.index.heads) seen c.args.at c.loop-next.next n c.in-Some.is c.loop-next.invariant in
    sound_inputs (g.M.Choices.graph c.args.moves.now) (g.M.Faces.face c.args.moves.now) l.solutions c.requires.sound n s
    (item_in c.as_slice-solutions.result.now l.solutions n s c.as_slice-solutions.ensures (omega (arith, rest.0, c.requires.place)) c.index-solutions-earlier.is) (length l.labels) (omega (arith, rest.0, c.requires.first))

pub same-requires-clause-right_inputs : goal.same-requires-clause-right_inputs
same-requires-clause-right_inputs g c =
    let l = c.args.lists.now in let s = c.index-solutions-at.result in
    sound_inputs (g.M.Choices.graph c.args.moves.now) (g.M.Faces.face c.args.moves.now) l.solutions c.requires.sound c.args.at s
    (item_in c.as_slice-solutions.result.now l.solutions c.args.at s c.as_slice-solutions.ensures c.requires.place c.index-solutions-at.is) (length l.labels) (omega (arith, c.requires.first))

pub returns-then-same : goal.returns-then-same
returns-then-same g c =
    let m = g.M.Choices.graph c.args.moves.now in let face = g.M.Faces.face c.args.moves.now in let l = c.args.lists.now in let ss = l.solutions in
    let n = c.in-Some.earlier in let s = c.index-solutions-earlier.result in let t = c.index-solutions-at.result in
    let rest = rest_of (length l.index.heads) (shown face ss) c.args.at c.loop-next.next n c.in-Some.is c.loop-next.invariant in
    inl (
      n,
      rest.0,
      c.label.ensures,
      sound_shown m face ss c.requires.sound n s (item_in c.as_slice-solutions.result.now ss n s c.as_slice-solutions.ensures (omega (arith, rest.0, c.requires.place)) c.index-solutions-earlier.is)
          ∙ c.same.ensures.yes c.if-same.true
          ∙ sym (sound_shown m face ss c.requires.sound c.args.at t (item_in c.as_slice-solutions.result.now ss c.args.at t c.as_slice-solutions.ensures c.requires.place c.index-solutions-at.is)),
    )

pub loop-next-preserved : goal.loop-next-preserved
loop-next-preserved g c =
    let m = g.M.Choices.graph c.args.moves.now in let face = g.M.Faces.face c.args.moves.now in let l = c.args.lists.now in let ss = l.solutions in
    let n = c.in-Some.earlier in let s = c.index-solutions-earlier.result in let t = c.index-solutions-at.result in
    let rest = rest_of (length l.index.heads) (shown face ss) c.args.at c.loop-next.next n c.in-Some.is c.loop-next.invariant in
    rest_next (length l.index.heads) (shown face ss) c.args.at n c.behind-next.result rest
    (λ is. c.same.ensures.no c.if-same.false (
    sym (sound_shown m face ss c.requires.sound n s (item_in c.as_slice-solutions.result.now ss n s c.as_slice-solutions.ensures (omega (arith, rest.0, c.requires.place)) c.index-solutions-earlier.is))
    ∙ is
    ∙ sound_shown m face ss c.requires.sound c.args.at t (item_in c.as_slice-solutions.result.now ss c.args.at t c.as_slice-solutions.ensures c.requires.place c.index-solutions-at.is)))
    (subst (IsLast (chain_at (length l.index.heads) (shown face ss)) n (chain_at (length l.index.heads) (shown face ss) n)) (sym c.behind-next.ensures)
    (c.requires.indexed.behind n (omega (arith, rest.0, c.requires.first, c.requires.marked))))
