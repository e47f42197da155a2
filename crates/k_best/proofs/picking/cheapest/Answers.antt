use Rattle.std.proofs.Common.{List, length, Some, subst, arith, inl, inr, length-append}
use Rattle.best_plan.specs.declared.solution.Solution.{Solution}
use Rattle.k_best.specs.Picks.{IsNext, AtMostAll}
use Rattle.k_best.proofs.PickLaws.{taken_more, first_more, first_dear, dear_more, all_shown}
use Rattle.k_best.proofs.picking.cheapest.Goals as goal

pub loop-alloc-init : goal.loop-alloc-init
loop-alloc-init g c =
    let m = c.args.moves.now in let G = g.M.Choices.graph m in let l = c.args.lists.now in
    record {
      taken = c.in_ok-taken.ensures.taken;
      first = c.in_ok-taken.ensures.first;
      few = omega (arith, c.in_ok-taken.ensures.one);
      dear = λ vs is. inr (first_dear G (g.met.M.Choices.lawful m) (g.M.Faces.face m) c.args.most l c.requires.right c.args.goal c.args.k c.requires.alternative c.requires.done c.requires.most
          c.in_ok-taken.taken c.in_ok-taken.ensures.taken c.in_ok-taken.ensures.only vs is);
    }

pub loop-alloc-preserved : goal.loop-alloc-preserved
loop-alloc-preserved g c =
    let m = c.args.moves.now in let G = g.M.Choices.graph m in let l = c.args.lists.now in let inv = c.loop-alloc.invariant in
    let ps = c.loop-alloc.taken in let s = c.in-Some.solution in
    let is_next : IsNext G l c.args.goal c.args.k ps (Some s) =
    subst (IsNext G l c.args.goal c.args.k ps) c.in-Some.is (subst (λ (xs : List Solution). IsNext G l c.args.goal c.args.k xs c.in_ok-found.found) c.as_slice.ensures c.in_ok-found.ensures.next) in
    let least : AtMostAll G l c.args.goal c.args.k ps (Some s) (length ps) =
    subst (λ o. AtMostAll G l c.args.goal c.args.k ps o (length ps)) c.in-Some.is (subst (λ (xs : List Solution). AtMostAll G l c.args.goal c.args.k xs c.in_ok-found.found (length xs)) c.as_slice.ensures c.in_ok-found.ensures.least) in
    rw c.in_ok-push-in-Some.ensures.ok (record {
      taken = taken_more G l c.args.goal c.args.k ps inv.taken s is_next;
      first = first_more G l c.args.goal c.args.k ps inv.taken s is_next inv.first;
      few = omega (arith, length-append {A = Solution});
      dear = λ vs is. dear_more G (g.met.M.Choices.lawful m) (g.M.Faces.face m) c.args.most l c.requires.right c.args.goal c.args.k c.requires.alternative c.requires.done c.requires.most
          ps inv.taken inv.first (omega arith) s least vs is (inv.dear vs is);
    })

pub returns-in-None-clause-cheapest : goal.returns-in-None-clause-cheapest
returns-in-None-clause-cheapest g c =
    let m = c.args.moves.now in let G = g.M.Choices.graph m in let l = c.args.lists.now in let inv = c.loop-alloc.invariant in
    let ps = c.loop-alloc.taken in
    all_shown G (g.met.M.Choices.lawful m) (g.M.Faces.face m) c.args.most l c.requires.right c.args.goal c.args.k c.requires.alternative c.requires.done c.requires.most
    ps inv.taken inv.first (omega arith)
    (subst (λ o. AtMostAll G l c.args.goal c.args.k ps o (length ps)) c.in-None.is (subst (λ (xs : List Solution). AtMostAll G l c.args.goal c.args.k xs c.in_ok-found.found (length xs)) c.as_slice.ensures c.in_ok-found.ensures.least))

pub returns-clause-cheapest : goal.returns-clause-cheapest
returns-clause-cheapest g c = λ vs is. elim (c.loop-alloc.invariant.dear vs is) [ inl from ↦ inl from | inr dear ↦ inr (omega arith, dear) ]
