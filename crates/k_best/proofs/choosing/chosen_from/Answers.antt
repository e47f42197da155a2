use Rattle.std.proofs.Common.{◌≡◌, ◌<◌, List, length, Some, None, rules, ap, sym, ◌∙◌, subst, arith, inr, length-append}
use Rattle.std.specs.Prelude.{slice_get}
use Rattle.best_plan.specs.declared.solution.Solution.{Solution}
use Rattle.k_best.specs.Picks.{ArePicks, IsCheapestNew}
use Rattle.k_best.proofs.ListLaws.{get_within, item}
use Rattle.k_best.proofs.ChoiceLaws.{choice_next, picks_more}
use Rattle.k_best.proofs.choosing.chosen_from.Goals as goal

pub cheapest_new-requires-clause-chosen : goal.cheapest_new-requires-clause-chosen
cheapest_new-requires-clause-chosen g c =
    subst (ArePicks (g.M.Choices.graph c.args.moves.now) c.args.lists.now c.args.goal) (sym c.as_slice.ensures) c.loop-alloc.invariant.picks

pub bounds-pool-at : goal.bounds-pool-at
bounds-pool-at g c = let best = c.in-Some.ensures in get_within c.args.pool.now c.in-Some.at best.0 best.1

pub offset_bounds-pool-at : goal.offset_bounds-pool-at
offset_bounds-pool-at g c = let best = c.in-Some.ensures in let low : c.in-Some.at < length c.args.pool.now = get_within c.args.pool.now c.in-Some.at best.0 best.1 in search rules

pub loop-alloc-preserved : goal.loop-alloc-preserved
loop-alloc-preserved g c =
    let m = g.M.Choices.graph c.args.moves.now in let face = g.M.Faces.face c.args.moves.now in let l = c.args.lists.now in
    let pool = c.args.pool.now in let ps = c.loop-alloc.chosen in let at = c.in-Some.at in let s = c.in_ok-copied-in-Some.field-0 in
    let best = subst (λ (xs : List Solution). IsCheapestNew face l pool xs (length pool) (Some at)) c.as_slice.ensures c.in-Some.ensures in
    let there : slice_get pool at ≡ Some s = item pool at c.index-pool-at.result (get_within pool at best.0 best.1) c.index-pool-at.is ∙ ap Some (sym c.in_ok-copied-in-Some.ensures) in
    rw c.in_ok-push-in-Some.ensures.ok (record {
      picks = picks_more m l c.args.goal ps s c.loop-alloc.invariant.picks (c.requires.pool at s there);
      few = omega (arith, length-append {A = Solution});
      choice = choice_next face l pool ps c.loop-alloc.invariant.choice at s there best;
    })

pub returns-in-None : goal.returns-in-None
returns-in-None g c =
    let pool = c.args.pool.now in
    record {
      choice = c.loop-alloc.invariant.choice;
      few = c.loop-alloc.invariant.few;
      all = inr (λ i s e. subst (λ (xs : List Solution). IsCheapestNew (g.M.Faces.face c.args.moves.now) c.args.lists.now pool xs (length pool) None) c.as_slice.ensures c.in-None.ensures i s (get_within pool i s e) e);
    }
