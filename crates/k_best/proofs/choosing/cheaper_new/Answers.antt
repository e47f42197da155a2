use Rattle.std.proofs.Common.{◌<◌, length, rules, ap, subst, arith}
use Rattle.best_plan.specs.declared.solution.Solution.{Solution}
use Rattle.k_best.specs.Picks.{IsCheapestNew}
use Rattle.k_best.proofs.ListLaws.{get_within, item}
use Rattle.k_best.proofs.ChoiceLaws.{new_kept, new_first, new_stays, new_better}
use Rattle.k_best.proofs.choosing.cheaper_new.Goals as goal

pub is_shown-requires-clause-other : goal.is_shown-requires-clause-other
is_shown-requires-clause-other g c = let s = c.index-pool-i.result in c.requires.pool c.args.i s (item c.args.pool.now c.args.i s c.requires.place c.index-pool-i.is)

pub returns-then-is_shown : goal.returns-then-is_shown
returns-then-is_shown g c =
    let s = c.index-pool-i.result in
    new_kept (g.M.Faces.face c.args.moves.now) c.args.lists.now c.args.pool.now c.args.chosen.now c.args.i s c.args.best
    (item c.args.pool.now c.args.i s c.requires.place c.index-pool-i.is) (c.is_shown.ensures.yes c.if-is_shown.true) c.requires.best

pub offset_bounds-pool-at : goal.offset_bounds-pool-at
offset_bounds-pool-at g c =
    let at = c.in-Some.at in let pool = c.args.pool.now in
    let old = subst (IsCheapestNew (g.M.Faces.face c.args.moves.now) c.args.lists.now pool c.args.chosen.now c.args.i) c.in-Some.is c.requires.best in
    let low : at < length pool = get_within pool at old.0 old.1 in search rules

pub bounds-pool-at : goal.bounds-pool-at
bounds-pool-at g c =
    let at = c.in-Some.at in let pool = c.args.pool.now in
    let old = subst (IsCheapestNew (g.M.Faces.face c.args.moves.now) c.args.lists.now pool c.args.chosen.now c.args.i) c.in-Some.is c.requires.best in
    get_within pool at old.0 old.1

pub bounds-pool-at-in-Some : goal.bounds-pool-at-in-Some
bounds-pool-at-in-Some g c =
    let at = c.in-Some.at in let pool = c.args.pool.now in
    let old = subst (IsCheapestNew (g.M.Faces.face c.args.moves.now) c.args.lists.now pool c.args.chosen.now c.args.i) c.in-Some.is c.requires.best in
    get_within pool at old.0 old.1

pub returns-then-pool-at : goal.returns-then-pool-at
returns-then-pool-at g c =
    let at = c.in-Some.at in let pool = c.args.pool.now in let s = c.index-pool-i.result in let b = c.index-pool-at.result in
    let old = subst (IsCheapestNew (g.M.Faces.face c.args.moves.now) c.args.lists.now pool c.args.chosen.now c.args.i) c.in-Some.is c.requires.best in
    new_stays (g.M.Faces.face c.args.moves.now) c.args.lists.now pool c.args.chosen.now c.args.i at s b (item pool c.args.i s c.requires.place c.index-pool-i.is)
    (item pool at b (get_within pool at old.0 old.1) c.index-pool-at.is) (omega (arith, ap (λ (x : Solution). x.cost) c.index-pool-at.is)) old

pub returns-else-pool-at : goal.returns-else-pool-at
returns-else-pool-at g c =
    let at = c.in-Some.at in let pool = c.args.pool.now in let s = c.index-pool-i.result in let b = c.index-pool-at.result in
    let old = subst (IsCheapestNew (g.M.Faces.face c.args.moves.now) c.args.lists.now pool c.args.chosen.now c.args.i) c.in-Some.is c.requires.best in
    new_better (g.M.Faces.face c.args.moves.now) c.args.lists.now pool c.args.chosen.now c.args.i at s b (item pool c.args.i s c.requires.place c.index-pool-i.is)
    (λ is. c.is_shown.ensures.no c.if-is_shown.false is) (item pool at b (get_within pool at old.0 old.1) c.index-pool-at.is) (omega (arith, ap (λ (x : Solution). x.cost) c.index-pool-at.is)) old

pub returns-in-None : goal.returns-in-None
returns-in-None g c =
    let pool = c.args.pool.now in let s = c.index-pool-i.result in
    new_first (g.M.Faces.face c.args.moves.now) c.args.lists.now pool c.args.chosen.now c.args.i s (item pool c.args.i s c.requires.place c.index-pool-i.is)
    (λ is. c.is_shown.ensures.no c.if-is_shown.false is)
    (subst (IsCheapestNew (g.M.Faces.face c.args.moves.now) c.args.lists.now pool c.args.chosen.now c.args.i) c.in-None.is c.requires.best)
