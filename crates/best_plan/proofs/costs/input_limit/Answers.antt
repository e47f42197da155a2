use Rattle.std.proofs.Common.{arith, ◌∙◌, ◌≤◌, ◌<◌, refl, subst, take}
use Rattle.std.specs.Prelude.{slice_set}
use Rattle.best_plan.specs.Tables.{known}
use Rattle.best_plan.proofs.BoundLaws.{capped_of, set_rises, cost_with}
use Rattle.best_plan.proofs.costs.input_limit.Goals as goal

pub bisect-requires-clause-callable : goal.bisect-requires-clause-callable
bisect-requires-clause-callable g c = λ x lo hi. (
  hi,
  omega (arith, c.requires.place, c.input_count-n.ensures),
  omega (arith, (g.met.M.Choices.lawful c.args.moves.now).few_inputs c.args.goal c.args.k c.requires.alternative, c.input_count-n.ensures),
  c.bounds_of-bounds.ensures.long,
  c.requires.alternative,
  c.input_count-n.ensures,
  capped_of (known c.args.table.now) ((g.M.Choices.graph c.args.moves.now).alternative c.args.goal c.args.k).inputs c.bounds_of-bounds.result c.input_count-n.result c.requires.within c.input_count-n.ensures c.bounds_of-bounds.ensures.bounds,
)

pub bisect-requires-clause-never_falls : goal.bisect-requires-clause-never_falls
bisect-requires-clause-never_falls g c = λ x y a b lo le hi e f.
    omega (arith, e, f, set_rises (g.M.Choices.graph c.args.moves.now) (g.met.M.Choices.lawful c.args.moves.now) c.args.goal c.args.k c.requires.alternative c.bounds_of-bounds.result c.input_count-n.result c.args.i x y le)

pub returns-clause-below : goal.returns-clause-below
returns-clause-below g c = λ x h.
    let a = (g.M.Choices.graph c.args.moves.now).alternative c.args.goal c.args.k in
    let same = cost_with a.cost (known c.args.table.now) a.inputs c.bounds_of-bounds.result c.input_count-n.result c.args.i x c.input_count-n.ensures c.bounds_of-bounds.ensures.bounds in
    subst (λ v. v < c.args.limit) same (c.bisect.ensures.below x (a.cost (take c.input_count-n.result (slice_set c.bounds_of-bounds.result c.args.i x))) (omega arith) h refl)

pub returns-clause-at : goal.returns-clause-at
returns-clause-at g c = λ h.
    let a = (g.M.Choices.graph c.args.moves.now).alternative c.args.goal c.args.k in
    let same = cost_with a.cost (known c.args.table.now) a.inputs c.bounds_of-bounds.result c.input_count-n.result c.args.i c.bisect.result c.input_count-n.ensures c.bounds_of-bounds.ensures.bounds in
    let at = c.bisect.ensures.reached h in
    subst (λ v. c.args.limit ≤ v) (at.1 ∙ same) at.2
