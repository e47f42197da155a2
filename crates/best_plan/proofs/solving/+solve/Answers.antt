use Rattle.std.proofs.Common.{◌≡◌, ℕ, ◌+◌, ◌≤◌, ◌<◌, take, Some, sym, ◌∙◌, subst, arith, add-one}
use Rattle.std.specs.Prelude.{⊤}
use Rattle.pr_value.specs.Capped.{cap}
use Rattle.best_plan.specs.Tables.{known, HoldsSolution, AllHold}
use Rattle.best_plan.proofs.BoundLaws.{past_at, at_past}
use Rattle.best_plan.proofs.RightLaws.{input_ranked, leaves_below, held_more, all_rise}
use Rattle.best_plan.proofs.SearchLaws.{stands_next, no_more, end_leaves}
use Rattle.best_plan.proofs.SolveLaws.{ext_refl, same_refl, leaves_two, held_of, least_or_past, decided_of, past_more}
use Rattle.best_plan.proofs.solving.+solve.Goals as goal

pub inputs_solved-returns-then-cost-gt-CAP-clause-leaves : goal.inputs_solved-returns-then-cost-gt-CAP-clause-leaves
inputs_solved-returns-then-cost-gt-CAP-clause-leaves g t c =
    let m = c.args.moves.now in let G = g.M.Choices.graph m in let rank = g.M.Moves.rank m in let a = G.alternative c.args.goal c.args.k in
    let falls = input_ranked G rank (g.M.Moves.reaches m) (g.met.M.Moves.ruled m) c.args.goal c.args.k c.loop-i.i c.input-input.result c.requires.alternative c.input-input.ensures in
    leaves_two G rank (g.M.Moves.reaches m) c.args.table.now c.loop-i.table c.solve-cost.new.table c.args.goal c.requires.alternative.0 c.loop-i.invariant.leaves
    (leaves_below ⊤ G G rank (g.M.Moves.reaches m) c.loop-i.table c.solve-cost.new.table c.input-input.result c.args.goal falls tt c.solve-cost.ensures.right c.solve-cost.ensures.rises c.solve-cost.ensures.longer c.solve-cost.ensures.others)

pub inputs_solved-returns-then-cost-gt-CAP-clause-found : goal.inputs_solved-returns-then-cost-gt-CAP-clause-found
inputs_solved-returns-then-cost-gt-CAP-clause-found g t c =
    let a = (g.M.Choices.graph c.args.moves.now).alternative c.args.goal c.args.k in
    omega (
      arith,
      at_past (known c.solve-cost.new.table) a (past_at (known c.solve-cost.new.table) a.inputs c.loop-i.i c.input-input.result c.input-input.ensures
          (subst (λ v. cap < v) (sym c.solve-cost.ensures.bound) c.if-cost-gt-CAP.true)),
    )

pub inputs_solved-loop-i-preserved : goal.inputs_solved-loop-i-preserved
inputs_solved-loop-i-preserved g t c =
    let m = c.args.moves.now in let G = g.M.Choices.graph m in let rank = g.M.Moves.rank m in let a = G.alternative c.args.goal c.args.k in
    let falls = input_ranked G rank (g.M.Moves.reaches m) (g.met.M.Moves.ruled m) c.args.goal c.args.k c.loop-i.i c.input-input.result c.requires.alternative c.input-input.ensures in
    record {
      leaves = leaves_two G rank (g.M.Moves.reaches m) c.args.table.now c.loop-i.table c.solve-cost.new.table c.args.goal c.requires.alternative.0 c.loop-i.invariant.leaves
          (leaves_below ⊤ G G rank (g.M.Moves.reaches m) c.loop-i.table c.solve-cost.new.table c.input-input.result c.args.goal falls tt c.solve-cost.ensures.right c.solve-cost.ensures.rises c.solve-cost.ensures.longer c.solve-cost.ensures.others);
      held = subst (λ (e : ℕ). AllHold (known c.solve-cost.new.table) (take e a.inputs)) (sym (add-one c.loop-i.i)) (held_more (HoldsSolution (known c.solve-cost.new.table)) a.inputs c.loop-i.i
          (all_rise (known c.loop-i.table) (known c.solve-cost.new.table) c.solve-cost.ensures.rises (take c.loop-i.i a.inputs) c.loop-i.invariant.held)
          (λ x e. (let same : c.input-input.result ≡ x = some_is c.input-input.result x (sym c.input-input.ensures ∙ e) in subst (HoldsSolution (known c.solve-cost.new.table)) same
          (held_of (known c.solve-cost.new.table) c.input-input.result c.solve-cost.result c.solve-cost.ensures.decided c.solve-cost.ensures.bound c.if-cost-gt-CAP.false))));
    }
  where
    some_is : (a b : ℕ) → Some a ≡ Some b → a ≡ b
    some_is a b e = cc

pub solve_undecided-loop-k-preserved : goal.solve_undecided-loop-k-preserved
solve_undecided-loop-k-preserved g t c =
    let m = c.args.moves.now in let G = g.M.Choices.graph m in let laws = g.met.M.Choices.lawful m in
    let here = c.requires.unfolded c.args.goal c.requires.there in
    let k : c.loop-k.k < G.count c.args.goal = omega (arith, c.count-k-end.ensures, c.loop-k-test.true) in
    let less : c.tried-best.result.cost ≤ c.loop-k.best.cost = no_more G (known c.tried-best.new.table) c.args.goal c.loop-k.k c.loop-k.best c.tried-best.result c.tried-best.ensures.next in
    record {
      leaves = leaves_two G (g.M.Moves.rank m) (g.M.Moves.reaches m) c.args.table.now c.loop-k.table c.tried-best.new.table c.args.goal c.requires.there c.loop-k.invariant.leaves c.tried-best.ensures.leaves;
      stands = stands_next G G (ext_refl G) c.args.goal (c.requires.there, here) (known c.loop-k.table) (known c.tried-best.new.table) (cap + 1) c.loop-k.k c.loop-k.best c.tried-best.result
          c.tried-best.ensures.leaves.rises c.loop-k.invariant.stands c.loop-k.invariant.low c.tried-best.ensures.next;
      low = omega (arith, less, c.loop-k.invariant.low);
      past = past_more G laws c.args.goal c.loop-k.k (c.requires.there, here) (known c.loop-k.table) (known c.tried-best.new.table) c.loop-k.best.cost c.tried-best.result.cost k
          c.tried-best.ensures.leaves.rises.bound less c.loop-k.invariant.past c.tried-best.ensures.past;
    }

pub solve_undecided-returns-clause-leaves : goal.solve_undecided-returns-clause-leaves
solve_undecided-returns-clause-leaves g t c =
    let m = c.args.moves.now in let G = g.M.Choices.graph m in let inv = c.loop-k.invariant in
    end_leaves G G (g.met.M.Choices.lawful m) (g.M.Moves.rank m) (g.M.Moves.rank m) (g.M.Moves.reaches m) (g.M.Moves.reaches m) (g.met.M.Moves.ruled m) (ext_refl G) (same_refl G (g.M.Moves.rank m) (g.M.Moves.reaches m))
    ⊤ c.args.table.now c.loop-k.table c.put.new.self c.args.goal (cap + 1) c.loop-k.best.cost c.loop-k.best.choice inv.leaves
    (omega (arith, c.requires.room, c.requires.there, inv.leaves.longer)) c.put.ensures (c.requires.there, c.requires.unfolded c.args.goal c.requires.there) c.requires.none (let low = c.requires.low in omega (arith, low))
    (λ j l. inv.past j (omega (arith, l, c.count-k-end.ensures, c.loop-k-test.false))) inv.stands

pub solve_undecided-returns-clause-decided : goal.solve_undecided-returns-clause-decided
solve_undecided-returns-clause-decided g t c =
    let inv = c.loop-k.invariant in
    decided_of (g.M.Choices.graph c.args.moves.now) c.loop-k.table c.put.new.self c.args.goal c.loop-k.best.cost c.loop-k.best.choice inv.low
    (omega (arith, c.requires.room, c.requires.there, inv.leaves.longer)) c.put.ensures inv.stands

pub solve-returns-then-is_decided-clause-least : goal.solve-returns-then-is_decided-clause-least
solve-returns-then-is_decided-clause-least g t c =
    let m = c.args.moves.now in
    least_or_past (g.M.Choices.graph m) (g.M.Moves.reaches m) (known c.args.table.now) c.requires.right (g.M.Moves.rank m) (g.met.M.Moves.ruled m) c.args.goal c.bound.result
    (c.is_decided.ensures.yes c.if-is_decided.true) (sym c.bound.ensures.is)

pub solve-returns-clause-least : goal.solve-returns-clause-least
solve-returns-clause-least g t c =
    let m = c.args.moves.now in
    least_or_past (g.M.Choices.graph m) (g.M.Moves.reaches m) (known c.solve_undecided.new.table) c.solve_undecided.ensures.leaves.right (g.M.Moves.rank m) (g.met.M.Moves.ruled m) c.args.goal c.bound-2.result
    c.solve_undecided.ensures.decided (sym c.bound-2.ensures.is)
