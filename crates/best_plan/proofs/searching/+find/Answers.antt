use Rattle.std.proofs.Common.{◌≡◌, ℕ, ◌+◌, ◌≤◌, ◌<◌, List, length, take, Some, ap, sym, ◌∙◌, subst, arith, add-one}
use Rattle.std.specs.Prelude.{is_some, slice_get}
use Rattle.pr_value.specs.Capped.{cap}
use Rattle.best_plan.specs.Moves.{Alternative}
use Rattle.best_plan.specs.Tables.{known, at_bounds, with_room, AllHold, HoldsSolution, IsRight, IsKept, Rises}
use Rattle.best_plan.specs.declared.table.Entry.{Entry}
use Rattle.best_plan.specs.declared.searching.Found.TheVariants as found
use Rattle.best_plan.specs.Answers.{Answers, AllCost}
use Rattle.best_plan.proofs.BoundLaws.{at_cut}
use Rattle.best_plan.proofs.LeastLaws.{least_at}
use Rattle.best_plan.proofs.RightLaws.{answers_held, right_later, answers_same, leaves_on, leaves_below, input_ranked, held_more, all_rise, rises_on}
use Rattle.best_plan.proofs.SearchLaws.{none_of, if_ok, if_some, tells_true, low_of, all_cost, not_lazy, stands_next, no_more, fewer, end_leaves, end_answers, lazy_answer, stands_bound}
use Rattle.best_plan.proofs.TableLaws.{room_kept, room_right, kept_rises, length_room}
use Rattle.best_plan.proofs.searching.+find.Goals as goal

pub find-returns-then-is_some-clause-found : goal.find-returns-then-is_some-clause-found
find-returns-then-is_some-clause-found g t c =
    let m = c.args.moves.now in
    answers_held (g.M.Choices.graph m) (g.M.Moves.reaches m) (known c.args.table.now) c.requires.right (g.M.Moves.rank m) (g.met.M.Moves.ruled m) c.args.goal c.args.limit c.found_at.result
    (sym (ap is_some c.choice.ensures) ∙ (sym c.is_some.ensures ∙ c.if-is_some.true))
    (λ l. c.found_at.ensures.below (omega (arith, c.bound.ensures.is, l)) ∙ ap found.Below c.bound.ensures.is)
    (λ l. c.found_at.ensures.not_below (omega (arith, c.bound.ensures.is, l)))

pub find-returns-in_err-open-clause-right : goal.find-returns-in_err-open-clause-right
find-returns-in_err-open-clause-right g t c =
    let m = c.args.moves.now in let n = c.open.new.moves in
    right_later (g.M.Choices.graph m) (g.M.Choices.graph n) (g.M.Moves.rank m) (g.M.Moves.rank n) (g.M.Moves.reaches m) (g.M.Moves.reaches n) (known c.args.table.now)
    (g.met.M.Choices.grows m n c.open.ensures.later) (g.met.M.Moves.settled m n c.open.ensures.later) c.requires.right

pub find-returns-in_err-room-clause-right : goal.find-returns-in_err-room-clause-right
find-returns-in_err-room-clause-right g t c =
    let m = c.args.moves.now in let n = c.open.new.moves in
    subst (λ (es : List Entry). IsRight (g.M.Choices.graph n) (g.M.Moves.reaches n) (known es)) (sym c.in_err-room.ensures.err)
    (right_later (g.M.Choices.graph m) (g.M.Choices.graph n) (g.M.Moves.rank m) (g.M.Moves.rank n) (g.M.Moves.reaches m) (g.M.Moves.reaches n) (known c.args.table.now)
    (g.met.M.Choices.grows m n c.open.ensures.later) (g.met.M.Moves.settled m n c.open.ensures.later) c.requires.right)

pub find-search-requires : goal.find-search-requires
find-search-requires g t c κs within =
    let m = c.args.moves.now in let n = c.open.new.moves in let is = c.in_ok-room.ensures.ok in
    let ext = g.met.M.Choices.grows m n c.open.ensures.later in
    let same = g.met.M.Moves.settled m n c.open.ensures.later in
    let right = right_later (g.M.Choices.graph m) (g.M.Choices.graph n) (g.M.Moves.rank m) (g.M.Moves.rank n) (g.M.Moves.reaches m) (g.M.Moves.reaches n) (known c.args.table.now) ext same c.requires.right in
    let roomy = room_right (g.M.Choices.graph n) (g.met.M.Choices.lawful n) (g.M.Moves.reaches n) c.args.table.now c.goals.result right in
    let kept = room_kept c.args.table.now c.goals.result c.args.goal in
    let none = none_of ((known c.args.table.now).choice c.args.goal) (sym (ap is_some c.choice.ensures) ∙ (sym c.is_some.ensures ∙ c.if-is_some.false)) in
    let there : c.args.goal < (g.M.Choices.graph n).goals = omega (arith, ext.goals, c.requires.there) in
    let here = subst (λ (es : List Entry). IsRight (g.M.Choices.graph n) (g.M.Moves.reaches n) (known es)) (sym is) roomy in
    let roomed : c.args.goal < length c.room.new.table = omega (arith, ext.goals, c.requires.there, c.goals.ensures, length_room c.args.table.now c.goals.result, ap (λ (es : List Entry). length es) is) in
    let empty = ap (λ (es : List Entry). (known es).choice c.args.goal) is ∙ (kept.1 ∙ none) in
    let low : (known c.room.new.table).bound c.args.goal ≤ c.args.limit = omega (arith, ap (λ (es : List Entry). (known es).bound c.args.goal) is, kept.0, c.bound-2.ensures.is, c.if-bound-limit.false) in
    (omega (arith, same.ranks c.args.goal c.requires.there), (within, (here, ((there, c.in_ok-open.ensures.unfolded), (roomed, (empty, (low, c.requires.limit)))))))

pub find-returns-clause-found : goal.find-returns-clause-found
find-returns-clause-found g t c =
    let m = c.args.moves.now in let n = c.open.new.moves in
    let same = g.met.M.Moves.settled m n c.open.ensures.later in
    if_ok c.search.result (Answers (g.M.Moves.reaches n) (known c.search.new.table) c.args.goal c.args.limit) (Answers (g.M.Moves.reaches m) (known c.search.new.table) c.args.goal c.args.limit)
    (λ f h. answers_same (g.M.Moves.reaches m) (g.M.Moves.reaches n) (known c.search.new.table) c.args.goal c.args.limit f
    (λ d. (same.costs c.args.goal d c.requires.there).0) (λ d. (same.costs c.args.goal d c.requires.there).1) h)
    c.search.ensures.found

pub find-returns-clause-lazy : goal.find-returns-clause-lazy
find-returns-clause-lazy g t c = λ is_unfolded none all.
    let m = c.args.moves.now in let is = c.in_ok-room.ensures.ok in
    let same = (c.open.ensures.same is_unfolded.1).1 in
    let costs = all_cost (g.M.Choices.graph m) (g.met.M.Choices.lawful m) c.args.goal c.args.limit (known c.args.table.now) (known (with_room c.args.table.now c.goals.result)) is_unfolded
    (λ i. omega (arith, (room_kept c.args.table.now c.goals.result i).0)) all in
    let now = subst (λ (es : List Entry). AllCost (g.M.Choices.graph m) (known es) c.args.goal c.args.limit) (sym is) costs in
    let ends = c.search.ensures.lazy (subst (λ w. AllCost (g.M.Choices.graph w) (known c.room.new.table) c.args.goal c.args.limit) (sym same) now) in
    (ends.0, ends.1 ∙ same)

pub find-returns-clause-rises : goal.find-returns-clause-rises
find-returns-clause-rises g t c =
    let old = c.args.table.now in let n = c.goals.result in
    let first = subst (λ (es : List Entry). Rises (known old) (known es)) (sym c.in_ok-room.ensures.ok) (kept_rises (known old) (known (with_room old n)) (room_kept old n)) in
    rises_on (known old) (known c.room.new.table) (known c.search.new.table) first c.search.ensures.leaves.rises

pub find-returns-clause-others : goal.find-returns-clause-others
find-returns-clause-others g t c = λ h there r n.
    let m = c.args.moves.now in let o = c.open.new.moves in let is = c.in_ok-room.ensures.ok in
    let ext = g.met.M.Choices.grows m o c.open.ensures.later in
    let same = g.met.M.Moves.settled m o c.open.ensures.later in
    let first = subst (λ (es : List Entry). IsKept (known c.args.table.now) (known es) h) (sym is) (room_kept c.args.table.now c.goals.result h) in
    let next = c.search.ensures.leaves.others h (omega (arith, ext.goals, there)) (omega (arith, same.ranks c.args.goal c.requires.there, same.ranks h there, r)) n in
    (next.0 ∙ first.0, next.1 ∙ first.1)

pub input_found-returns-in_err-find-clause-leaves : goal.input_found-returns-in_err-find-clause-leaves
input_found-returns-in_err-find-clause-leaves g t c =
    let m = c.args.moves.now in let n = c.find.new.moves in
    let falls = input_ranked (g.M.Choices.graph m) (g.M.Moves.rank m) (g.M.Moves.reaches m) (g.met.M.Moves.ruled m) c.args.goal c.args.k c.args.i c.input-input.result c.requires.alternative c.input-input.ensures in
    leaves_below (g.M.Choices.later m n) (g.M.Choices.graph m) (g.M.Choices.graph n) (g.M.Moves.rank m) (g.M.Moves.reaches n) c.args.table.now c.find.new.table c.input-input.result c.args.goal falls
    c.find.ensures.later c.find.ensures.right c.find.ensures.rises c.find.ensures.longer c.find.ensures.others

pub input_found-returns-in-Below-clause-leaves : goal.input_found-returns-in-Below-clause-leaves
input_found-returns-in-Below-clause-leaves g t c =
    let m = c.args.moves.now in let n = c.find.new.moves in
    let falls = input_ranked (g.M.Choices.graph m) (g.M.Moves.rank m) (g.M.Moves.reaches m) (g.met.M.Moves.ruled m) c.args.goal c.args.k c.args.i c.input-input.result c.requires.alternative c.input-input.ensures in
    leaves_below (g.M.Choices.later m n) (g.M.Choices.graph m) (g.M.Choices.graph n) (g.M.Moves.rank m) (g.M.Moves.reaches n) c.args.table.now c.find.new.table c.input-input.result c.args.goal falls
    c.find.ensures.later c.find.ensures.right c.find.ensures.rises c.find.ensures.longer c.find.ensures.others

pub input_found-returns-in-NotBelow-clause-leaves : goal.input_found-returns-in-NotBelow-clause-leaves
input_found-returns-in-NotBelow-clause-leaves g t c =
    let m = c.args.moves.now in let n = c.find.new.moves in
    let falls = input_ranked (g.M.Choices.graph m) (g.M.Moves.rank m) (g.M.Moves.reaches m) (g.met.M.Moves.ruled m) c.args.goal c.args.k c.args.i c.input-input.result c.requires.alternative c.input-input.ensures in
    leaves_below (g.M.Choices.later m n) (g.M.Choices.graph m) (g.M.Choices.graph n) (g.M.Moves.rank m) (g.M.Moves.reaches n) c.args.table.now c.find.new.table c.input-input.result c.args.goal falls
    c.find.ensures.later c.find.ensures.right c.find.ensures.rises c.find.ensures.longer c.find.ensures.others

pub input_found-returns-in-NotBelow-clause-found : goal.input_found-returns-in-NotBelow-clause-found
input_found-returns-in-NotBelow-clause-found g t c =
    let m = c.args.moves.now in
    at_cut (g.M.Choices.graph m) (g.met.M.Choices.lawful m) c.args.goal c.args.k c.requires.alternative (known c.args.table.now) (known c.find.new.table) c.args.i c.input-input.result c.input_limit-most.result c.args.limit
    c.find.ensures.rises.bound c.input-input.ensures
    (low_of (g.M.Moves.reaches m) (known c.find.new.table) c.input-input.result c.input_limit-most.result c.in_ok-find.field-0 c.in-NotBelow.is c.in_ok-find.ensures.found)
    c.requires.limit c.input_limit-most.ensures.at

pub inputs_found-loop-i-preserved : goal.inputs_found-loop-i-preserved
inputs_found-loop-i-preserved g t c =
    let m = c.args.moves.now in let n = c.loop-i.moves in let o = c.input_found.new.moves in
    let ext = g.met.M.Choices.grows m n c.loop-i.invariant.leaves.moves in
    let alike = ext.alternative c.args.goal c.args.k c.requires.alternative.1 in
    let inputs = ((g.M.Choices.graph m).alternative c.args.goal c.args.k).inputs in
    record {
      leaves = leaves_on (g.M.Choices.later m n) (g.M.Choices.later n o) (g.M.Choices.later m o) (g.M.Choices.graph m) (g.M.Choices.graph n) (g.M.Choices.graph o) (g.M.Moves.rank m) (g.M.Moves.rank n)
          (g.M.Moves.reaches m) (g.M.Moves.reaches n) (g.M.Moves.reaches o) c.args.table.now c.loop-i.table c.input_found.new.table c.args.goal
          (g.met.M.Choices.chain m n o) ext (g.met.M.Moves.settled m n c.loop-i.invariant.leaves.moves) c.requires.alternative.0 c.loop-i.invariant.leaves c.input_found.ensures.leaves;
      held = subst (λ (e : ℕ). AllHold (known c.input_found.new.table) (take e inputs)) (sym (add-one c.loop-i.i)) (held_more (HoldsSolution (known c.input_found.new.table)) inputs c.loop-i.i
          (all_rise (known c.loop-i.table) (known c.input_found.new.table) c.input_found.ensures.leaves.rises (take c.loop-i.i inputs) c.loop-i.invariant.held)
          (λ x e. tells_true ((x : ℕ) → slice_get ((g.M.Choices.graph n).alternative c.args.goal c.args.k).inputs c.loop-i.i ≡ Some x → HoldsSolution (known c.input_found.new.table) x)
          (known c.input_found.new.table) ((g.M.Choices.graph n).alternative c.args.goal c.args.k) c.args.limit c.in_ok-input_found.field-0 c.if-not-branch.false c.in_ok-input_found.ensures.found x
          (ap (λ (a : Alternative). slice_get a.inputs c.loop-i.i) alike ∙ e)));
    }

pub search-returns-in_err-best-clause-lazy : goal.search-returns-in_err-best-clause-lazy
search-returns-in_err-best-clause-lazy g t c = λ all.
    let m = c.args.moves.now in let n = c.loop-k.moves in let inv = c.loop-k.invariant in
    let ext = g.met.M.Choices.grows m n inv.leaves.moves in
    let at = least_at ((g.M.Choices.graph n).count c.args.goal) (λ j. at_bounds (known c.loop-k.table) ((g.M.Choices.graph n).alternative c.args.goal j)) (cap + 1) c.in-Some.k c.loop-k.least inv.least c.in-Some.ensures.some.0 in
    absurd (not_lazy (g.M.Choices.graph m) (g.M.Choices.graph n) (g.met.M.Choices.lawful m) ext c.args.goal c.requires.unfolded
    (known c.args.table.now) (known c.loop-k.table) c.args.limit c.loop-k.best.cost c.in-Some.k inv.leaves.rises.bound at.0 (omega (arith, at.1, c.in-Some.ensures.some.1)) inv.low all)

pub search-loop-k-smaller : goal.search-loop-k-smaller
search-loop-k-smaller g t c =
    let m = c.args.moves.now in let n = c.loop-k.moves in let inv = c.loop-k.invariant in
    let ext = g.met.M.Choices.grows m n inv.leaves.moves in
    let at = least_at ((g.M.Choices.graph n).count c.args.goal) (λ j. at_bounds (known c.loop-k.table) ((g.M.Choices.graph n).alternative c.args.goal j)) (cap + 1) c.in-Some.k c.loop-k.least inv.least c.in-Some.ensures.some.0 in
    fewer (g.M.Choices.graph m) (g.M.Choices.graph n) (g.met.M.Choices.lawful m) ext c.args.goal c.requires.unfolded (known c.loop-k.table) (known c.attempt.new.table) c.loop-k.best.cost c.in_ok-best.best.cost c.in-Some.k
    c.attempt.ensures.leaves.rises.bound (no_more (g.M.Choices.graph n) (known c.attempt.new.table) c.args.goal c.in-Some.k c.loop-k.best c.in_ok-best.best c.in_ok-best.ensures.next)
    at.0 (omega (arith, at.1, c.in-Some.ensures.some.1)) c.in_ok-best.ensures.past

pub search-loop-k-preserved : goal.search-loop-k-preserved
search-loop-k-preserved g t c =
    let m = c.args.moves.now in let n = c.loop-k.moves in let o = c.attempt.new.moves in let inv = c.loop-k.invariant in
    let ext = g.met.M.Choices.grows m n inv.leaves.moves in
    let at = least_at ((g.M.Choices.graph n).count c.args.goal) (λ j. at_bounds (known c.loop-k.table) ((g.M.Choices.graph n).alternative c.args.goal j)) (cap + 1) c.in-Some.k c.loop-k.least inv.least c.in-Some.ensures.some.0 in
    let less : c.in_ok-best.best.cost ≤ c.loop-k.best.cost = no_more (g.M.Choices.graph n) (known c.attempt.new.table) c.args.goal c.in-Some.k c.loop-k.best c.in_ok-best.best c.in_ok-best.ensures.next in
    record {
      leaves = leaves_on (g.M.Choices.later m n) (g.M.Choices.later n o) (g.M.Choices.later m o) (g.M.Choices.graph m) (g.M.Choices.graph n) (g.M.Choices.graph o) (g.M.Moves.rank m) (g.M.Moves.rank n)
          (g.M.Moves.reaches m) (g.M.Moves.reaches n) (g.M.Moves.reaches o) c.args.table.now c.loop-k.table c.attempt.new.table c.args.goal
          (g.met.M.Choices.chain m n o) ext (g.met.M.Moves.settled m n inv.leaves.moves) c.requires.unfolded.0 inv.leaves c.attempt.ensures.leaves;
      stands = stands_next (g.M.Choices.graph m) (g.M.Choices.graph n) ext c.args.goal c.requires.unfolded (known c.loop-k.table) (known c.attempt.new.table) c.args.limit c.in-Some.k c.loop-k.best c.in_ok-best.best
          c.attempt.ensures.leaves.rises inv.stands inv.low c.in_ok-best.ensures.next;
      low = omega (arith, less, inv.low);
      least = c.lowest-least-in-Some.ensures;
      lazy = λ all. absurd (not_lazy (g.M.Choices.graph m) (g.M.Choices.graph n) (g.met.M.Choices.lawful m) ext c.args.goal c.requires.unfolded
          (known c.args.table.now) (known c.loop-k.table) c.args.limit c.loop-k.best.cost c.in-Some.k inv.leaves.rises.bound at.0 (omega (arith, at.1, c.in-Some.ensures.some.1)) inv.low all);
    }

pub search-returns-clause-leaves : goal.search-returns-clause-leaves
search-returns-clause-leaves g t c =
    let m = c.args.moves.now in let n = c.loop-k.moves in let inv = c.loop-k.invariant in
    end_leaves (g.M.Choices.graph m) (g.M.Choices.graph n) (g.met.M.Choices.lawful n) (g.M.Moves.rank m) (g.M.Moves.rank n) (g.M.Moves.reaches m) (g.M.Moves.reaches n) (g.met.M.Moves.ruled n)
    (g.met.M.Choices.grows m n inv.leaves.moves) (g.met.M.Moves.settled m n inv.leaves.moves) (g.M.Choices.later m n)
    c.args.table.now c.loop-k.table c.put.new.self c.args.goal c.args.limit c.final_bound.result c.loop-k.best.choice inv.leaves
    (omega (arith, c.requires.room, inv.leaves.longer)) c.put.ensures c.requires.unfolded c.requires.none c.requires.low
    (λ k l. omega (arith, c.final_bound.ensures.covered, inv.least.each k l))
    (stands_bound (g.M.Choices.graph m) (known c.loop-k.table) c.args.goal c.args.limit c.loop-k.best.cost c.final_bound.result c.loop-k.best.choice inv.stands c.final_bound.ensures.stays c.final_bound.ensures.solved)

pub search-returns-clause-found : goal.search-returns-clause-found
search-returns-clause-found g t c =
    let m = c.args.moves.now in let n = c.loop-k.moves in let inv = c.loop-k.invariant in
    end_answers (g.M.Choices.graph m) (g.M.Choices.graph n) (g.met.M.Choices.lawful n) (g.M.Moves.rank m) (g.M.Moves.rank n) (g.M.Moves.reaches m) (g.M.Moves.reaches n) (g.met.M.Moves.ruled n)
    (g.met.M.Choices.grows m n inv.leaves.moves) (g.met.M.Moves.settled m n inv.leaves.moves) (g.M.Choices.later m n)
    c.args.table.now c.loop-k.table c.put.new.self c.args.goal c.args.limit c.final_bound.result c.loop-k.best.choice inv.leaves
    (omega (arith, c.requires.room, inv.leaves.longer)) c.put.ensures c.requires.unfolded c.requires.none c.requires.low
    (λ k l. omega (arith, c.final_bound.ensures.covered, inv.least.each k l))
    (stands_bound (g.M.Choices.graph m) (known c.loop-k.table) c.args.goal c.args.limit c.loop-k.best.cost c.final_bound.result c.loop-k.best.choice inv.stands c.final_bound.ensures.stays c.final_bound.ensures.solved)
    c.answer.result (λ k e. c.answer.ensures.some k e ∙ ap found.Below (sym (if_some c.loop-k.best.choice (λ _. c.final_bound.result ≡ c.loop-k.best.cost) k c.final_bound.ensures.solved e))) c.answer.ensures.none

pub search-returns-clause-lazy : goal.search-returns-clause-lazy
search-returns-clause-lazy g t c = λ all.
    let m = c.args.moves.now in (
      lazy_answer (g.M.Choices.graph m) (g.met.M.Choices.lawful m) (g.M.Moves.rank m) (g.M.Moves.reaches m) (g.met.M.Moves.ruled m) (known c.args.table.now) (known c.put.new.self) c.requires.right c.args.goal c.args.limit c.answer.result
          c.requires.unfolded all (search-returns-clause-found g t c),
      c.loop-k.invariant.lazy all,
    )
