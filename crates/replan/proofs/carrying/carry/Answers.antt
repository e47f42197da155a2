use Rattle.std.proofs.Common.{◌≡◌, ℕ, ◌+◌, ◌≤◌, ◌<◌, Bool, false, List, [], length, replicate, arith, rules, ap, sym, ◌∙◌, subst}
use Rattle.best_plan.specs.Tables.{known, with_room}
use Rattle.best_plan.specs.declared.table.Entry.{Entry}
use Rattle.best_plan.proofs.TableLaws.{length_room}
use Rattle.replan.specs.Carried.{flagged}
use Rattle.replan.proofs.CarryLaws.{Carrying, carries_all}
use Rattle.replan.proofs.RightLaws.{carried_right}
use Rattle.replan.proofs.StepLaws.{step_flags, step_entries, at_place, goal_there, carrying_first, carrying_step, written_back}
use Rattle.replan.proofs.carrying.carry.Goals as goal

pub loop-i-init : goal.loop-i-init
loop-i-init g c =
    let old = g.M.Choices.graph c.args.old.now in let new = g.M.Choices.graph c.args.new.now in
    let form = λ (a k h j : ℕ). g.M.Forms.same_form c.args.new.now a k c.args.old.now h j in
    let kept = c.in_ok-kept.kept in let es = c.reserve.new.self in
    let none : kept.items ≡ replicate c.goals.result false = c.in_ok-kept.ensures.items_if_clones_equal (λ y h. search rules) in
    let empty : es ≡ with_room [] c.goals-2.result = c.in_ok-reserve.ensures.ok ∙ ap (λ (ds : List Entry). with_room ds c.goals-2.result) c.new-carried.ensures in
    record {
      flags = omega (arith, kept.ok.0, c.in_ok-kept.ensures.len, c.goals.ensures);
      room = omega (arith, ap (λ (ds : List Entry). length ds) empty, length_room [] c.goals-2.result, c.goals-2.ensures);
      is = carrying_first old new (g.M.Moves.rank c.args.new.now) (g.M.Moves.reaches c.args.new.now) (g.met.M.Moves.ruled c.args.new.now) form c.args.places.now (known c.args.table.now)
          c.in_ok-order.order.items c.in_ok-order.ensures kept.items es c.goals.result c.goals-2.result none empty;
    }

pub carry_goal-requires : goal.carry_goal-requires
carry_goal-requires g c =
    let new = g.M.Choices.graph c.args.new.now in let order = c.in_ok-order.order in
    let few : c.loop-i.i < length order.items = omega (arith, c.loop-i-test.true, c.len-i-end.ensures, order.ok.0) in
    record {
      there = goal_there new.goals (g.M.Moves.rank c.args.new.now) order.items c.loop-i.i c.index.result.now c.in_ok-order.ensures few c.index.ensures;
      flags = ap (λ (fs : List Bool). length fs) c.as_mut_slice.ensures.value ∙ c.loop-i.invariant.flags;
      room = c.loop-i.invariant.room;
    }

pub loop-i-preserved : goal.loop-i-preserved
loop-i-preserved g c =
    let old = g.M.Choices.graph c.args.old.now in let new = g.M.Choices.graph c.args.new.now in
    let rank = g.M.Moves.rank c.args.new.now in let reaches = g.M.Moves.reaches c.args.new.now in
    let form = λ (a k h j : ℕ). g.M.Forms.same_form c.args.new.now a k c.args.old.now h j in
    let places = c.args.places.now in let t = known c.args.table.now in
    let order = c.in_ok-order.order in let i = c.loop-i.i in let x = c.index.result.now in let inv = c.loop-i.invariant in
    let flags = c.as_mut_slice.result.now in let flags' = c.carry_goal.new.kept in
    let es = c.loop-i.carried in let es' = c.carry_goal.new.carried in let kept = c.loop-i.kept in
    let few : i < length order.items = omega (arith, c.loop-i-test.true, c.len-i-end.ensures, order.ok.0) in
    let there : x.goal < new.goals = goal_there new.goals rank order.items i x c.in_ok-order.ensures few c.index.ensures in
    let same : length flags ≡ length kept.items = ap (λ (fs : List Bool). length fs) c.as_mut_slice.ensures.value in
    let long : length flags' ≡ length flags = step_flags old new form places t x.goal flags flags' es es' c.carry_goal.ensures in
    let room : length es' ≡ length es = step_entries old new form places t x.goal flags flags' es es' c.carry_goal.ensures in
    let back = written_back kept.len flags' kept.items (omega (arith, long, same, kept.ok.0)) in
    let before = subst (λ (fs : List Bool). Carrying old new form places t order.items i (flagged fs) (known es)) (sym c.as_mut_slice.ensures.value) inv.is in
    let after = carrying_step old new rank reaches (g.met.M.Moves.ruled c.args.new.now) form places t order.items c.in_ok-order.ensures i x (at_place order.items i x few c.index.ensures) flags flags' es es' before
    (omega (arith, there, same, inv.flags)) (omega (arith, there, inv.room)) c.carry_goal.ensures in
    record {
      flags = ap (λ (fs : List Bool). length fs) back ∙ (long ∙ (same ∙ inv.flags));
      room = omega (arith, inv.room, room);
      is = subst (λ (fs : List Bool). Carrying old new form places t order.items (i + 1) (flagged fs) (known es')) (sym back) after;
    }

pub returns : goal.returns
returns g c =
    let old = g.M.Choices.graph c.args.old.now in let new = g.M.Choices.graph c.args.new.now in
    let rank = g.M.Moves.rank c.args.new.now in let reaches = g.M.Moves.reaches c.args.new.now in
    let form = λ (a k h j : ℕ). g.M.Forms.same_form c.args.new.now a k c.args.old.now h j in
    let places = c.args.places.now in let t = known c.args.table.now in let order = c.in_ok-order.order in
    let kept = flagged c.loop-i.kept.items in let t' = known c.loop-i.carried in
    let all : length order.items ≤ c.loop-i.i = omega (arith, c.loop-i-test.false, c.len-i-end.ensures, order.ok.0) in
    let carries = carries_all old new rank reaches (g.met.M.Moves.ruled c.args.new.now) form places t order.items c.in_ok-order.ensures c.loop-i.i all kept t' c.loop-i.invariant.is in
    record {
      carried = (kept, carries);
      right = carried_right old new (g.met.M.Choices.lawful c.args.new.now) (g.M.Moves.rank c.args.old.now) rank (g.M.Moves.reaches c.args.old.now) reaches
          (g.met.M.Moves.ruled c.args.old.now) (g.met.M.Moves.ruled c.args.new.now) form (g.met.M.Forms.alike c.args.new.now c.args.old.now) places t t' c.requires.right kept carries;
    }
