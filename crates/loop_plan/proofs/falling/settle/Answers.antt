use Rattle.std.proofs.Common.{◌≡◌, ◌⊎◌, List, [], Contains, heap_items, heap_len, arith, sym, subst}
use Rattle.best_plan.specs.Moves.{IsAlternative}
use Rattle.best_plan.specs.Tables.{known}
use Rattle.loop_plan.specs.Fallen.{value}
use Rattle.loop_plan.specs.Waiting.{IsSeen}
use Rattle.loop_plan.specs.declared.note.Note.{Note}
use Rattle.loop_plan.specs.declared.way.Way.{Way}
use Rattle.loop_plan.proofs.FallLaws.{is_fallen}
use Rattle.loop_plan.proofs.ReachedLaws.{leads_met}
use Rattle.loop_plan.proofs.StepLaws.{first_held, first_seen, first_listed, seen_next, listed_on, no_notes}
use Rattle.loop_plan.proofs.WaitingLaws.{seen_past}
use Rattle.loop_plan.proofs.falling.settle.Goals as goal

pub uses_of-requires : goal.uses_of-requires
uses_of-requires g c = record { alternatives = λ w k. (c.requires.reached.ways w (subst (λ (ws : List Way). Contains ws w) c.as_slice.ensures k)).0 }

pub lower_all-requires : goal.lower_all-requires
lower_all-requires g c = record { alternatives = λ w k. (c.requires.reached.ways w (subst (λ (ws : List Way). Contains ws w) c.as_slice-2.ensures k)).0 }

pub loop-fell-init : goal.loop-fell-init
loop-fell-init g c =
    let m = g.C.Choices.graph c.args.choices.now in let r = c.args.reached in let ws = c.as_slice-2.result.now in
    let old = c.new-falls.result in let new = c.lower_all.new.falls in
    let notes = heap_items c.new-work.result in let notes' = heap_items c.lower_all.new.work in
    let n = heap_len c.new-work.result in let n' = heap_len c.lower_all.new.work in record {
      held = first_held m r c.requires.reached ws c.as_slice-2.ensures old new c.new-falls.ensures notes notes' n n' c.in_ok-lower_all.ensures c.requires.root;
      seen = first_seen m r c.requires.reached ws c.as_slice-2.ensures old new c.new-falls.ensures notes notes' n n' c.in_ok-lower_all.ensures;
      listed = first_listed m r c.requires.reached ws c.as_slice-2.ensures old new c.new-falls.ensures notes notes' n n' c.in_ok-lower_all.ensures;
    }

pub lower_all-requires-then-is_present : goal.lower_all-requires-then-is_present
lower_all-requires-then-is_present g c = record {
  alternatives = λ w k. c.in_ok-uses.ensures.only c.in-Some.fell.goal w (subst (λ (ws : List Way). Contains ws w) c.of.ensures k);
}

pub loop-fell-preserved-in-Continue-branch-3 : goal.loop-fell-preserved-in-Continue-branch-3
loop-fell-preserved-in-Continue-branch-3 g c =
    let m = g.C.Choices.graph c.args.choices.now in let r = c.args.reached in
    let old = c.loop-fell.falls in let new = c.lower_all-then-is_present.new.falls in let inv = c.loop-fell.invariant in
    let notes = heap_items c.loop-fell.work in let notes' = heap_items c.pop.new.self in let notes'' = heap_items c.lower_all-then-is_present.new.work in
    let n = heap_len c.pop.new.self in let n' = heap_len c.lower_all-then-is_present.new.work in
    let listed : (w : Way) → IsAlternative m w.goal w.k → (value old w.goal ≡ 0) ⊎ Contains c.as_slice.result.now w = λ w is. subst (λ (ws : List Way). (value old w.goal ≡ 0) ⊎ Contains ws w) (sym c.as_slice.ensures) (inv.listed w is) in
    record {
      held = c.in_ok-lower_all-2.ensures.held r.root inv.held;
      seen = λ w is. seen_next m c.as_slice.result.now c.of.result.now c.in_ok-uses.uses c.in_ok-uses.ensures c.in-Some.fell c.of.ensures old new notes notes' notes'' n n' c.in-Some.ensures.permutation c.in_ok-lower_all-2.ensures
          w is (listed w is) (inv.seen w is);
      listed = λ w is. listed_on r.ways old new c.in_ok-lower_all-2.ensures.falls w (inv.listed w is);
    }

pub loop-fell-preserved : goal.loop-fell-preserved
loop-fell-preserved g c =
    let m = g.C.Choices.graph c.args.choices.now in let inv = c.loop-fell.invariant in
    let t = known c.loop-fell.falls.entries in record {
      held = inv.held;
      seen = λ w is. seen_past m t (heap_items c.loop-fell.work) (heap_items c.pop.new.self) c.in-Some.fell c.in-Some.ensures.permutation (c.is_present.ensures.past c.if-is_present.false) w (inv.seen w is);
      listed = inv.listed;
    }

pub returns : goal.returns
returns g c =
    let m = g.C.Choices.graph c.args.choices.now in let r = c.args.reached in let f = c.loop-fell.falls in let inv = c.loop-fell.invariant in
    let none : heap_items c.loop-fell.work ≡ [] = no_notes (heap_items c.loop-fell.work) (omega (arith, c.loop-fell.work.data.ok.0, c.in_default.ensures.none)) in
    let covered : (w : Way) → IsAlternative m w.goal w.k → IsSeen m (known f.entries) [] (λ v. ⊥) w = λ w is. subst (λ (ns : List Note). IsSeen m (known f.entries) ns (λ v. ⊥) w) none (inv.seen w is) in
    is_fallen m (g.met.C.Choices.lawful c.args.choices.now) r.root f inv.held covered (λ h l. (leads_met m r c.requires.reached c.requires.root h l).unfolded)
