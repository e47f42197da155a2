use Rattle.std.proofs.Common.{ℕ, take, arith}
use Rattle.std.proofs.lemmas.Result.{on_ok_weaker}
use Rattle.k_best.specs.Lists.{IsDone}
use Rattle.k_best.proofs.LeadLaws.{led_here, led_input, input_there, input_ranked, done_more}
use Rattle.k_best.proofs.InputLaws.{all_take, all_on}
use Rattle.k_best.proofs.best.+visit.Goals as goal

pub visit-count-k-end-requires : goal.visit-count-k-end-requires
visit-count-k-end-requires g t c = record { unfolded = (c.requires.there, led_here (g.M.Choices.graph c.args.moves.now) c.args.goal c.requires.unfolded) }

pub visit-visit_inputs-requires : goal.visit-visit_inputs-requires
visit-visit_inputs-requires g t c κs within =
    let inv = c.loop-k.invariant in
    (omega arith, (within, (inv.right, (inv.room, ((c.requires.there, led_here (g.M.Choices.graph c.args.moves.now) c.args.goal c.requires.unfolded, omega arith), (c.requires.unfolded, c.requires.some))))))

pub visit-loop-k-preserved : goal.visit-loop-k-preserved
visit-loop-k-preserved g t c =
    let inv = c.loop-k.invariant in let are = c.in_ok-visit_inputs.ensures in
    record {
      right = are.right;
      room = are.room;
      kept = λ h done. are.kept h (inv.kept h done);
      done = done_more (g.M.Choices.graph c.args.moves.now) c.args.goal c.loop-k.k c.loop-k.lists c.visit_inputs.new.lists are.kept inv.done are.done;
    }

pub visit-list-requires-clause-unfolded : goal.visit-list-requires-clause-unfolded
visit-list-requires-clause-unfolded g t c = (c.requires.there, led_here (g.M.Choices.graph c.args.moves.now) c.args.goal c.requires.unfolded)

pub visit-returns-clause-kept : goal.visit-returns-clause-kept
visit-returns-clause-kept g t c =
    on_ok_weaker c.list.result (λ (kept : (h : ℕ) → IsDone c.loop-k.lists.spans h → IsDone c.list.new.lists.spans h) h done. kept h (c.loop-k.invariant.kept h done)) c.list.ensures.kept

pub visit_inputs-visit-requires : goal.visit_inputs-visit-requires
visit_inputs-visit-requires g t c κs within =
    let m = c.args.moves.now in let G = g.M.Choices.graph m in let h = c.input-input.result in let inv = c.loop-i.invariant in (
      omega (arith, input_ranked G (g.M.Moves.rank m) (g.M.Moves.reaches m) c.args.goal c.args.k c.loop-i.i h (g.met.M.Moves.ruled m) c.requires.alternative c.input-input.ensures),
      (
        within,
        (
          inv.right,
          (
            inv.room,
            (
              input_there G c.args.goal c.args.k c.loop-i.i h (g.met.M.Choices.lawful m) c.requires.alternative c.input-input.ensures,
              (led_input G c.args.goal c.args.k c.loop-i.i h c.requires.unfolded c.requires.alternative c.input-input.ensures, c.requires.some),
            ),
          ),
        ),
      ),
    )

pub visit_inputs-loop-i-preserved : goal.visit_inputs-loop-i-preserved
visit_inputs-loop-i-preserved g t c =
    let inputs = ((g.M.Choices.graph c.args.moves.now).alternative c.args.goal c.args.k).inputs in
    let inv = c.loop-i.invariant in let are = c.in_ok-visit.ensures in let old = c.loop-i.lists.spans in let new = c.visit.new.lists.spans in
    record {
      right = are.right;
      room = are.room;
      kept = λ h done. are.kept h (inv.kept h done);
      done = all_take (IsDone new) inputs c.loop-i.i c.input-input.result c.input-input.ensures (all_on (IsDone old) (IsDone new) are.kept (take c.loop-i.i inputs) inv.done) are.done;
    }
