use Rattle.std.proofs.Common.{◌≡◌, ◌≤◌, length}
use Rattle.best_plan.specs.Tables.{known}
use Rattle.replan.specs.Carried.{flagged}
use Rattle.replan.proofs.CarryLaws.{Carrying}
use Rattle.replan.proofs.carrying.carry.Given as goal

abbrev pub invariant-loop-i : goal.invariant-loop-i
invariant-loop-i g l =
    let m = g.M.Choices.graph l.new in record {
      flags : length l.kept.items ≡ m.goals;
      room : m.goals ≤ length l.carried;
      is : Carrying (g.M.Choices.graph l.old) m (λ g' k h j. g.M.Forms.same_form l.new g' k l.old h j) l.places (known l.table) l.order.items l.i (flagged l.kept.items) (known l.carried);
    }
