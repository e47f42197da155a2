use Rattle.std.proofs.Common.{◌∷◌, true, false, List, IsPermutation, heap_items, heap_len, slice_index_or, ap, sym, ◌∙◌, subst, arith}
use Rattle.best_plan.specs.Tables.{known}
use Rattle.loop_plan.specs.Fallen.{Lowers}
use Rattle.loop_plan.specs.Waiting.{note}
use Rattle.loop_plan.specs.declared.note.Note.{Note}
use Rattle.loop_plan.specs.declared.way.Way.{Way}
use Rattle.loop_plan.proofs.ListLaws.{get_at}
use Rattle.loop_plan.proofs.StepLaws.{lowered_same, lowered_fall}
use Rattle.loop_plan.proofs.UsesLaws.{alternative_at}
use Rattle.loop_plan.proofs.lowering.lower_all.Goals as goal
use Rattle.loop_plan.proofs.lowering.lower_all.Goals.{then-branch+in_ok-push, else-branch}

abbrev none : Way
none = record { goal = 0; k = 0 }

pub loop-i-preserved : goal.loop-i-preserved
loop-i-preserved g c =
    let m = g.C.Choices.graph c.args.choices.now in let ws = c.args.ways.now in let i = c.loop-i.i in let x = slice_index_or ws i none in
    let at = get_at ws i none (omega arith) in let is = alternative_at m ws c.requires.alternatives i none (omega arith) in
    let old = c.args.falls.now in let now = c.loop-i.falls in let new = c.lower.new.falls in
    let notes = heap_items c.args.work.now in let n = heap_len c.args.work.now in let notes' = heap_items c.loop-i.work in let n' = heap_len c.loop-i.work in
    let notes'' = heap_items c.if-branch.work in let n'' = heap_len c.if-branch.work in
    let laws = g.met.C.Choices.lawful c.args.choices.now in
    elim c.if-branch.branch [
      | then-branch+in_ok-push w ↦ (let fall : Lowers m x now new true = subst (λ b. Lowers m x now new b) w.if-branch.true c.in_ok-lower.ensures in
          let noted : IsPermutation (note (known new.entries) x.goal ∷ notes') (heap_items w.push.new.self) =
          subst (λ (k : Note). IsPermutation (k ∷ notes') (heap_items w.push.new.self)) w.note.ensures w.in_ok-push.ensures.permutation in
          let more : IsPermutation (note (known new.entries) x.goal ∷ notes') notes'' =
          subst (λ (ns : List Note). IsPermutation (note (known new.entries) x.goal ∷ notes') ns) (sym (ap (λ h. heap_items h) w.work-is)) noted in
          lowered_fall m ws i x at old now notes notes' n n' c.loop-i.invariant laws is new fall notes'' n'' more (ap (λ h. heap_len h) w.work-is ∙ w.in_ok-push.ensures.len))
      | else-branch w ↦ (let same : Lowers m x now new false = subst (λ b. Lowers m x now new b) w.if-branch.false c.in_ok-lower.ensures in
          lowered_same m ws i x at old now notes notes' n n' c.loop-i.invariant new notes'' n'' same (ap (λ h. heap_items h) w.work-is) (ap (λ h. heap_len h) w.work-is))
    ]
