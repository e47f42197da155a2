use Rattle.action_eval.proofs.FoldLaws.{keep-set}
use Rattle.action_eval.proofs.folds.keep.Goals as goal

pub returns-in_ok-from_symbols-in-Set : goal.returns-in_ok-from_symbols-in-Set
returns-in_ok-from_symbols-in-Set c =
    keep-set c.args.over.now c.args.values.now c.in-Set.set c.as_slice-in-Set.result.now c.in_ok-members-in-Set.members.items c.in_ok-from_symbols-in-Set.field-0 c.in-Set.is c.as_slice-in-Set.ensures.same c.as_slice-in-Set.ensures.ascending
    c.in_ok-members-in-Set.ensures c.in_ok-from_symbols-in-Set.ensures
