use Rattle.std.proofs.Common.{◌≡◌, List, sym, ◌∙◌, subst}
use Rattle.std.specs.Prelude.{slice_get}
use Rattle.best_plan.specs.declared.table.Entry.{Entry}
use Rattle.best_plan.specs.Tables.{bound_in}
use Rattle.best_plan.proofs.TableLaws.{AreCapped, none_past, read_capped}
use Rattle.best_plan.proofs.table.Table.bound.Goals as goal

pub returns-in-Some-clause-capped : goal.returns-in-Some-clause-capped
returns-in-Some-clause-capped c =
    read_capped c.deref.result.now c.args.goal c.in-Some.entry.now c.in-Some.ensures.lookup.3.0 c.in-Some.ensures.lookup.1 (subst AreCapped (sym c.deref.ensures.value) c.self.invariant)

pub returns-in-None-clause-is : goal.returns-in-None-clause-is
returns-in-None-clause-is c =
    sym (subst (λ (es : List Entry). bound_in (slice_get es c.args.goal) ≡ 0) (c.deref.ensures.value ∙ c.self.view_is) (none_past c.deref.result.now c.args.goal c.in-None.ensures.lookup.3))
