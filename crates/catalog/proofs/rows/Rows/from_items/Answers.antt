use Rattle.std.proofs.Common.{map, refl, subst}
use Rattle.std.specs.List.{IsDistinct}
use Rattle.std.specs.List.Sorted.{IsStrictlySortedBy}
use Rattle.std.proofs.lemmas.Result.{err_from_is_err_and}
use Rattle.pr_value.specs.SymbolSets.{same_list}
use Rattle.catalog.specs.Keys.{compare_keys}
use Rattle.catalog.proofs.RowLaws.{rows_read, rows_refused, rows_unread}
use Rattle.catalog.proofs.RowOrder.{keys}
use Rattle.catalog.proofs.rows.Rows.from_items.Goals as goal

pub returns-in_err-items_of : goal.returns-in_err-items_of
returns-in_err-items_of c =
    let p = err_from_is_err_and c.from_residual.result c.from_residual.ensures.1 in
    rw (p.1, p.2) (rows_unread c.args.items.now c.in_err-items_of.field-0.0 c.in_err-items_of.ensures)

pub returns-then-not-differ : goal.returns-then-not-differ
returns-then-not-differ c =
    let equal = subst (λ rs. ¬ (IsDistinct same_list (map keys rs))) c.as_slice.ensures.value c.if-not-differ.ensures.equal in
    rows_refused c.args.items.now c.in_ok-items_of.field-0.items c.in_ok-rows.rows.items c.in_ok-items_of.ensures c.in_ok-rows.ensures.0 equal

pub returns : goal.returns
returns c =
    let up = subst (λ rs. IsStrictlySortedBy compare_keys (map keys rs)) c.as_slice.ensures.value (c.if-not-differ.ensures.rise refl) in
    rows_read c.args.items.now c.in_ok-items_of.field-0.items c.in_ok-rows.rows.items c.in_ok-items_of.ensures c.in_ok-rows.ensures.0 up
