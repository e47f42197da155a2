use Rattle.std.proofs.Common.{rules}
use Rattle.std.specs.Ordering.{is_lt}
use Rattle.std.proofs.lemmas.Fn.{always_returns_same}
use Rattle.std.proofs.lemmas.List.Sorted.{ranks_by}
use Rattle.catalog.specs.Keys.{compare_keys}
use Rattle.catalog.proofs.RowOrder.{keys, keys_total}
use Rattle.catalog.proofs.rows.in_order.Goals as goal

pub returns : goal.returns
returns c =
    let sorted = c.in_ok-sort_by.ensures.sorted (λ x y. is_lt (compare_keys (keys x) (keys y))) (ranks_by keys_total keys) (always_returns_same _ _ _ (λ a r t e. search rules)) in
    (c.sort_by.ensures.permutation, sorted)
