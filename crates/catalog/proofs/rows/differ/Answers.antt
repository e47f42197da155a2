use Rattle.std.proofs.Common.{rules}
use Rattle.std.specs.Ordering.{is_lt}
use Rattle.std.proofs.lemmas.Fn.{always_returns_same}
use Rattle.catalog.specs.Keys.{compare_keys}
use Rattle.catalog.proofs.RowLaws.{strict_from_answer, equal_from_answer}
use Rattle.catalog.proofs.RowOrder.{keys}
use Rattle.catalog.proofs.rows.differ.Goals as goal

pub returns-clause-rise : goal.returns-clause-rise
returns-clause-rise c =
    strict_from_answer c.args.rows.now c.is_sorted_by.result
    (c.is_sorted_by.ensures.cases (λ r s. is_lt (compare_keys (keys r) (keys s))) (always_returns_same _ _ _ (λ a r t e. search rules)))

pub returns-clause-equal : goal.returns-clause-equal
returns-clause-equal c =
    equal_from_answer c.args.rows.now c.is_sorted_by.result c.requires
    (c.is_sorted_by.ensures.cases (λ r s. is_lt (compare_keys (keys r) (keys s))) (always_returns_same _ _ _ (λ a r t e. search rules)))
