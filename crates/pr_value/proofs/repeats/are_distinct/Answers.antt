use Rattle.pr_value.proofs.RepeatLaws.{distinct_from}
use Rattle.pr_value.proofs.repeats.are_distinct.Goals as goal

pub returns : goal.returns
returns c = distinct_from c.args.symbols.now c.in_ok-repeated.repeated c.is_none.result c.in_ok-repeated.ensures c.is_none.ensures
