use Rattle.rule_ast.specs.Seen.{seen_trule}
use Rattle.prairie_top.proofs.ReadingLaws.{map-is_empty}
use Rattle.prairie_top.proofs.reading.is_without_trules.Goals as goal

pub returns : goal.returns
returns c = map-is_empty seen_trule c.as_slice.result.now c.args.rules.now.trules c.is_empty.result c.as_slice.ensures c.is_empty.ensures
