use Rattle.prairie_top.proofs.ToldLaws.{told_long, is_long, long_not_failed}
use Rattle.prairie_top.proofs.source.source.Goals as goal

pub returns-in-Err-TooLong-clause-had : goal.returns-in-Err-TooLong-clause-had
returns-in-Err-TooLong-clause-had g c =
    let Refuses = g.T.FromText.refuses c.args.context.now in
    let long = is_long c.fetch.result c.in-Err-TooLong.field-0 c.in-Err-TooLong.is c.in-Err-TooLong.field-0-is in
    (c.fetch.ensures.stays (long_not_failed c.fetch.result long), told_long (g.F.Shelf.held c.args.shelf.now) c.args.name.now c.args.limit _ Refuses (c.fetch.ensures.too_long long))
