use Rattle.memo.proofs.UnionLaws.{within}
use Rattle.memo.proofs.UniteLaws.{lifted_up}
use Rattle.memo.proofs.union.lift.Goals as goal

pub up_at-over-requires : goal.up_at-over-requires
up_at-over-requires g c = let p = c.requires.union.up c.args.i c.up_at-own.result c.up_at-own.ensures in within c.args.ups.now c.up_at-own.result.parent p.0 p.1

pub returns-in_ok-line-clause-lifted : goal.returns-in_ok-line-clause-lifted
returns-in_ok-line-clause-lifted g c =
    lifted_up c.args.log.now c.chain.new.log c.args.ups.now c.put_under.new.ups c.args.i c.in_ok-line.line c.up_at-own.result c.up_at-over.result c.requires.union c.up_at-own.ensures c.up_at-over.ensures c.if-over-own.true c.in_ok-line.ensures.line c.put_under.ensures
