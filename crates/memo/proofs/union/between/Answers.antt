use Rattle.memo.proofs.UnionLaws.{between_ok}
use Rattle.memo.proofs.union.between.Goals as goal

pub returns-clause-line : goal.returns-clause-line
returns-clause-line g c = between_ok c.args.log.now c.turn.new.log c.chain.new.log c.chain-2.new.log c.args.to_b c.args.across c.args.to_a c.in_ok-from_b.from_b c.in_ok-half.half c.chain-2.result c.turn.ensures.grew c.chain.ensures.grew c.in_ok-from_b.ensures.line c.in_ok-half.ensures.line c.chain-2.ensures.line
