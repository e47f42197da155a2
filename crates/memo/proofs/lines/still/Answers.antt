use Rattle.memo.proofs.GrewLaws.{still_ok}
use Rattle.memo.proofs.lines.still.Goals as goal

pub returns-clause-line : goal.returns-clause-line
returns-clause-line g c = still_ok c.args.log.now c.turn.new.log c.chain.new.log c.args.of c.in_ok-turned.turned c.chain.result c.turn.ensures.grew c.in_ok-turned.ensures.line c.chain.ensures.line
