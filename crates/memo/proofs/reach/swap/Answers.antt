use Rattle.memo.proofs.ReachLaws.{swap_ok}
use Rattle.memo.proofs.reach.swap.Goals as goal

pub returns-clause-line : goal.returns-clause-line
returns-clause-line g c = swap_ok c.args.log.now c.inside.new.log c.chain.new.log c.args.path c.args.at c.args.by c.in_ok-step.step c.chain.result c.inside.ensures.grew c.chain.ensures.grew c.in_ok-step.ensures.line c.chain.ensures.line
