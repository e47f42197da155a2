use Rattle.memo.proofs.GrewLaws.{grew_trans}
use Rattle.memo.proofs.ReachLaws.{swap_none, swap_near_ok}
use Rattle.memo.proofs.reach.swap_one.Goals as goal

pub returns-then-from-to-clause-line : goal.returns-then-from-to-clause-line
returns-then-from-to-clause-line g c = swap_none c.args.log.now c.args.path c.args.at c.args.from c.args.to c.if-from-to.true

pub returns-clause-grew : goal.returns-clause-grew
returns-clause-grew g c = grew_trans c.args.log.now c.across.new.log c.swap.new.log c.across.ensures.grew c.swap.ensures.grew

pub returns-clause-line : goal.returns-clause-line
returns-clause-line g c = swap_near_ok c.args.log.now c.across.new.log c.swap.new.log c.args.path c.args.at c.args.from c.args.to c.in_ok-by.by c.swap.result c.across.ensures.grew c.in_ok-by.ensures.line c.swap.ensures.line
