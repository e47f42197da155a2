use Rattle.std.proofs.Common.{rules}
use Rattle.memo.proofs.KeepLaws.{home_made}
use Rattle.memo.proofs.homes.home_of.Goals as goal

pub returns-clause-line : goal.returns-clause-line
returns-clause-line g c = home_made c.args.log.now c.chain.new.log c.args.exprs.now c.args.known.now c.args.n c.in-Some.k c.in-Some-expr_at.e.now c.chain.result c.requires c.in-Some.ensures (let h = c.in-Some-expr_at.ensures in search rules) c.chain.ensures.line
