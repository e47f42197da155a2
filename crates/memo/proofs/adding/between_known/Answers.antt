use Rattle.memo.proofs.AddLaws.{between_made}
use Rattle.memo.proofs.GrewLaws.{grew_trans}
use Rattle.memo.proofs.adding.between_known.Goals as goal

pub returns-clause-grew : goal.returns-clause-grew
returns-clause-grew g c =
    grew_trans c.args.log.now c.chain.new.log c.chain-2.new.log (grew_trans c.args.log.now c.turn.new.log c.chain.new.log c.in_ok-back.ensures.grew c.in_ok-half.ensures.grew) c.in_ok-whole.ensures.grew

pub returns-clause-made : goal.returns-clause-made
returns-clause-made g c =
    between_made c.args.log.now c.turn.new.log c.chain.new.log c.chain-2.new.log c.args.exprs.now c.args.known.now c.args.a c.args.b c.args.line c.in_ok-back.back c.in_ok-half.half c.in_ok-whole.whole c.in-Some.left c.in-Some-known_at.right
    c.requires.forest c.in-Some.ensures c.in-Some-known_at.ensures c.requires.line c.in_ok-back.ensures.grew c.in_ok-half.ensures.grew c.in_ok-back.ensures.line c.in_ok-half.ensures.line c.in_ok-whole.ensures.line
