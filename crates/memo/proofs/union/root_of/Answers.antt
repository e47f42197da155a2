use Rattle.memo.proofs.GrewLaws.{grew_same, grew_trans}
use Rattle.memo.proofs.UnionLaws.{up_first, up_more, up_last, union_grew, within}
use Rattle.memo.proofs.union.root_of.Goals as goal

pub loop-at-init : goal.loop-at-init
loop-at-init g c = record {
  grew = grew_same c.args.log.now;
  up = up_first c.args.log.now.lines c.args.ups.now c.args.i c.up_at-first.result c.requires.union c.up_at-first.ensures;
}

pub up_at-next-requires : goal.up_at-next-requires
up_at-next-requires g c = within c.args.ups.now c.loop-at.at c.loop-at.invariant.up.equates.1 c.loop-at.invariant.up.equates.3

pub returns-then-next-at-clause-root : goal.returns-then-next-at-clause-root
returns-then-next-at-clause-root g c =
    let union = union_grew c.args.log.now c.loop-at.log c.loop-at.invariant.grew c.args.ups.now c.requires.union in
    up_last c.loop-at.log.lines c.args.ups.now c.args.i c.loop-at.at c.loop-at.line c.up_at-next.result union c.loop-at.invariant.up c.up_at-next.ensures c.if-next-at.true

pub loop-at-preserved : goal.loop-at-preserved
loop-at-preserved g c =
    let union = union_grew c.args.log.now c.loop-at.log c.loop-at.invariant.grew c.args.ups.now c.requires.union in record {
      grew = grew_trans c.args.log.now c.loop-at.log c.chain.new.log c.loop-at.invariant.grew c.chain.ensures.grew;
      up = up_more c.loop-at.log c.chain.new.log c.args.ups.now c.args.i c.loop-at.at c.loop-at.line c.in_ok-line.line c.up_at-next.result union c.loop-at.invariant.up c.up_at-next.ensures c.in_ok-line.ensures.line;
    }
