use Rattle.std.proofs.Common.{slice_index_or, arith}
use Rattle.memo.specs.declared.expr.Join.{Join}
use Rattle.memo.proofs.GrewLaws.{grew_same, grew_trans}
use Rattle.memo.proofs.UnionLaws.{index_is}
use Rattle.memo.proofs.UniteLaws.{uniting_none, uniting_grew, uniting_more, join_still, join_there}
use Rattle.memo.proofs.union.unite.Goals as goal

pub loop-join-init : goal.loop-join-init
loop-join-init g c = record { grew = grew_same c.args.log.now; uniting = uniting_none c.args.log.now.lines c.args.joins.now c.args.ups.now c.requires.union }

pub link-requires-clause-line : goal.link-requires-clause-line
link-requires-clause-line g c =
    let d : Join = record { left = 0; right = 0; line = 0 } in
    join_still c.args.log.now c.loop-join.log c.args.ups.now c.loop-join.ups c.args.joins.now c.loop-join.join-index (slice_index_or c.args.joins.now c.loop-join.join-index d) c.loop-join.invariant.grew c.loop-join.invariant.uniting.trees c.requires.lines
    (index_is c.args.joins.now c.loop-join.join-index d (omega arith))

pub link-requires-clause-there : goal.link-requires-clause-there
link-requires-clause-there g c =
    let d : Join = record { left = 0; right = 0; line = 0 } in
    let j : Join = slice_index_or c.args.joins.now c.loop-join.join-index d in
    join_there c.loop-join.log.lines c.loop-join.ups j.line j.left j.right
    (join_still c.args.log.now c.loop-join.log c.args.ups.now c.loop-join.ups c.args.joins.now c.loop-join.join-index j c.loop-join.invariant.grew c.loop-join.invariant.uniting.trees c.requires.lines
    (index_is c.args.joins.now c.loop-join.join-index d (omega arith)))

pub loop-join-preserved : goal.loop-join-preserved
loop-join-preserved g c =
    let d : Join = record { left = 0; right = 0; line = 0 } in
    let j : Join = slice_index_or c.args.joins.now c.loop-join.join-index d in record {
      grew = grew_trans c.args.log.now c.loop-join.log c.link.new.log c.loop-join.invariant.grew c.in_ok-link.ensures.grew;
      uniting = uniting_more c.link.new.log.lines c.args.joins.now c.args.ups.now c.loop-join.ups c.link.new.ups c.loop-join.join-index j (index_is c.args.joins.now c.loop-join.join-index d (omega arith))
          (uniting_grew c.loop-join.log c.link.new.log c.args.joins.now c.args.ups.now c.loop-join.ups c.loop-join.join-index c.in_ok-link.ensures.grew c.loop-join.invariant.uniting) c.in_ok-link.ensures.linked;
    }
