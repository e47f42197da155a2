use Rattle.std.proofs.Common.{slice_index_or, arith}
use Rattle.memo.proofs.GrewLaws.{grew_same, grew_trans, line_still}
use Rattle.memo.proofs.StartLaws.{first_none, first_more, input_at}
use Rattle.memo.proofs.UnionLaws.{index_is}
use Rattle.memo.proofs.start.own_all.Goals as goal

pub loop-at-init : goal.loop-at-init
loop-at-init g c = record { grew = grew_same c.args.log.now; lines = c.requires.lines; owned = first_none c.args.own.now c.args.inputs.now }

pub own_one-requires-clause-line : goal.own_one-requires-clause-line
own_one-requires-clause-line g c = line_still c.args.log.now c.loop-at.log c.args.of c.args.n c.args.n c.loop-at.invariant.grew c.requires.line

pub own_one-requires-clause-input : goal.own_one-requires-clause-input
own_one-requires-clause-input g c =
    input_at c.args.log.now c.loop-at.log c.args.n c.loop-at.at (slice_index_or c.args.inputs.now c.loop-at.at 0) c.args.inputs.now c.loop-at.invariant.grew c.requires.inputs (index_is c.args.inputs.now c.loop-at.at 0 (omega arith))

pub loop-at-preserved : goal.loop-at-preserved
loop-at-preserved g c = record {
  grew = grew_trans c.args.log.now c.loop-at.log c.own_one.new.log c.loop-at.invariant.grew c.in_ok-own_one.ensures.grew;
  lines = c.in_ok-own_one.ensures.lines;
  owned =
      first_more c.args.own.now c.loop-at.own c.own_one.new.own c.args.inputs.now c.loop-at.at (slice_index_or c.args.inputs.now c.loop-at.at 0) c.loop-at.invariant.owned (index_is c.args.inputs.now c.loop-at.at 0 (omega arith))
      c.in_ok-own_one.ensures.owned;
}
