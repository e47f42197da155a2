use Rattle.std.proofs.Common.{subst, sym, ◌∙◌}
use Rattle.memo.specs.Settle.{IsTurning, IsMerging}
use Rattle.memo.proofs.GrewLaws.{grew_same, grew_trans}
use Rattle.memo.proofs.settle.settle_in.Goals as goal

pub loop-init : goal.loop-init
loop-init g c = record { grew = grew_same c.args.log.now; turning = c.requires.turning; merging = λ memo m. m }

pub loop-preserved : goal.loop-preserved
loop-preserved g c = record {
  grew = grew_trans c.args.log.now c.loop.log c.turn_once.new.log c.loop.invariant.grew c.in_ok-turn_once.ensures.grew;
  turning = c.in_ok-turn_once.ensures.turning;
  merging = λ memo m. c.in_ok-turn_once.ensures.merging memo (c.loop.invariant.merging memo m);
}

pub returns-clause-turning : goal.returns-clause-turning
returns-clause-turning g c = subst (λ w. IsTurning c.loop.log.terms c.loop.log.lines c.loop.exprs c.args.known.now c.loop.index.entries w) (sym c.as_slice.ensures.value ∙ c.in_ok-all_made.ensures) c.loop.invariant.turning

pub returns-clause-none : goal.returns-clause-none
returns-clause-none g c = sym c.as_slice.ensures.value ∙ c.in_ok-all_made.ensures

pub returns-clause-merging : goal.returns-clause-merging
returns-clause-merging g c = λ memo m. subst (λ w. IsMerging memo c.loop.exprs w) (sym c.as_slice.ensures.value ∙ c.in_ok-all_made.ensures) (c.loop.invariant.merging memo m)
