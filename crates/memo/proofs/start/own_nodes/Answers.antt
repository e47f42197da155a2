use Rattle.std.proofs.Common.{◌≡◌, ◌+◌, ◌-◌, ◌<◌, suc, length, subst, arith}
use Rattle.derivation.specs.Table.{AreEarlier}
use Rattle.memo.proofs.GrewLaws.{grew_same, grew_trans}
use Rattle.memo.proofs.LearnLaws.{still_there}
use Rattle.memo.proofs.StartLaws.{owning_next, inputs_before}
use Rattle.memo.proofs.start.own_nodes.Goals as goal

pub loop-k-init : goal.loop-k-init
loop-k-init g c = record { grew = grew_same c.args.log.now; lines = c.requires.lines; owning = c.requires.owning }

pub own_inputs-requires-clause-there : goal.own_inputs-requires-clause-there
own_inputs-requires-clause-there g c =
    let long = c.loop-k.invariant.owning.long in
    let there = c.requires.there in
    let low : (length c.loop-k.own - 1 - c.loop-k.k) < length c.args.log.now.terms = omega (arith, long, there) in
    still_there c.args.log.now c.loop-k.log (length c.loop-k.own - 1 - c.loop-k.k) c.loop-k.invariant.grew low

pub loop-k-preserved : goal.loop-k-preserved
loop-k-preserved g c =
    let long = c.loop-k.invariant.owning.long in
    let there = c.requires.there in
    let low : (length c.loop-k.own - 1 - c.loop-k.k) < length c.args.log.now.terms = omega (arith, long, there) in
    let end : (length c.loop-k.own - 1 - c.loop-k.k) + suc c.loop-k.k ≡ length c.loop-k.own = omega arith in record {
      grew = grew_trans c.args.log.now c.loop-k.log c.own_inputs.new.log c.loop-k.invariant.grew c.in_ok-own_inputs.ensures.grew;
      lines = c.in_ok-own_inputs.ensures.lines;
      owning =
          owning_next c.args.log.now.terms c.args.log.now.query c.loop-k.k (length c.loop-k.own - 1 - c.loop-k.k) c.loop-k.own c.own_inputs.new.own (subst AreEarlier c.terms.ensures c.sound.ensures.earlier) c.loop-k.invariant.owning end
          (inputs_before c.args.log.now.terms c.loop-k.log.terms c.loop-k.own c.own_inputs.new.own (length c.loop-k.own - 1 - c.loop-k.k) c.loop-k.invariant.grew.terms low c.in_ok-own_inputs.ensures.owned);
    }
