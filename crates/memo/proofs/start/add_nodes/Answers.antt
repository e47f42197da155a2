use Rattle.std.proofs.Common.{◌≡◌, ◌+◌, suc, length, sym, subst, arith}
use Rattle.memo.specs.Start.{IsStarted}
use Rattle.memo.proofs.GrewLaws.{grew_same, grew_trans}
use Rattle.memo.proofs.StartLaws.{own_grew, started_none}
use Rattle.memo.proofs.start.add_nodes.Goals as goal

pub loop-n-init : goal.loop-n-init
loop-n-init g c = record { grew = grew_same c.args.log.now; kept = c.requires.kept; started = subst (λ es. IsStarted c.args.own.now es 0) (sym c.requires.none) (started_none g.row.L.Denot c.args.own.now) }

pub add_owned-requires-clause-lines : goal.add_owned-requires-clause-lines
add_owned-requires-clause-lines g c = own_grew c.args.log.now c.loop-n.log c.args.own.now c.loop-n.invariant.grew c.requires.lines

pub loop-n-preserved : goal.loop-n-preserved
loop-n-preserved g c =
    let one : suc c.loop-n.n ≡ c.loop-n.n + 1 = omega arith in record {
      grew = grew_trans c.args.log.now c.loop-n.log c.add_owned.new.log c.loop-n.invariant.grew c.in_ok-add_owned.ensures.grew;
      kept = c.in_ok-add_owned.ensures.kept;
      started = subst (λ n. IsStarted c.args.own.now c.add_owned.new.exprs.items n) one c.in_ok-add_owned.ensures.started;
    }

pub returns-clause-started : goal.returns-clause-started
returns-clause-started g c =
    let end : c.loop-n.n ≡ length c.args.own.now = omega arith in
    subst (λ n. IsStarted c.args.own.now c.loop-n.exprs.items n) end c.loop-n.invariant.started
