use Rattle.std.proofs.Common.{[], ◌≡◌, length, subst, sym, arith}
use Rattle.memo.specs.Rebuild.{IsPass}
use Rattle.memo.proofs.GrewLaws.{grew_same, grew_trans}
use Rattle.memo.proofs.KeepLaws.{forest_grew}
use Rattle.memo.proofs.RebuildLaws.{pass_none, pass_grew, pass_step}
use Rattle.memo.proofs.rebuild.rebuild.Goals as goal

pub loop-i-preserved : goal.loop-i-preserved
loop-i-preserved g c =
    let all = grew_trans c.args.log.now c.loop-i.log c.reindex.new.log c.loop-i.invariant.grew c.in_ok-reindex.ensures.grew in record {
      grew = all;
      forest = c.in_ok-reindex.ensures.forest;
      pass = pass_step c.reindex.new.log.terms c.reindex.new.log.lines c.args.exprs.now c.loop-i.exprs c.reindex.new.exprs c.args.known.now c.loop-i.index.entries c.reindex.new.index.entries c.loop-i.joins.items c.reindex.new.joins.items c.loop-i.i
          (forest_grew c.args.log.now c.reindex.new.log c.args.exprs.now c.args.known.now all c.requires.forest)
          (pass_grew c.loop-i.log c.reindex.new.log c.args.exprs.now c.loop-i.exprs c.loop-i.index.entries c.loop-i.joins.items c.loop-i.i c.in_ok-reindex.ensures.grew c.loop-i.invariant.pass) c.in_ok-reindex.ensures.reindexed;
    }

pub loop-i-init : goal.loop-i-init
loop-i-init g c = record {
  grew = grew_same c.args.log.now;
  forest = c.requires.forest;
  pass = subst (λ w. IsPass c.args.log.now.lines c.args.exprs.now c.args.exprs.now w c.args.joins.now.items 0) (sym c.clear.ensures.empty)
      (subst (λ w. IsPass c.args.log.now.lines c.args.exprs.now c.args.exprs.now [] w 0) (sym c.requires.none) (pass_none c.args.log.now.terms c.args.log.now.lines c.args.exprs.now c.args.known.now c.requires.forest));
}

pub returns-clause-pass : goal.returns-clause-pass
returns-clause-pass g c =
    let end : c.loop-i.i ≡ length c.args.exprs.now = omega arith in
    subst (λ n. IsPass c.loop-i.log.lines c.args.exprs.now c.loop-i.exprs c.loop-i.index.entries c.loop-i.joins.items n) end c.loop-i.invariant.pass
