use Rattle.std.proofs.Common.{rules, subst, sym}
use Rattle.memo.specs.Merge.{AreJoinable}
use Rattle.memo.proofs.GrewLaws.{grew_trans}
use Rattle.memo.proofs.KeepLaws.{forest_grew}
use Rattle.memo.proofs.SettleLaws.{turning_next, merging_next}
use Rattle.memo.proofs.settle.turn_once.Goals as goal

pub returns-clause-grew : goal.returns-clause-grew
returns-clause-grew g c = grew_trans c.args.log.now c.merge.new.log c.rebuild.new.log c.in_ok-merge.ensures.grew c.in_ok-rebuild.ensures.grew

pub returns-clause-turning : goal.returns-clause-turning
returns-clause-turning g c =
    turning_next c.args.log.now.terms c.rebuild.new.log.terms c.args.log.now.lines c.rebuild.new.log.lines c.args.known.now c.args.exprs.now c.merge.new.exprs c.rebuild.new.exprs c.args.index.now.entries c.rebuild.new.index.entries c.args.joins.now.items c.rebuild.new.joins.items
    c.requires.turning (let h = c.in_ok-merge.ensures.merged in let v = c.as_slice.ensures.value in search rules) (forest_grew c.merge.new.log c.rebuild.new.log c.merge.new.exprs c.args.known.now c.in_ok-rebuild.ensures.grew c.in_ok-merge.ensures.forest) c.in_ok-rebuild.ensures.forest c.in_ok-rebuild.ensures.pass

pub returns-clause-merging : goal.returns-clause-merging
returns-clause-merging g c = λ memo m.
    merging_next c.args.log.now.terms c.rebuild.new.log.terms c.args.log.now.lines c.rebuild.new.log.lines c.args.known.now c.args.exprs.now c.merge.new.exprs c.rebuild.new.exprs c.args.index.now.entries c.rebuild.new.index.entries c.args.joins.now.items c.rebuild.new.joins.items
    c.requires.turning (let h = c.in_ok-merge.ensures.merged in let v = c.as_slice.ensures.value in search rules) (forest_grew c.merge.new.log c.rebuild.new.log c.merge.new.exprs c.args.known.now c.in_ok-rebuild.ensures.grew c.in_ok-merge.ensures.forest) c.in_ok-rebuild.ensures.forest c.in_ok-rebuild.ensures.pass
    memo m

pub merge-requires-clause-lines : goal.merge-requires-clause-lines
merge-requires-clause-lines g c = subst (AreJoinable c.args.log.now.lines c.args.exprs.now) (sym c.as_slice.ensures.value) c.requires.turning.joinable
