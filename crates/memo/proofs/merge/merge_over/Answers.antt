use Rattle.std.proofs.Common.{subst, sym}
use Rattle.memo.specs.Union.{IsUnion, AreJoins}
use Rattle.memo.proofs.GrewLaws.{grew_trans}
use Rattle.memo.proofs.MergeLaws.{forest_union, joins_union, two_long, merge_forest, merge_by}
use Rattle.memo.proofs.merge.merge_over.Goals as goal

pub unite-requires-clause-union : goal.unite-requires-clause-union
unite-requires-clause-union g c = subst (IsUnion c.args.log.now.lines) (sym c.requires.ups) (forest_union c.args.log.now.terms c.args.log.now.lines c.args.exprs.now c.args.known.now c.requires.forest)

pub unite-requires-clause-lines : goal.unite-requires-clause-lines
unite-requires-clause-lines g c = subst (λ w. AreJoins c.args.log.now.lines w c.args.joins.now) (sym c.requires.ups) (joins_union c.args.log.now.lines c.args.exprs.now c.args.joins.now c.requires.lines)

pub flatten-requires : goal.flatten-requires
flatten-requires g c = c.in_ok-unite.ensures.united.union

pub write_back-requires : goal.write_back-requires
write_back-requires g c = two_long c.args.log.now c.unite.new.log c.flatten.new.log c.args.exprs.now c.args.exprs.now c.args.known.now c.args.joins.now c.args.ups.now c.unite.new.ups c.flatten.new.ups c.requires.ups c.requires.forest c.in_ok-unite.ensures.grew c.in_ok-flatten.ensures.grew c.in_ok-unite.ensures.united c.in_ok-flatten.ensures.flat

pub returns-clause-grew : goal.returns-clause-grew
returns-clause-grew g c = grew_trans c.args.log.now c.unite.new.log c.flatten.new.log c.in_ok-unite.ensures.grew c.in_ok-flatten.ensures.grew

pub returns-clause-forest : goal.returns-clause-forest
returns-clause-forest g c = merge_forest c.args.log.now c.unite.new.log c.flatten.new.log c.args.exprs.now c.write_back.new.exprs c.args.known.now c.args.joins.now c.args.ups.now c.unite.new.ups c.flatten.new.ups c.requires.ups c.requires.forest c.in_ok-unite.ensures.grew c.in_ok-flatten.ensures.grew c.in_ok-unite.ensures.united c.in_ok-flatten.ensures.flat c.write_back.ensures

pub returns-clause-merged : goal.returns-clause-merged
returns-clause-merged g c = merge_by c.args.log.now c.unite.new.log c.flatten.new.log c.args.exprs.now c.write_back.new.exprs c.args.known.now c.args.joins.now c.args.ups.now c.unite.new.ups c.flatten.new.ups c.requires.ups c.requires.forest c.in_ok-unite.ensures.grew c.in_ok-flatten.ensures.grew c.in_ok-unite.ensures.united c.in_ok-flatten.ensures.flat c.write_back.ensures
