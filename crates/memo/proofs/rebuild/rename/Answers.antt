use Rattle.std.proofs.Common.{slice_index_or, refl}
use Rattle.memo.proofs.UnionLaws.{index_is}
use Rattle.memo.proofs.rebuild.rename.Goals as goal

pub returns : goal.returns
returns g c = (slice_index_or c.args.exprs.now c.args.i c.index-exprs-i.result, index_is c.args.exprs.now c.args.i c.index-exprs-i.result c.requires, refl)
