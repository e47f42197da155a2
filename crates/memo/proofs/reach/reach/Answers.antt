use Rattle.std.proofs.Common.{subst}
use Rattle.derivation.specs.Table.{AreDistinct}
use Rattle.memo.specs.Reach.{Leads}
use Rattle.memo.proofs.KeepLaws.{forest_grew}
use Rattle.memo.proofs.GrewLaws.{grew_trans}
use Rattle.memo.proofs.ReachLaws.{reached}
use Rattle.memo.proofs.reach.reach.Goals as goal

pub swap_all-requires-clause-forest : goal.swap_all-requires-clause-forest
swap_all-requires-clause-forest g c = forest_grew c.args.log.now c.still.new.log c.args.exprs.now c.args.known.now c.still.ensures.grew c.requires.forest

pub returns-clause-grew : goal.returns-clause-grew
returns-clause-grew g c = grew_trans c.args.log.now c.still.new.log c.swap_all.new.log c.still.ensures.grew c.in_ok-path.ensures.grew

pub returns-clause-line : goal.returns-clause-line
returns-clause-line g c =
    let old = c.still.new.log in let new = c.swap_all.new.log in
    let leads = subst (λ ns. Leads old new c.in_ok-first.first ns c.in_ok-to.to.items c.in_ok-path.path) c.as_slice.ensures.value
    (subst (λ ns. Leads old new c.in_ok-first.first c.as_slice.result.now ns c.in_ok-path.path) c.as_slice-2.ensures.value c.in_ok-path.ensures.line) in
    reached c.args.log.now old new c.args.exprs.now c.args.known.now c.args.line c.in_ok-first.first c.in_ok-path.path c.args.s c.args.t c.in_ok-from.from.items c.in_ok-to.to.items
    (subst AreDistinct c.terms.ensures c.sound.ensures.distinct) c.still.ensures.grew c.in_ok-path.ensures.grew c.requires.ends c.requires.alike c.in_ok-from.ensures c.in_ok-to.ensures c.in_ok-first.ensures.line leads
