use Rattle.std.proofs.Common.{subst, sym}
use Rattle.memo.specs.Reach.{AreAlike}
use Rattle.memo.proofs.GrewLaws.{grew_trans}
use Rattle.memo.proofs.KeepLaws.{forest_grew}
use Rattle.memo.proofs.LearnLaws.{fitting_alike, forest_noted, turned_fact}
use Rattle.memo.proofs.learn.learn_as.Goals as goal

pub reach-requires-clause-alike : goal.reach-requires-clause-alike
reach-requires-clause-alike g c =
    subst (λ ks. AreAlike c.args.log.now.terms c.args.exprs.now ks c.expr_get-e.result.now.tree c.args.n) (sym c.as_slice.ensures.value)
    (fitting_alike c.args.log.now.terms c.args.log.now.lines c.args.exprs.now c.args.known.now.items c.requires.forest c.args.n c.args.i c.expr_get-e.result.now c.expr_get-e.ensures c.requires.fits)

pub returns-clause-grew : goal.returns-clause-grew
returns-clause-grew g c = grew_trans c.args.log.now c.reach.new.log c.turn.new.log c.in_ok-path.ensures.grew c.in_ok-line.ensures.grew

pub returns-clause-forest : goal.returns-clause-forest
returns-clause-forest g c =
    let e = c.expr_get-e.result.now in
    let new = c.turn.new.log in
    let grew = grew_trans c.args.log.now c.reach.new.log new c.in_ok-path.ensures.grew c.in_ok-line.ensures.grew in
    forest_noted new.terms new.lines c.args.exprs.now c.args.known.now.items c.note_known.new.known.items c.args.n (record { expr = c.args.i; line = c.in_ok-line.line }) c.requires.none c.in_ok-note_known.ensures
    (forest_grew c.args.log.now new c.args.exprs.now c.args.known.now.items grew c.requires.forest)
    (turned_fact c.args.log.now c.reach.new.log new c.args.exprs.now c.args.known.now.items c.args.n c.args.i c.in_ok-line.line e c.in_ok-path.ensures.grew c.in_ok-line.ensures.grew c.expr_get-e.ensures c.requires.fits
    (c.in_ok-line.ensures.line e.tree c.args.n c.in_ok-path.ensures.line))
