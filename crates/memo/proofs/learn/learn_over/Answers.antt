use Rattle.std.proofs.Common.{subst}
use Rattle.memo.specs.Learn.{IsKeyFor}
use Rattle.memo.proofs.LearnLaws.{homed, key_fits, fits_low}
use Rattle.memo.proofs.learn.learn_over.Goals as goal

pub key_over-requires-clause-homed : goal.key_over-requires-clause-homed
key_over-requires-clause-homed g c = homed c.args.log.now.terms c.args.log.now.lines c.args.exprs.now c.args.known.now.items c.requires.forest

pub learn_as-requires-clause-there : goal.learn_as-requires-clause-there
learn_as-requires-clause-there g c =
    fits_low c.args.log.now.terms c.args.exprs.now c.args.known.now.items c.args.n c.in-Some.i
    (key_fits c.args.log.now.terms c.args.log.now.lines c.args.exprs.now c.args.known.now.items c.requires.forest c.args.index.now.entries c.args.n c.in-Some.i c.in_ok-key.key c.requires.indexed
    (subst (λ ks. IsKeyFor c.args.log.now.terms c.args.exprs.now ks c.args.n c.in_ok-key.key) c.as_slice-2.ensures.value c.in_ok-key.ensures) c.in-Some.ensures)

pub learn_as-requires-clause-fits : goal.learn_as-requires-clause-fits
learn_as-requires-clause-fits g c =
    key_fits c.args.log.now.terms c.args.log.now.lines c.args.exprs.now c.args.known.now.items c.requires.forest c.args.index.now.entries c.args.n c.in-Some.i c.in_ok-key.key c.requires.indexed
    (subst (λ ks. IsKeyFor c.args.log.now.terms c.args.exprs.now ks c.args.n c.in_ok-key.key) c.as_slice-2.ensures.value c.in_ok-key.ensures) c.in-Some.ensures
