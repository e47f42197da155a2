use Rattle.std.proofs.Common.{get_or, subst}
use Rattle.std.proofs.lemmas.List.{drop_all, get_or_default}
use Rattle.tree_terms.proofs.TermFitLaws.{RootSays, rest_all, rest_more, rest_none}
use Rattle.tree_terms.proofs.term_fits.are_roots_fit.Goals as goal

pub loop-stream-init : goal.loop-stream-init
loop-stream-init c = λ b h. h

pub returns-then-not-is_root_fit : goal.returns-then-not-is_root_fit
returns-then-not-is_root_fit c =
    let n = get_or c.args.streams.now c.loop-stream.stream-index 0 in
    rest_none c.args.layout.now c.args.terms.now c.args.streams.now c.loop-stream.stream-index n c.loop-stream-test.true (get_or_default c.args.streams.now c.loop-stream.stream-index 0 n c.loop-stream-test.true)
    (subst (λ b. RootSays c.args.layout.now c.args.terms.now b n) c.if-not-is_root_fit.true c.is_root_fit.ensures) c.loop-stream.invariant

pub loop-stream-preserved : goal.loop-stream-preserved
loop-stream-preserved c =
    let n = get_or c.args.streams.now c.loop-stream.stream-index 0 in
    rest_more c.args.layout.now c.args.terms.now c.args.streams.now c.loop-stream.stream-index n c.loop-stream-test.true (get_or_default c.args.streams.now c.loop-stream.stream-index 0 n c.loop-stream-test.true)
    (subst (λ b. RootSays c.args.layout.now c.args.terms.now b n) c.if-not-is_root_fit.false c.is_root_fit.ensures) c.loop-stream.invariant

pub returns : goal.returns
returns c =
    rest_all c.args.layout.now c.args.terms.now c.args.streams.now c.loop-stream.stream-index (drop_all c.loop-stream.stream-index c.args.streams.now c.loop-stream-test.false) c.loop-stream.invariant
