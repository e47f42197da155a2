use Rattle.std.proofs.Common.{refl, subst}
use Rattle.memo.specs.Adding.{IsJoinAt}
use Rattle.memo.specs.Forest.{IsKnownIn}
use Rattle.memo.proofs.AddLaws.{memo_joined, joined_of}
use Rattle.memo.proofs.GrewLaws.{grew_trans, line_still}
use Rattle.memo.proofs.KeepLaws.{forest_grew}
use Rattle.memo.proofs.LearnLaws.{homed}
use Rattle.memo.proofs.adding.join_in.Goals as goal

pub is_in-requires : goal.is_in-requires
is_in-requires g c = homed c.learn-2.new.log.terms c.learn-2.new.log.lines c.args.exprs.now c.learn-2.new.known.items c.in_ok-learn-2.ensures.forest

pub is_in-requires-then-is_in : goal.is_in-requires-then-is_in
is_in-requires-then-is_in g c = homed c.learn-2.new.log.terms c.learn-2.new.log.lines c.args.exprs.now c.learn-2.new.known.items c.in_ok-learn-2.ensures.forest

pub between_known-requires-clause-line : goal.between_known-requires-clause-line
between_known-requires-clause-line g c =
    let l = c.line-at.result.now in
    line_still c.learn.new.log c.learn-2.new.log c.args.line l.left l.right c.in_ok-learn-2.ensures.grew (line_still c.args.log.now c.learn.new.log c.args.line l.left l.right c.in_ok-learn.ensures.grew (l, c.line-at.ensures, refl, refl))

pub returns-then-is_in-2-clause-grew : goal.returns-then-is_in-2-clause-grew
returns-then-is_in-2-clause-grew g c = (grew_trans c.args.log.now c.learn-2.new.log c.between_known.new.log (grew_trans c.args.log.now c.learn.new.log c.learn-2.new.log c.in_ok-learn.ensures.grew c.in_ok-learn-2.ensures.grew) c.in_ok-join.ensures.grew)

pub returns-then-is_in-2-clause-kept : goal.returns-then-is_in-2-clause-kept
returns-then-is_in-2-clause-kept g c =
    memo_joined c.args.log.now c.between_known.new.log c.args.exprs.now c.args.known.now.items c.learn-2.new.known.items c.args.index.now.entries c.args.joins.now.items c.push.new.self.items c.line-at.result.now.left c.line-at.result.now.right c.in_ok-join.join
    (subst (λ ks. IsJoinAt c.between_known.new.log.lines c.args.exprs.now ks c.line-at.result.now.left c.line-at.result.now.right c.in_ok-join.join) c.as_slice-seen.ensures.value c.in_ok-join.ensures.made) c.in_ok-push.ensures.items
    c.requires.kept (grew_trans c.args.log.now c.learn-2.new.log c.between_known.new.log (grew_trans c.args.log.now c.learn.new.log c.learn-2.new.log c.in_ok-learn.ensures.grew c.in_ok-learn-2.ensures.grew) c.in_ok-join.ensures.grew)
    (forest_grew c.learn-2.new.log c.between_known.new.log c.args.exprs.now c.learn-2.new.known.items c.in_ok-join.ensures.grew c.in_ok-learn-2.ensures.forest)

pub returns-then-is_in-2-clause-joined : goal.returns-then-is_in-2-clause-joined
returns-then-is_in-2-clause-joined g c =
    joined_of c.args.log.now c.between_known.new.log c.args.exprs.now c.args.known.now.items c.learn-2.new.known.items c.args.index.now.entries c.args.joins.now.items c.push.new.self.items c.line-at.result.now.left c.line-at.result.now.right c.in_ok-join.join
    (subst (λ ks. IsJoinAt c.between_known.new.log.lines c.args.exprs.now ks c.line-at.result.now.left c.line-at.result.now.right c.in_ok-join.join) c.as_slice-seen.ensures.value c.in_ok-join.ensures.made) c.in_ok-push.ensures.items c.args.a c.args.b
    (subst (λ ks. IsKnownIn c.args.exprs.now ks c.line-at.result.now.left c.args.a) c.as_slice-seen.ensures.value (c.is_in.ensures c.if-is_in.true))
    (subst (λ ks. IsKnownIn c.args.exprs.now ks c.line-at.result.now.right c.args.b) c.as_slice-seen.ensures.value (c.is_in-then-is_in.ensures c.if-is_in-2.true))
