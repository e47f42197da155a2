use Rattle.std.proofs.Common.{subst, sym, ◌∙◌}
use Rattle.pr_outside.proofs.StreamLaws.{Wrote, wrote_none, wrote_more, wrote_some, wrote_all, wrote_kept, empty_is}
use Rattle.pr_outside.proofs.streams.write_whole.Goals as goal

pub loop-rest-init : goal.loop-rest-init
loop-rest-init g c = wrote_none (g.W.Write.contents c.args.writer.now) c.args.bytes.now

pub returns-in-Err-clause-err : goal.returns-in-Err-clause-err
returns-in-Err-clause-err g c =
    wrote_some (g.W.Write.contents c.args.writer.now) (g.W.Write.contents c.write.new.self) c.args.bytes.now c.loop-rest.rest.now
    (wrote_kept (g.W.Write.contents c.args.writer.now) (g.W.Write.contents c.loop-rest.writer) (g.W.Write.contents c.write.new.self) c.args.bytes.now c.loop-rest.rest.now c.loop-rest.invariant c.in-Err.ensures.bytes)

pub returns-then-taken-eq0-clause-err : goal.returns-then-taken-eq0-clause-err
returns-then-taken-eq0-clause-err g c =
    wrote_some (g.W.Write.contents c.args.writer.now) (g.W.Write.contents c.write.new.self) c.args.bytes.now _
    (wrote_more (g.W.Write.contents c.args.writer.now) (g.W.Write.contents c.loop-rest.writer) (g.W.Write.contents c.write.new.self) c.args.bytes.now c.loop-rest.rest.now c.in-Ok.taken c.loop-rest.invariant c.in-Ok.ensures.bytes)

pub loop-rest-preserved : goal.loop-rest-preserved
loop-rest-preserved g c =
    subst (Wrote (g.W.Write.contents c.args.writer.now) (g.W.Write.contents c.write.new.self) c.args.bytes.now) (sym c.split_at.ensures.back)
    (wrote_more (g.W.Write.contents c.args.writer.now) (g.W.Write.contents c.loop-rest.writer) (g.W.Write.contents c.write.new.self) c.args.bytes.now c.loop-rest.rest.now c.in-Ok.taken c.loop-rest.invariant c.in-Ok.ensures.bytes)

pub returns-clause-ok : goal.returns-clause-ok
returns-clause-ok g c = wrote_all (g.W.Write.contents c.args.writer.now) (g.W.Write.contents c.loop-rest.writer) c.args.bytes.now c.loop-rest.rest.now (empty_is c.loop-rest.rest.now (sym (c.is_empty.ensures) ∙ c.loop-rest-test.false)) c.loop-rest.invariant
