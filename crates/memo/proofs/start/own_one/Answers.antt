use Rattle.std.proofs.Common.{Some, slice_set, refl}
use Rattle.memo.proofs.StartLaws.{own_grew, owned_same, owned_now, lines_now}
use Rattle.memo.proofs.start.own_one.Goals as goal

pub returns-in-Some-clause-owned : goal.returns-in-Some-clause-owned
returns-in-Some-clause-owned g c = owned_same c.args.own.now c.args.m (c.in-Some.field-0, c.in-Some.ensures)

pub returns-in_ok-line-in-None-clause-lines : goal.returns-in_ok-line-in-None-clause-lines
returns-in_ok-line-in-None-clause-lines g c =
    lines_now c.args.own.now (slice_set c.args.own.now c.args.m (Some c.in_ok-line-in-None.line)) c.args.m c.in_ok-line-in-None.line c.requires.there refl c.part.new.log.lines
    (c.in_ok-line-in-None.ensures.line c.args.n c.args.n c.args.m c.requires.line c.requires.input) (own_grew c.args.log.now c.part.new.log c.args.own.now c.in_ok-line-in-None.ensures.grew c.requires.lines)

pub returns-in_ok-line-in-None-clause-owned : goal.returns-in_ok-line-in-None-clause-owned
returns-in_ok-line-in-None-clause-owned g c =
    owned_now c.args.own.now (slice_set c.args.own.now c.args.m (Some c.in_ok-line-in-None.line)) c.args.m c.in_ok-line-in-None.line c.requires.there refl
