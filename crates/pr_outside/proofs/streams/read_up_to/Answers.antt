use Rattle.std.specs.Prelude.{not}
use Rattle.std.proofs.Common.{ℕ, List, take, drop, length, subst, ◌≡◌, ◌≤◌, ◌<◌, ◌+◌, ◌++◌, [], ap, sym, ◌∙◌, arith, refl}
use Rattle.std.proofs.lemmas.List.{length-take, length-append, length-drop, take-append-le}
use Rattle.std.specs.Io.KnownBytes.{Consumes}
use Rattle.pr_outside.proofs.StreamLaws.{consumes_none, consumes_more, read_full, read_end, appended}
use Rattle.pr_outside.proofs.streams.read_up_to.Goals as goal

pub loop-piece-init : goal.loop-piece-init
loop-piece-init g c =
    let start = g.R.Read.remaining c.args.reader.now in
    let none : length c.args.bytes.now.items ≡ 0 = ap length c.requires in
    record { taken = subst (λ (w : List ℕ). Consumes start start w) (sym c.requires) (consumes_none start); few = omega (arith, none); room = refl }

pub returns-then-read-eq0-clause-all : goal.returns-then-read-eq0-clause-all
returns-then-read-eq0-clause-all g c =
    let test = c.loop-piece-test.true in
    let len = c.len.ensures in
    let few : length c.loop-piece.bytes.items ≤ c.args.most = omega (arith, test, len) in
    let buf = c.read.auto.buf ∙ length-take (c.min-wanted.result + 1) c.loop-piece.piece in
    let room = c.loop-piece.invariant.room in
    let some : 0 < length c.read.new.buf = omega (arith, buf, room) in
    read_end (g.R.Read.remaining c.args.reader.now) (g.R.Read.remaining c.loop-piece.reader) (g.R.Read.remaining c.read.new.self) c.args.most c.loop-piece.bytes.items (take c.in-Ok.read c.read.new.buf) few
    (ap (λ (n : ℕ). take n c.read.new.buf) c.if-read-eq0.true) c.loop-piece.invariant.taken (c.in-Ok.ensures.bytes.0) (c.in-Ok.ensures.bytes.1 c.if-read-eq0.true some)

pub loop-piece-preserved : goal.loop-piece-preserved
loop-piece-preserved g c =
    let more = consumes_more (g.R.Read.remaining c.args.reader.now) (g.R.Read.remaining c.loop-piece.reader) (g.R.Read.remaining c.read.new.self) c.loop-piece.bytes.items (take c.in-Ok.read c.read.new.buf) c.loop-piece.invariant.taken (c.in-Ok.ensures.bytes.0) in
    let bound = c.in-Ok.ensures.bound.0 in
    let piece = take-append-le c.in-Ok.read c.read.new.buf (drop (c.min-wanted.result + 1) c.loop-piece.piece) bound in
    let grew = c.is_err.ensures.negation ∙ ap not c.if-is_err.false in
    let items = appended c.loop-piece.bytes.items _ c.extend_from_slice.new.self.items _ grew c.extend_from_slice.ensures.items ∙ ap (λ (w : List ℕ). c.loop-piece.bytes.items ++ w) piece in
    let test = c.loop-piece-test.true in
    let len = c.len.ensures in
    let len' = c.len-in-loop-piece.ensures in
    let buf = c.read.auto.buf ∙ length-take (c.min-wanted.result + 1) c.loop-piece.piece in
    let min = c.min-wanted.ensures in
    let taken = length-take c.in-Ok.read c.read.new.buf in
    let long = ap length items ∙ length-append c.loop-piece.bytes.items (take c.in-Ok.read c.read.new.buf) in
    let room = c.loop-piece.invariant.room in
    let rest = length-append c.read.new.buf (drop (c.min-wanted.result + 1) c.loop-piece.piece) in
    let dropped = length-drop (c.min-wanted.result + 1) c.loop-piece.piece in
    record {
      taken = subst (λ (w : List ℕ). Consumes (g.R.Read.remaining c.args.reader.now) (g.R.Read.remaining c.read.new.self) w) (sym items) more;
      few = omega (arith, test, len, len', buf, min, taken, long, bound);
      room = omega (arith, room, rest, dropped, buf);
    }

pub returns-clause-all : goal.returns-clause-all
returns-clause-all g c =
    let test = c.loop-piece-test.false in
    let len = c.len.ensures in
    let few = c.loop-piece.invariant.few in
    let full : length c.loop-piece.bytes.items ≡ c.args.most + 1 = omega (arith, test, len, few) in
    read_full (g.R.Read.remaining c.args.reader.now) (g.R.Read.remaining c.loop-piece.reader) c.args.most c.loop-piece.bytes.items full c.loop-piece.invariant.taken
