use Rattle.std.proofs.Common.{inl, inr}
use Rattle.memo.proofs.GrewLaws.{grew_trans}
use Rattle.memo.proofs.UnionLaws.{union_grew, equates_grew, turn_equates, between_equates, under_made, no_change, within, root_stops}
use Rattle.memo.proofs.union.link.Goals as goal

pub root_of-requires-2-clause-union : goal.root_of-requires-2-clause-union
root_of-requires-2-clause-union g c = union_grew c.args.log.now c.root_of.new.log c.root_of.ensures.grew c.args.ups.now c.requires.union

pub put_under-requires : goal.put_under-requires
put_under-requires g c = record { there = (let w = root_stops c.args.ups.now c.in_ok-b.ensures.root.0 in within c.args.ups.now c.in_ok-b.b w.0 w.1) }

pub put_under-requires-then-b-a : goal.put_under-requires-then-b-a
put_under-requires-then-b-a g c = record { there = (let w = root_stops c.args.ups.now c.in_ok-a.ensures.root.0 in within c.args.ups.now c.in_ok-a.a w.0 w.1) }

pub returns-then-a-b-clause-grew : goal.returns-then-a-b-clause-grew
returns-then-a-b-clause-grew g c =
    let two = grew_trans c.args.log.now c.root_of.new.log c.root_of-2.new.log c.root_of.ensures.grew c.root_of-2.ensures.grew in
    let three = grew_trans c.args.log.now c.root_of-2.new.log c.turn.new.log two c.turn.ensures.grew in
    grew_trans c.args.log.now c.turn.new.log c.between.new.log three c.between.ensures.grew

pub returns-then-a-b-clause-linked : goal.returns-then-a-b-clause-linked
returns-then-a-b-clause-linked g c =
    let ups = c.args.ups.now in
    let two = grew_trans c.args.log.now c.root_of.new.log c.root_of-2.new.log c.root_of.ensures.grew c.root_of-2.ensures.grew in
    let join = equates_grew c.args.log.now c.root_of-2.new.log two ups c.args.join.line c.args.join.left c.args.join.right c.requires.line in
    let back = turn_equates c.root_of-2.new.log c.turn.new.log ups c.args.join.line c.in_ok-back.back c.args.join.left c.args.join.right c.in_ok-back.ensures.line join in
    let a_three = grew_trans c.root_of.new.log c.root_of-2.new.log c.turn.new.log c.root_of-2.ensures.grew c.turn.ensures.grew in
    let to_a = equates_grew c.root_of.new.log c.turn.new.log a_three ups c.in_ok-a.to_a c.args.join.left c.in_ok-a.a c.in_ok-a.ensures.root.1 in
    let to_b = equates_grew c.root_of-2.new.log c.turn.new.log c.turn.ensures.grew ups c.in_ok-b.to_b c.args.join.right c.in_ok-b.b c.in_ok-b.ensures.root.1 in
    let line = between_equates c.turn.new.log c.between.new.log ups c.in_ok-b.to_b c.in_ok-back.back c.in_ok-a.to_a c.in_ok-line.line c.args.join.right c.args.join.left c.in_ok-b.b c.in_ok-a.a c.in_ok-line.ensures.line to_b back to_a in
    (c.in_ok-a.a, c.in_ok-b.b, c.in_ok-a.ensures.root.0, c.in_ok-b.ensures.root.0, inr (inl (under_made c.between.new.log.lines ups c.put_under.new.ups c.in_ok-a.a c.in_ok-b.b c.in_ok-line.line c.if-a-b.true line c.put_under.ensures)))

pub returns-in_ok-line-2-clause-grew : goal.returns-in_ok-line-2-clause-grew
returns-in_ok-line-2-clause-grew g c =
    let two = grew_trans c.args.log.now c.root_of.new.log c.root_of-2.new.log c.root_of.ensures.grew c.root_of-2.ensures.grew in
    grew_trans c.args.log.now c.root_of-2.new.log c.between-then-b-a.new.log two c.between-then-b-a.ensures.grew

pub returns-in_ok-line-2-clause-linked : goal.returns-in_ok-line-2-clause-linked
returns-in_ok-line-2-clause-linked g c =
    let ups = c.args.ups.now in
    let two = grew_trans c.args.log.now c.root_of.new.log c.root_of-2.new.log c.root_of.ensures.grew c.root_of-2.ensures.grew in
    let join = equates_grew c.args.log.now c.root_of-2.new.log two ups c.args.join.line c.args.join.left c.args.join.right c.requires.line in
    let to_a = equates_grew c.root_of.new.log c.root_of-2.new.log c.root_of-2.ensures.grew ups c.in_ok-a.to_a c.args.join.left c.in_ok-a.a c.in_ok-a.ensures.root.1 in
    let line = between_equates c.root_of-2.new.log c.between-then-b-a.new.log ups c.in_ok-a.to_a c.args.join.line c.in_ok-b.to_b c.in_ok-line-2.line c.args.join.left c.args.join.right c.in_ok-a.a c.in_ok-b.b c.in_ok-line-2.ensures.line to_a join c.in_ok-b.ensures.root.1 in
    (c.in_ok-a.a, c.in_ok-b.b, c.in_ok-a.ensures.root.0, c.in_ok-b.ensures.root.0, inr (inr (under_made c.between-then-b-a.new.log.lines ups c.put_under-then-b-a.new.ups c.in_ok-b.b c.in_ok-a.a c.in_ok-line-2.line c.if-b-a.true line c.put_under-then-b-a.ensures)))

pub returns-else-b-a-clause-grew : goal.returns-else-b-a-clause-grew
returns-else-b-a-clause-grew g c = grew_trans c.args.log.now c.root_of.new.log c.root_of-2.new.log c.root_of.ensures.grew c.root_of-2.ensures.grew

pub returns-else-b-a-clause-linked : goal.returns-else-b-a-clause-linked
returns-else-b-a-clause-linked g c = no_change c.root_of-2.new.log.lines c.args.ups.now c.args.join.left c.args.join.right c.in_ok-a.a c.in_ok-b.b c.in_ok-a.ensures.root.0 c.in_ok-b.ensures.root.0 c.if-a-b.false c.if-b-a.false
