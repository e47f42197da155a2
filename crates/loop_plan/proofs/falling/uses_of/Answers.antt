use Rattle.std.proofs.Common.{◌≡◌, ◌<◌, length, Contains, slice_index_or, subst, arith}
use Rattle.best_plan.proofs.BoundLaws.{all_at}
use Rattle.loop_plan.specs.Reached.{inputs}
use Rattle.loop_plan.specs.Uses.{IsUses, uses_at}
use Rattle.loop_plan.specs.declared.way.Way.{Way}
use Rattle.loop_plan.proofs.ListLaws.{get_at}
use Rattle.loop_plan.proofs.UsesLaws.{alternative_at, inputs_all, step_room, step_is, step_listed, uses_more}
use Rattle.loop_plan.proofs.falling.uses_of.Goals as goal

abbrev none : Way
none = record { goal = 0; k = 0 }

pub input_count-j-end-requires : goal.input_count-j-end-requires
input_count-j-end-requires g c = record {
  alternative = alternative_at (g.C.Choices.graph c.args.choices.now) c.args.ways.now c.requires.alternatives c.loop-i.i none (omega arith);
}

pub add-requires : goal.add-requires
add-requires g c =
    let m = g.C.Choices.graph c.args.choices.now in let ws = c.args.ways.now in let w = slice_index_or ws c.loop-i.i none in
    let is = alternative_at m ws c.requires.alternatives c.loop-i.i none (omega arith) in
    let there : c.input.result < m.goals = all_at (λ h. h < m.goals) (inputs m w) c.loop-j.j c.input.result ((g.met.C.Choices.lawful c.args.choices.now).inputs_there w.goal w.k is) c.input.ensures in
    record { room = omega (arith, there, c.loop-j.invariant.room) }

pub loop-j-preserved : goal.loop-j-preserved
loop-j-preserved g c =
    let m = g.C.Choices.graph c.args.choices.now in let ws = c.args.ways.now in let w = slice_index_or ws c.loop-i.i none in
    let is = alternative_at m ws c.requires.alternatives c.loop-i.i none (omega arith) in
    let inv = c.loop-j.invariant in
    let there : c.input.result < m.goals = all_at (λ h. h < m.goals) (inputs m w) c.loop-j.j c.input.result ((g.met.C.Choices.lawful c.args.choices.now).inputs_there w.goal w.k is) c.input.ensures in
    let room : c.input.result < length c.loop-j.uses = omega (arith, there, inv.room) in
    record {
      room = omega (arith, inv.room, step_room m ws c.loop-i.i c.loop-j.uses c.add.new.self w c.loop-j.j c.input.result c.input.ensures is room c.in_ok-add.ensures);
      is = step_is m ws c.loop-i.i c.loop-j.uses c.add.new.self w c.loop-j.j c.input.result c.input.ensures is room c.in_ok-add.ensures inv.is;
      listed = step_listed m ws c.loop-i.i c.loop-j.uses c.add.new.self w c.loop-j.j c.input.result c.input.ensures is room c.in_ok-add.ensures inv.listed;
    }

pub loop-i-preserved : goal.loop-i-preserved
loop-i-preserved g c =
    let m = g.C.Choices.graph c.args.choices.now in let ws = c.args.ways.now in let w = slice_index_or ws c.loop-i.i none in
    let inv = c.loop-j.invariant in
    let all = inputs_all (λ h. Contains (uses_at c.loop-j.uses h) w) (inputs m w) c.loop-j.j (omega (arith, c.input_count-j-end.ensures, c.loop-j-test.false)) inv.listed in
    record { room = inv.room; is = uses_more m ws c.loop-i.i c.loop-j.uses w (get_at ws c.loop-i.i none (omega arith)) all inv.is }

pub returns : goal.returns
returns g c =
    let m = g.C.Choices.graph c.args.choices.now in
    let all : c.loop-i.i ≡ length c.args.ways.now = omega (arith, c.loop-i.auto.i-end, c.loop-i-test.false) in
    subst (λ n. IsUses m c.args.ways.now n c.loop-i.uses) all c.loop-i.invariant.is
