use Rattle.std.proofs.Common.{rules, ◌≡◌, length, sym, subst}
use Rattle.memo.specs.Learn.{AreHomed}
use Rattle.memo.proofs.LearnLaws.{homed}
use Rattle.memo.proofs.StartLaws.{node_added}
use Rattle.memo.proofs.start.add_node.Goals as goal

pub classes_known-requires : goal.classes_known-requires
classes_known-requires g c = subst AreHomed (sym c.as_slice.ensures.value) (homed c.args.log.now.terms c.args.log.now.lines c.args.exprs.now.items c.args.known.now.items c.requires.kept.forest)

pub returns-then-added-class-clause-added : goal.returns-then-added-class-clause-added
returns-then-added-class-clause-added g c =
    let end : c.in_ok-added.added ≡ length c.args.exprs.now.items = (let h = c.len-class.ensures in let t = c.if-added-class.true in search rules) in
    node_added c.args.exprs.now.items c.add_in.new.exprs.items c.in_ok-label.label c.as_slice-4.result.now c.args.line c.in_ok-added.added end c.in_ok-added.ensures.added
