use Rattle.memo.proofs.GrewLaws.{line_still}
use Rattle.memo.proofs.StartLaws.{none_owned, started_pass, started_more}
use Rattle.memo.proofs.start.add_owned.Goals as goal

pub returns-in-None-clause-started : goal.returns-in-None-clause-started
returns-in-None-clause-started g c = started_pass c.args.own.now c.args.exprs.now.items c.args.n (none_owned c.args.own.now c.args.n c.in-None.ensures) c.requires.started

pub returns-in_ok-add_node-in-Some-clause-started : goal.returns-in_ok-add_node-in-Some-clause-started
returns-in_ok-add_node-in-Some-clause-started g c =
    let new = c.add_node.new in
    started_more new.log.terms new.log.lines new.known.items c.args.own.now c.args.exprs.now.items new.exprs.items c.args.n c.in-Some.line c.in-Some.ensures
    (line_still c.args.log.now new.log c.in-Some.line c.args.n c.args.n c.in_ok-add_node-in-Some.ensures.grew (c.requires.lines c.args.n c.in-Some.line c.in-Some.ensures)) c.in_ok-add_node-in-Some.ensures.kept.forest c.in_ok-add_node-in-Some.ensures.added
    c.requires.started
