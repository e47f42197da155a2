use Rattle.memo.proofs.KeepLaws.{memo_kept}
use Rattle.memo.proofs.GrewLaws.{push_kept}
use Rattle.memo.proofs.memo.Memo.push.Goals as goal

pub invariant_of-self : goal.invariant_of-self
invariant_of-self g c sound =
    let log = c.self.inside.log in
    let new = c.push.new.self in
    record {
      memo = memo_kept log.terms new.terms log.lines new.lines c.self.inside.exprs.items c.self.inside.known.items c.self.inside.index.entries c.self.inside.joins.items c.push.ensures.kept
          (push_kept (g.S.Steps.stepped log.steps) new.terms log.query log.lines new.lines c.args.why c.push.result c.push.ensures.ok c.push.ensures.err) (c.self.invariant sound).memo;
      members = (c.self.invariant sound).members;
    }

pub returns-clause-bad : goal.returns-clause-bad
returns-clause-bad g c = rw (← c.self.view_is) c.push.ensures.bad
