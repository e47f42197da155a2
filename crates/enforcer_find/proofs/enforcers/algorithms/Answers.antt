use Rattle.std.proofs.Common.{arith}
use Rattle.rule_ast.specs.Seen.{seen_irule}
use Rattle.enforcer_find.specs.Enforcers.{leads_to_algorithm}
use Rattle.enforcer_find.proofs.PlaceLaws.{places-pushed}
use Rattle.enforcer_find.proofs.enforcers.algorithms.Goals as goal

pub loop-place-preserved : goal.loop-place-preserved
loop-place-preserved c =
    places-pushed (leads_to_algorithm c.args.op.now) seen_irule c.args.rules.now c.loop-place.place c.index-rules-place.result
    c.loop-place.places c.push_where.new.out c.leads_to_algorithm-leads.result (omega arith) c.index-rules-place.is c.loop-place.invariant
    c.leads_to_algorithm-leads.ensures c.in_ok-push_where.ensures
