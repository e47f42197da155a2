use Rattle.std.proofs.Common.{arith}
use Rattle.rule_ast.specs.Seen.{seen_irule}
use Rattle.rule_ast.specs.Roles.{leads_to_null}
use Rattle.enforcer_find.proofs.PlaceLaws.{places-pushed}
use Rattle.enforcer_find.proofs.enforcers.null_rules.Goals as goal

pub loop-place-preserved : goal.loop-place-preserved
loop-place-preserved c =
    places-pushed (leads_to_null c.args.op.now) seen_irule c.args.rules.now c.loop-place.place c.index-rules-place.result
    c.loop-place.places c.push_where.new.out c.leads_to_null-leads.result (omega arith) c.index-rules-place.is c.loop-place.invariant
    c.leads_to_null-leads.ensures c.in_ok-push_where.ensures
