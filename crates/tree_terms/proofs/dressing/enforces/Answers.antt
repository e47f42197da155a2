use Rattle.std.proofs.Common.{refl, arith}
use Rattle.std.proofs.lemmas.List.{length-map}
use Rattle.rule_ast.specs.Seen.{seen_operator}
use Rattle.rule_ast.specs.SeenRules.{seen_rules}
use Rattle.tree_terms.proofs.EnforcerLaws.{enforces-past, enforces-told}
use Rattle.tree_terms.proofs.dressing.enforces.Goals as goal

pub returns-then-op-len : goal.returns-then-op-len
returns-then-op-len c =
    let r = seen_rules c.args.dressing.now.rules.now in
    enforces-told r c.args.dressing.now.rules.now.operators c.args.dressing.now.enforcers.now c.args.op c.is_enforcer.result refl c.args.dressing.now.found c.is_enforcer.ensures

pub returns-else-op-len : goal.returns-else-op-len
returns-else-op-len c =
    let r = seen_rules c.args.dressing.now.rules.now in
    let long = length-map c.args.dressing.now.rules.now.operators seen_operator in
    enforces-past r c.args.op (omega (arith, long, c.if-op-len.false, c.len.ensures))
