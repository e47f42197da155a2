use Rattle.rule_ast.specs.SeenRules.{seen_rules}
use Rattle.rule_types.specs.declared.accepted.Accepted.{Accepted}
use Rattle.prairie_top.specs.Outcome.{RulesComes, PlanComes, rules_source}
use Rattle.prairie_top.specs.Reading.{Reads, rules_grammar}
use Rattle.prairie_top.specs.Run.{Fetches}
use Rattle.prairie_words.specs.Seen.{seen_names}
use Rattle.prairie_top.specs.Stages.{IsStopped}
use Rattle.prairie_top.specs.declared.status.Status.{Status}
use Rattle.prairie_top.proofs.ChainLaws.{read_next, stopped_chain}
use Rattle.prairie_top.proofs.TopLaws.{ok_maps}
use Rattle.prairie_top.proofs.top.planned.Goals as goal

pub returns-in-Ok-clause-comes : goal.returns-in-Ok-clause-comes
returns-in-Ok-clause-comes g c =
    let names = seen_names c.args.names.now in
    let r = seen_rules c.in-Ok.accepted.rules in
    let had = c.in-Ok.ensures.had in
    let later : Fetches = record { held = g.F.Shelf.held c.source.new.shelf; sure = g.F.Shelf.sure c.source.new.shelf; before = g.F.Shelf.faults c.source.new.shelf; after = g.F.Shelf.faults c.with_rules.new.shelf } in
    let whole : Fetches = record { held = g.F.Shelf.held c.args.shelf.now; sure = g.F.Shelf.sure c.args.shelf.now; before = g.F.Shelf.faults c.args.shelf.now; after = g.F.Shelf.faults c.with_rules.new.shelf } in
    ok_maps (λ (came : Status). RulesComes r names later came c.with_rules.new.text) (λ (came : Status). PlanComes names whole came c.with_rules.new.text) c.with_rules.result
    (λ came. read_next (rules_source names.rules) (λ s fetches. RulesComes s names fetches) whole.held later.held whole.sure later.sure whole.before later.before whole.after r came c.with_rules.new.text c.in-Ok.ensures.held c.in-Ok.ensures.sure had.0 had.1)
    c.with_rules.ensures.comes

pub returns-in-Err-clause-comes : goal.returns-in-Err-clause-comes
returns-in-Err-clause-comes g c =
    let names = seen_names c.args.names.now in
    let whole : Fetches = record { held = g.F.Shelf.held c.args.shelf.now; sure = g.F.Shelf.sure c.args.shelf.now; before = g.F.Shelf.faults c.args.shelf.now; after = g.F.Shelf.faults c.source.new.shelf } in
    let source = rules_source names.rules in
    ok_maps (λ (came : Status). IsStopped source.word source.name c.in-Err.stop came c.stopped.new.text) (λ (came : Status). PlanComes names whole came c.stopped.new.text) c.stopped.result
    (λ came. stopped_chain source (λ (a : Accepted). Reads rules_grammar (seen_rules a.rules)) whole (λ s. RulesComes s names whole) c.source.result c.in-Err.stop came c.stopped.new.text c.in-Err.is c.source.ensures.had)
    c.stopped.ensures
