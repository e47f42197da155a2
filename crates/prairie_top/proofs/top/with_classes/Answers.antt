use Rattle.rule_ast.specs.SeenRules.{seen_rules}
use Rattle.prairie_top.specs.Outcome.{CatalogComes, RulesComes, catalog_source}
use Rattle.prairie_top.specs.Reading.{ReadsCatalog}
use Rattle.prairie_top.specs.Run.{Fetches}
use Rattle.prairie_words.specs.Seen.{seen_names}
use Rattle.prairie_top.specs.Stages.{IsStopped}
use Rattle.prairie_top.specs.declared.status.Status.{Status}
use Rattle.prairie_top.proofs.ChainLaws.{read_next, stopped_chain}
use Rattle.prairie_top.proofs.TopLaws.{ok_maps}
use Rattle.prairie_top.proofs.top.with_classes.Goals as goal

pub returns-in-Ok-clause-comes : goal.returns-in-Ok-clause-comes
returns-in-Ok-clause-comes g c =
    let names = seen_names c.args.names.now in
    let r = seen_rules c.args.accepted.now.rules in
    let had = c.in-Ok.ensures.had in
    let later : Fetches = record { held = g.F.Shelf.held c.source.new.shelf; sure = g.F.Shelf.sure c.source.new.shelf; before = g.F.Shelf.faults c.source.new.shelf; after = g.F.Shelf.faults c.with_catalog.new.shelf } in
    let whole : Fetches = record { held = g.F.Shelf.held c.args.shelf.now; sure = g.F.Shelf.sure c.args.shelf.now; before = g.F.Shelf.faults c.args.shelf.now; after = g.F.Shelf.faults c.with_catalog.new.shelf } in
    ok_maps (λ (came : Status). CatalogComes r c.in-Ok.catalog names later came c.with_catalog.new.text) (λ (came : Status). RulesComes r names whole came c.with_catalog.new.text) c.with_catalog.result
    (λ came. read_next (catalog_source names.catalog) (λ d fetches. CatalogComes r d names fetches) whole.held later.held whole.sure later.sure whole.before later.before whole.after c.in-Ok.catalog came c.with_catalog.new.text c.in-Ok.ensures.held c.in-Ok.ensures.sure had.0 had.1)
    c.with_catalog.ensures.comes

pub returns-in-Err-clause-comes : goal.returns-in-Err-clause-comes
returns-in-Err-clause-comes g c =
    let names = seen_names c.args.names.now in
    let r = seen_rules c.args.accepted.now.rules in
    let whole : Fetches = record { held = g.F.Shelf.held c.args.shelf.now; sure = g.F.Shelf.sure c.args.shelf.now; before = g.F.Shelf.faults c.args.shelf.now; after = g.F.Shelf.faults c.source.new.shelf } in
    let source = catalog_source names.catalog in
    ok_maps (λ (came : Status). IsStopped source.word source.name c.in-Err.stop came c.stopped.new.text) (λ (came : Status). RulesComes r names whole came c.stopped.new.text) c.stopped.result
    (λ came. stopped_chain source ReadsCatalog whole (λ d. CatalogComes r d names whole) c.source.result c.in-Err.stop came c.stopped.new.text c.in-Err.is c.source.ensures.had)
    c.stopped.ensures
