use Rattle.std.proofs.Common.{subst}
use Rattle.descriptor_types.specs.Labels.{Label, seen_tree}
use Rattle.pr_value.specs.Trees.{Tree}
use Rattle.rule_ast.specs.Seen.{seen_query}
use Rattle.rule_ast.specs.SeenRules.{seen_rules}
use Rattle.prairie_top.specs.Outcome.{CatalogComes, Decides, query_source}
use Rattle.prairie_top.specs.Reading.{Reads, query_grammar}
use Rattle.prairie_top.specs.Run.{Fetches}
use Rattle.prairie_words.specs.Seen.{seen_names}
use Rattle.prairie_top.specs.Sources.{read}
use Rattle.prairie_top.specs.Stages.{IsStopped, IsDecided}
use Rattle.prairie_top.specs.declared.reading.Built.{Built}
use Rattle.prairie_top.specs.declared.status.Status.{Status}
use Rattle.prairie_top.proofs.ChainLaws.{stopped_chain}
use Rattle.prairie_top.proofs.TopLaws.{ok_maps, decides}
use Rattle.prairie_top.proofs.top.with_catalog.Goals as goal

pub returns-in-Ok-clause-comes : goal.returns-in-Ok-clause-comes
returns-in-Ok-clause-comes g c =
    let names = seen_names c.args.names.now in
    let r = seen_rules c.args.under.now.accepted.now.rules in
    let d = c.args.under.now.catalog.now in
    let q = seen_query c.in-Ok.built.query in
    let t = seen_tree c.in-Ok.built.tree in
    let had = c.in-Ok.ensures.had in
    let whole : Fetches = record { held = g.F.Shelf.held c.args.shelf.now; sure = g.F.Shelf.sure c.args.shelf.now; before = g.F.Shelf.faults c.args.shelf.now; after = g.F.Shelf.faults c.source.new.shelf } in
    ok_maps (λ (came : Status). IsDecided r d t came c.decided.new.text) (λ (came : Status). CatalogComes r d names whole came c.decided.new.text) c.decided.result
    (λ came h. read q had.1 (decides r d q whole came c.decided.new.text had.0 (subst (λ (u : Tree Label). IsDecided r d u came c.decided.new.text) c.in-Ok.ensures.sound.0 h))) c.decided.ensures

pub returns-in-Err-clause-comes : goal.returns-in-Err-clause-comes
returns-in-Err-clause-comes g c =
    let names = seen_names c.args.names.now in
    let r = seen_rules c.args.under.now.accepted.now.rules in
    let d = c.args.under.now.catalog.now in
    let whole : Fetches = record { held = g.F.Shelf.held c.args.shelf.now; sure = g.F.Shelf.sure c.args.shelf.now; before = g.F.Shelf.faults c.args.shelf.now; after = g.F.Shelf.faults c.source.new.shelf } in
    let source = query_source r d names.query in
    ok_maps (λ (came : Status). IsStopped source.word source.name c.in-Err.stop came c.stopped.new.text) (λ (came : Status). CatalogComes r d names whole came c.stopped.new.text) c.stopped.result
    (λ came. stopped_chain source (λ (b : Built). Reads (query_grammar r d) (seen_query b.query)) whole (λ q. Decides r d q whole) c.source.result c.in-Err.stop came c.stopped.new.text c.in-Err.is c.source.ensures.had)
    c.stopped.ensures
