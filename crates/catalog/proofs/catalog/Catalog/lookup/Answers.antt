use Rattle.std.proofs.Common.{Some, None, ap, ◌∙◌}
use Rattle.std.specs.Option.{option_copied}
use Rattle.catalog.specs.Contents.{Catalog, value_at, lookup}
use Rattle.catalog.proofs.TableLaws.{rows_found}
use Rattle.catalog.proofs.catalog.Catalog.lookup.Goals as goal

pub returns-in_err-table-clause-value : goal.returns-in_err-table-clause-value
returns-in_err-table-clause-value c =
    ap option_copied c.from_residual.ensures
    ∙ ap (λ rs. value_at rs c.args.keys.now) (rows_found c.self.inside.tables c.args.table.now None c.in_err-table.ensures)
    ∙ ap (λ (d : Catalog). lookup d c.args.table.now c.args.keys.now) c.self.view_is

pub returns-clause-value : goal.returns-clause-value
returns-clause-value c =
    c.get-2.ensures.value
    ∙ ap (λ rs. value_at rs c.args.keys.now) (c.rows.ensures ∙ rows_found c.self.inside.tables c.args.table.now (Some c.in_ok-table.table.now) c.in_ok-table.ensures)
    ∙ ap (λ (d : Catalog). lookup d c.args.table.now c.args.keys.now) c.self.view_is
