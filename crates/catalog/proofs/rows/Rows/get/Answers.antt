use Rattle.std.proofs.Common.{Some, None, ap, ◌∙◌}
use Rattle.std.specs.Option.{option_copied}
use Rattle.catalog.specs.Contents.{Row, value_at}
use Rattle.catalog.proofs.RowLaws.{value_at_found}
use Rattle.catalog.proofs.rows.Rows.get.Goals as goal

pub returns-in_err-row-clause-value : goal.returns-in_err-row-clause-value
returns-in_err-row-clause-value c =
    ap option_copied c.from_residual.ensures
    ∙ value_at_found c.as_slice.result.now c.args.keys.now None c.in_err-row.ensures
    ∙ ap (λ rs. value_at rs c.args.keys.now) (c.as_slice.ensures.value ∙ c.self.view_is)

pub returns-clause-value : goal.returns-clause-value
returns-clause-value c =
    ap (λ (r : Row). Some r.value) c.row.view_is
    ∙ value_at_found c.as_slice.result.now c.args.keys.now (Some c.in_ok-row.row.now) c.in_ok-row.ensures
    ∙ ap (λ rs. value_at rs c.args.keys.now) (c.as_slice.ensures.value ∙ c.self.view_is)
