use Rattle.std.proofs.Common.{Some, None, ap, ◌∙◌}
use Rattle.std.specs.Option.{option_copied}
use Rattle.catalog.specs.Contents.{Field, field}
use Rattle.catalog.proofs.FileLaws.{field_found}
use Rattle.catalog.proofs.fields.Fields.get.Goals as goal

pub returns-in_err-field-clause-value : goal.returns-in_err-field-clause-value
returns-in_err-field-clause-value c =
    ap option_copied c.from_residual.ensures
    ∙ field_found c.self.inside.by_name c.args.name.now None c.in_err-field.ensures
    ∙ ap (λ fs. field fs c.args.name.now) c.self.view_is

pub returns-clause-value : goal.returns-clause-value
returns-clause-value c =
    ap (λ (f : Field). Some f.value) c.field.view_is
    ∙ field_found c.self.inside.by_name c.args.name.now (Some c.in_ok-field.field.now) c.in_ok-field.ensures
    ∙ ap (λ fs. field fs c.args.name.now) c.self.view_is
