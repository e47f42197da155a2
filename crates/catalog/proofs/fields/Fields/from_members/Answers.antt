use Rattle.std.proofs.Common.{Ok, Err, refl}
use Rattle.std.proofs.lemmas.Result.{err_from_is_err_and}
use Rattle.catalog.specs.Shape.{field_in, fields_in}
use Rattle.catalog.proofs.PartLaws.{parts_each}
use Rattle.catalog.proofs.fields.Fields.from_members.Goals as goal

pub returns-in_err-by_name : goal.returns-in_err-by_name
returns-in_err-by_name c =
    let p = err_from_is_err_and c.from_residual.result c.from_residual.ensures.1 in
    rw (p.1, p.2) (parts_each field_in fields_in refl (λ _ _ _. refl) c.args.members.now.entries (Err c.in_err-by_name.field-0.0) c.in_err-by_name.ensures)

pub returns : goal.returns
returns c = parts_each field_in fields_in refl (λ _ _ _. refl) c.args.members.now.entries (Ok c.in_ok-by_name.by_name) c.in_ok-by_name.ensures
