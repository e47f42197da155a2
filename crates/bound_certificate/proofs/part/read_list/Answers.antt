use Rattle.std.proofs.Common.{ap, subst}
use Rattle.std.specs.Prelude.{option_and_then}
use Rattle.value_json.specs.Errors.{ReadsAs}
use Rattle.bound_certificate.specs.Shape.{each}
use Rattle.bound_certificate.proofs.EachLaws.{each_read}
use Rattle.bound_certificate.proofs.part.read_list.Goals as goal

pub returns-in-Some-clause-read : goal.returns-in-Some-clause-read
returns-in-Some-clause-read g c =
    let said = g.T.Part.said c.args.form.now in
    subst (ReadsAs (λ v. v.items) c.read_each.result) (ap (option_and_then (each said)) (c.in-Some.ensures))
    (each_read said c.in-Some.items.now.items c.read_each.result (rw (← c.as_slice.ensures.value) c.read_each.ensures.read))
