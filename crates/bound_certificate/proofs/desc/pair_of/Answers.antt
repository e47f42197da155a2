use Rattle.std.proofs.Common.{arith}
use Rattle.std.proofs.lemmas.Bool.Decides.{nat_tests}
use Rattle.bound_certificate.proofs.PairLaws.{not_a_pair}
use Rattle.bound_certificate.proofs.desc.pair_of.Goals as goal
use Rattle.bound_certificate.proofs.desc.pair_of.Goals.{in_default-via-then-items-lt2, in_default-via-else-items-lt2+else-items-lt3}

pub returns-in_default : goal.returns-in_default
returns-in_default c =
    not_a_pair c.args.form.now c.args.items.now (λ two. elim c.in_default.branch [
      | in_default-via-then-items-lt2 w ↦ grind (arith, nat_tests)
      | in_default-via-else-items-lt2+else-items-lt3 w ↦ grind (arith, nat_tests)
    ])
