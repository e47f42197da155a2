-- What is appended of a piece is a prefix of it.
use Rattle.std.proofs.Common.{◌≡◌, ℕ, List, ◌++◌, length, min, Option, Some, None, sym, ap, ◌∙◌, arith}
use Rattle.std.proofs.Math.Nat.{min-le_right}
use Rattle.std.proofs.Math.Seq.{take-length}
use Rattle.std.proofs.lemmas.List.{take_min}
use Rattle.pr_outside.specs.SinkState.{appended}
use Rattle.pr_outside.specs.Written.{AppendsPrefix}

pub appended_is_prefix : (taken : Option ℕ) (piece old new : List ℕ) → new ≡ old ++ appended taken piece → AppendsPrefix (Some old) piece (Some new)
appended_is_prefix None piece old new e = (length piece, omega arith, e ∙ ap (λ p. old ++ p) (sym (take-length piece)))
appended_is_prefix (Some taken) piece old new e =
    (min taken (length piece), min-le_right taken (length piece), e ∙ ap (λ p. old ++ p) (sym (take_min taken piece)))
