-- The state of a sink in memory that never fails.
use Rattle.std.specs.Prelude.{ℕ, List, refl}
use Rattle.std.specs.Coded.{Coded, code_by, coded×, coded_list, coded_ℕ}

-- what is written, and the number of puts so far
pub record SureState : Type 0 where
  pub written : List ℕ
  pub calls : ℕ

abbrev pub sure_code : Coded SureState
sure_code = code_by (List ℕ × ℕ) (coded× (coded_list coded_ℕ) coded_ℕ) (λ s. (s.written, s.calls)) (λ p. record { written = p.0; calls = p.1 }) (λ _. refl)
