-- How many classes and how many expressions there are.
use Rattle.std.specs.Prelude.{ℕ, suc, ◌+◌, List, [], ◌∷◌, nat_eq}
use Rattle.derivation.specs.Slices.{one_if}
use Rattle.memo.specs.declared.expr.Expr.{Expr}

-- the classes that are not merged into older ones, where the first expression has number k
abbrev pub classes_from : {L : Type 0} → ℕ → List (Expr L) → ℕ
classes_from k [] = 0
classes_from k (e ∷ es) = one_if (nat_eq e.class k) + classes_from (suc k) es

-- the expressions that are there
abbrev pub lives : {L : Type 0} → List (Expr L) → ℕ
lives [] = 0
lives (e ∷ es) = one_if e.live + lives es
