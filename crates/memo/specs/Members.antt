-- The expressions of a class.
use Rattle.std.specs.Prelude.{◌≡◌, ◌≢◌, ◌⊎◌, ℕ, suc, ◌<◌, ◌≤◌, Bool, true, false, ◌&&◌, Option, List, [], ◌∷◌, ◌++◌, length, Some, slice_get, nat_eq, if◌then◌else◌}
use Rattle.derivation.specs.declared.reason.Line.{Line}
use Rattle.derivation.specs.declared.terms.Term.{Term}
use Rattle.memo.specs.declared.expr.Expr.{Expr}
use Rattle.memo.specs.declared.expr.Known.{Known}
use Rattle.memo.specs.declared.expr.Join.{Join}
use Rattle.memo.specs.Kept.{IsMemo}

-- the numbers of the expressions of a class that are there, where the first expression has number k
abbrev pub exprs_of : {L : Type 0} → ℕ → ℕ → List (Expr L) → List ℕ
exprs_of c k [] = []
exprs_of c k (e ∷ es) = if e.live && nat_eq e.class c then k ∷ exprs_of c (suc k) es else exprs_of c (suc k) es

-- for each class below n, its expressions
abbrev pub AreMembers : {L : Type 0} → List (List ℕ) → ℕ → List (Expr L) → Type 0
AreMembers rows n exprs = (length rows ≡ n) × ((c : ℕ) → c < n → slice_get rows c ≡ Some (exprs_of c 0 exprs))

-- what a memo that is not spoilt keeps, and the expressions of each class
pub record IsGrouped {L : Type 0} (terms : List (Term L)) (lines : List Line) (exprs : List (Expr L)) (known : List (Option Known)) (entries : List (Term L × ℕ)) (joins : List Join) (rows : List (List ℕ)) : Type 0 where
  pub memo : IsMemo terms lines exprs known entries joins
  pub members : AreMembers rows (length exprs) exprs

-- the classes are numbers of expressions
abbrev pub AreClasses : {L : Type 0} → List (Expr L) → Type 0
AreClasses {L} exprs = (i : ℕ) (e : Expr L) → slice_get exprs i ≡ Some e → e.class < length exprs

-- a number behind others, where it holds
abbrev pub with_if : Bool → ℕ → List ℕ → List ℕ
with_if true n ns = ns ++ n ∷ []
with_if false n ns = ns

-- nothing below n
abbrev pub AreNone : List (List ℕ) → ℕ → Type 0
AreNone rows n = (length rows ≡ n) × ((c : ℕ) → c < n → slice_get rows c ≡ Some [])

-- a number more in one row, where it holds
pub record IsPutAt (old new : List (List ℕ)) (c n : ℕ) (holds : Bool) : Type 0 where
  pub long : length new ≡ length old
  pub here : (ns : List ℕ) → slice_get old c ≡ Some ns → slice_get new c ≡ Some (with_if holds n ns)
  pub rest : (d : ℕ) → c ≢ d → slice_get new d ≡ slice_get old d

-- a row of its own number more, where there are fewer than n
abbrev pub IsExtended : List (List ℕ) → List (List ℕ) → ℕ → Type 0
IsExtended old new n = ((length old < n) × (new ≡ old ++ (length old ∷ []) ∷ [])) ⊎ ((n ≤ length old) × (new ≡ old))
