-- What a memo that is not spoilt keeps.
use Rattle.std.specs.Prelude.{◌≡◌, ℕ, ◌<◌, true, List, Option, Some, length, slice_get, All}
use Rattle.std.specs.List.{AllZip}
use Rattle.derivation.specs.Table.{term}
use Rattle.derivation.specs.declared.reason.Line.{Line}
use Rattle.derivation.specs.declared.terms.Term.{Term}
use Rattle.memo.specs.declared.expr.Expr.{Expr}
use Rattle.memo.specs.declared.expr.Known.{Known}
use Rattle.memo.specs.declared.expr.Join.{Join}
use Rattle.memo.specs.Forest.{IsOneClass, IsForest}
use Rattle.memo.specs.Index.{IsEntry}
use Rattle.memo.specs.Merge.{AreJoinable}

-- a class that is its own root
abbrev pub IsRoot : {L : Type 0} → List (Expr L) → ℕ → Type 0
IsRoot {L} exprs c = (e : Expr L) × (slice_get exprs c ≡ Some e) × (e.class ≡ c)

-- the index has each expression that is there below n, under its label and input classes, and no other
abbrev pub Indexes : {L : Type 0} → List (Term L × ℕ) → List (Expr L) → ℕ → Type 0
Indexes {L} entries exprs n =
    ((i : ℕ) (e : Expr L) → i < n → slice_get exprs i ≡ Some e → e.live ≡ true → IsEntry entries (term e.label e.inputs) i)
    × ((key : Term L) (i : ℕ) → IsEntry entries key i
    → (i < n) × ((e : Expr L) × (slice_get exprs i ≡ Some e) × (e.live ≡ true) × (key ≡ term e.label e.inputs)))

-- no two that are there below n have one label over the same inputs
abbrev pub AreApart : {L : Type 0} → List (Expr L) → ℕ → Type 0
AreApart {L} exprs n =
    (i j : ℕ) (a b : Expr L) → i < n → j < n → slice_get exprs i ≡ Some a → slice_get exprs j ≡ Some b → a.live ≡ true
    → b.live ≡ true → a.label ≡ b.label → a.inputs ≡ b.inputs → i ≡ j

pub record IsMemo {L : Type 0} (terms : List (Term L)) (lines : List Line) (exprs : List (Expr L)) (known : List (Option Known)) (entries : List (Term L × ℕ)) (joins : List Join) : Type 0 where
  pub forest : IsForest terms lines exprs known
  pub indexed : Indexes entries exprs (length exprs)
  pub apart : AreApart exprs (length exprs)
  pub canonical : (i : ℕ) (e : Expr L) → slice_get exprs i ≡ Some e → e.live ≡ true → All (IsRoot exprs) e.inputs
  pub complete : (i : ℕ) (e : Expr L) → slice_get exprs i ≡ Some e → (j : ℕ) × (f : Expr L) × (slice_get exprs j ≡ Some f) × (f.live ≡ true) × (f.label ≡ e.label) × AllZip (IsOneClass exprs) f.inputs e.inputs × IsOneClass exprs j i
  pub joinable : AreJoinable lines exprs joins
