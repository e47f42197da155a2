-- A memo in the midst of its settling.
use Rattle.std.specs.Prelude.{◌≡◌, ℕ, true, List, Option, Some, length, slice_get, All}
use Rattle.derivation.specs.declared.reason.Line.{Line}
use Rattle.derivation.specs.declared.terms.Term.{Term}
use Rattle.memo.specs.declared.expr.Expr.{Expr}
use Rattle.memo.specs.declared.expr.Known.{Known}
use Rattle.memo.specs.declared.expr.Join.{Join}
use Rattle.memo.specs.Forest.{IsOneClass, IsForest}
use Rattle.memo.specs.Kept.{IsRoot, Indexes, AreApart}
use Rattle.memo.specs.Memos.{MemoValue, IsMerged}
use Rattle.memo.specs.Merge.{ups_of, AreJoinable}
use Rattle.memo.specs.Rebuild.{AreAlikeOver}
use Rattle.memo.specs.Union.{IsTied}

-- each expression has an alike one that is there, in its class up to the joins
abbrev pub IsWhole : {L : Type 0} → List (Expr L) → List Join → Type 0
IsWhole {L} exprs joins =
    (i : ℕ) (e : Expr L) → slice_get exprs i ≡ Some e
    → (j : ℕ) × (f : Expr L) × (slice_get exprs j ≡ Some f) × (f.live ≡ true) × AreAlikeOver exprs f e × IsTied (ups_of exprs) joins j i

-- what holds of the numbers alone
pub record IsTurning {L : Type 0} (terms : List (Term L)) (lines : List Line) (exprs : List (Expr L)) (known : List (Option Known)) (entries : List (Term L × ℕ)) (joins : List Join) : Type 0 where
  pub forest : IsForest terms lines exprs known
  pub indexed : Indexes entries exprs (length exprs)
  pub apart : AreApart exprs (length exprs)
  pub canonical : (i : ℕ) (e : Expr L) → slice_get exprs i ≡ Some e → e.live ≡ true → All (IsRoot exprs) e.inputs
  pub whole : IsWhole exprs joins
  pub joinable : AreJoinable lines exprs joins

-- what is merged so far has to be, and what has to be is merged up to the joins
pub record IsMerging {L S : Type 0} (old : MemoValue L S) (exprs : List (Expr L)) (joins : List Join) : Type 0 where
  pub long : length exprs ≡ length old.exprs
  pub stays : (i : ℕ) (e : Expr L) → slice_get old.exprs i ≡ Some e → (e' : Expr L) × (slice_get exprs i ≡ Some e') × AreAlikeOver exprs e' e
  pub merges : (x y : ℕ) → IsOneClass old.exprs x y → IsOneClass exprs x y
  pub given : (i : ℕ) (j : Join) → slice_get old.joins i ≡ Some j → IsTied (ups_of exprs) joins j.left j.right
  pub sound : (x y : ℕ) → IsOneClass exprs x y → IsMerged old x y
  pub due : (i : ℕ) (j : Join) → slice_get joins i ≡ Some j → IsMerged old j.left j.right
