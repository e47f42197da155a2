-- What contracts see of a memo, and which classes a settling leaves.
use Rattle.std.specs.Prelude.{◌≡◌, ◌↔◌, ◌⊎◌, ◌++◌, length, Result, Ok, Err, ℕ, ◌≤◌, Bool, true, List, [], ◌∷◌, Some, slice_get}
use Rattle.std.specs.List.{AllZip}
use Rattle.pr_value.specs.Trees.{Tree}
use Rattle.derivation.specs.Log.{LogValue}
use Rattle.derivation.specs.Stands.{Stands}
use Rattle.derivation.specs.declared.reason.Line.{Line}
use Rattle.memo.specs.declared.expr.Expr.{Expr}
use Rattle.memo.specs.declared.expr.Join.{Join}
use Rattle.memo.specs.declared.memo.MemoError.{MemoError}
use Rattle.memo.specs.declared.memo.MemoError.TheVariants as errors
use Rattle.memo.specs.Forest.{IsOneClass, IsTreeOf}
use Rattle.memo.specs.Equates.{Equates}

pub record MemoValue (L S : Type 0) : Type 0 where
  pub log : LogValue L S
  pub exprs : List (Expr L)
  pub joins : List Join
  pub spoilt : Bool

module _ {L S : Type 0} (memo : MemoValue L S) where
  -- an expression that is there, by its number
  abbrev pub IsExpr : ℕ → Expr L → Type 0
  IsExpr i e = (slice_get memo.exprs i ≡ Some e) × (e.live ≡ true)

  -- the label of the oldest expression of a class, which gives the class its number
  abbrev pub IsViewOf : ℕ → L → Type 0
  IsViewOf c label =
      (e r : Expr L) × (slice_get memo.exprs c ≡ Some e) × (slice_get memo.exprs e.class ≡ Some r) × (label ≡ r.label)
      × ((i : ℕ) → IsOneClass memo.exprs i c → e.class ≤ i)

  -- the classes that are one in the least merge: those that are one, those that are joined, and those of expressions that are alike over them
  mutual
    pub data IsMerged : ℕ → ℕ → Type 0 where
      was : {x y : ℕ} → IsOneClass memo.exprs x y → IsMerged x y
      joined : (j : Join) (i : ℕ) → slice_get memo.joins i ≡ Some j → IsMerged j.left j.right
      alike : {x y : ℕ} (a b : Expr L) → slice_get memo.exprs x ≡ Some a → slice_get memo.exprs y ≡ Some b → a.label ≡ b.label → AreMerged a.inputs b.inputs → IsMerged x y
      turned : {x y : ℕ} → IsMerged x y → IsMerged y x
      chained : {x y z : ℕ} → IsMerged x y → IsMerged y z → IsMerged x z

    pub data AreMerged : List ℕ → List ℕ → Type 0 where
      none : AreMerged [] []
      more : {x y : ℕ} {xs ys : List ℕ} → IsMerged x y → AreMerged xs ys → AreMerged (x ∷ xs) (y ∷ ys)

  -- no two expressions are alike
  abbrev pub IsSettled : Type 0
  IsSettled = (i j : ℕ) (a b : Expr L) → IsExpr i a → IsExpr j b → a.label ≡ b.label → AllZip (IsOneClass memo.exprs) a.inputs b.inputs → i ≡ j

  -- each expression has a line whose right tree has its label over trees of its input classes
  abbrev pub HasProvedLines : Type 0
  HasProvedLines = (i : ℕ) (e : Expr L) → IsExpr i e → (l : Line) × (t : Tree L) × (slice_get memo.log.lines e.line ≡ Some l) × Stands memo.log.terms l.right t × IsTreeOf memo.exprs i t

  -- any two trees of one class are equated
  abbrev pub ClassesAreEquated : Type 0
  ClassesAreEquated = (c : ℕ) (e : Expr L) (t u : Tree L) → slice_get memo.exprs c ≡ Some e → IsTreeOf memo.exprs c t → IsTreeOf memo.exprs c u → Equates memo.log.terms memo.log.lines t u

-- what `settle` does
abbrev pub Settles : {L S : Type 0} → MemoValue L S → MemoValue L S → Type 0
Settles old new = IsSettled new × (new.joins ≡ []) × ((x y : ℕ) → IsOneClass new.exprs x y ↔ IsMerged old x y)

module _ {L S : Type 0} (old : MemoValue L S) where
  -- an expression that is there is alike
  abbrev pub IsAlikeAt : L → List ℕ → ℕ → Type 0
  IsAlikeAt label classes i = (e : Expr L) × IsExpr old i e × (e.label ≡ label) × AllZip (IsOneClass old.exprs) e.inputs classes

  -- the class of the alike expression; where there is none, a new one
  abbrev pub Adds : MemoValue L S → L → List ℕ → ℕ → ℕ → Type 0
  Adds new label classes line c = (new.joins ≡ old.joins)
      × (((new.exprs ≡ old.exprs) × ((i : ℕ) × IsAlikeAt label classes i × IsOneClass old.exprs i c))
      ⊎ ((e : Expr L) × (new.exprs ≡ old.exprs ++ e ∷ []) × (c ≡ length old.exprs) × (e.class ≡ c) × (e.label ≡ label) × AllZip (IsOneClass old.exprs) e.inputs classes × (e.line ≡ line) × (e.live ≡ true) × ((i : ℕ) → IsAlikeAt label classes i → ⊥)))

  -- the join waits for the next settling
  abbrev pub Notes : MemoValue L S → ℕ → ℕ → Type 0
  Notes new a b = (new.exprs ≡ old.exprs) × ((j : Join) × (new.joins ≡ old.joins ++ j ∷ []) × IsOneClass old.exprs j.left a × IsOneClass old.exprs j.right b)

-- `spoilt` after an answer
abbrev pub spoilt_by : {A : Type 0} → Bool → Result A MemoError → Bool
spoilt_by b (Ok x) = b
spoilt_by b (Err errors.Memory) = true
spoilt_by b (Err errors.Spoilt) = b
