-- An expression more, and a join more.
use Rattle.std.specs.Prelude.{◌≡◌, ◌⊎◌, ℕ, true, List, [], ◌∷◌, ◌++◌, Option, Some, length, slice_get}
use Rattle.std.specs.List.{AllZip}
use Rattle.derivation.specs.declared.reason.Line.{Line}
use Rattle.derivation.specs.declared.terms.Term.{Term}
use Rattle.memo.specs.declared.expr.Expr.{Expr}
use Rattle.memo.specs.declared.expr.Known.{Known}
use Rattle.memo.specs.declared.expr.Join.{Join}
use Rattle.memo.specs.Forest.{HasLine, IsOneClass, IsKnownIn}
use Rattle.memo.specs.Rebuild.{IsRootClass}

-- the term has the label over terms that are known in the classes
abbrev pub IsFit : {L : Type 0} → List (Term L) → List (Expr L) → List (Option Known) → ℕ → L → List ℕ → Type 0
IsFit {L} terms exprs known n label classes =
    (t : Term L) × (slice_get terms n ≡ Some t) × (t.label ≡ label) × AllZip (IsKnownIn exprs known) t.inputs classes

-- an expression more, which is its own class
abbrev pub IsPut : {L : Type 0} → List (Expr L) → List (Expr L) → L → List ℕ → ℕ → ℕ → Type 0
IsPut {L} old new label inputs line tree =
    (e : Expr L) × (new ≡ old ++ e ∷ []) × (e.class ≡ length old) × (e.label ≡ label) × (e.inputs ≡ inputs)
    × (e.line ≡ line) × (e.tree ≡ tree) × (e.live ≡ true)

-- an expression that is there has the label over the same classes
abbrev pub IsAlikeIn : {L : Type 0} → List (Expr L) → L → List ℕ → ℕ → Type 0
IsAlikeIn {L} exprs label classes i =
    (e : Expr L) × (slice_get exprs i ≡ Some e) × (e.live ≡ true) × (e.label ≡ label) × AllZip (IsOneClass exprs) e.inputs classes

-- a new expression, which is its own class
abbrev pub IsNew : {L : Type 0} → List (Expr L) → List (Expr L) → L → List ℕ → ℕ → Type 0
IsNew {L} old new label classes line =
    (e : Expr L) × (new ≡ old ++ e ∷ []) × (e.class ≡ length old) × (e.label ≡ label)
    × AllZip (IsOneClass old) e.inputs classes × (e.line ≡ line) × (e.live ≡ true)
    × ((i : ℕ) → IsAlikeIn old label classes i → ⊥)

-- the class of the expression that is alike; where there is none, a new one
abbrev pub AddsExpr : {L : Type 0} → List (Expr L) → List (Expr L) → L → List ℕ → ℕ → ℕ → Type 0
AddsExpr {L} old new label classes line c =
    ((new ≡ old) × ((i : ℕ) × IsAlikeIn old label classes i × IsOneClass old i c))
    ⊎ ((c ≡ length old) × IsNew old new label classes line)

-- one join more, of these classes
abbrev pub IsJoinOf : {L : Type 0} → List Line → List (Expr L) → List Join → List Join → ℕ → ℕ → Type 0
IsJoinOf {L} lines exprs old new a b =
    (j : Join) × (new ≡ old ++ j ∷ []) × IsOneClass exprs j.left a × IsOneClass exprs j.right b
    × ((x y : Expr L) × (slice_get exprs j.left ≡ Some x) × (slice_get exprs j.right ≡ Some y) × HasLine lines j.line x.tree y.tree)

-- the label over the roots of the classes
abbrev pub IsKeyIn : {L : Type 0} → List (Expr L) → L → List ℕ → Term L → Type 0
IsKeyIn {L} exprs label classes key = (key.label ≡ label) × AllZip (IsRootClass exprs) classes key.inputs

-- two expressions that the terms are known to be of, with a line that equates their trees
abbrev pub IsJoinAt : {L : Type 0} → List Line → List (Expr L) → List (Option Known) → ℕ → ℕ → Join → Type 0
IsJoinAt {L} lines exprs known m n j =
    (k l : Known) × (slice_get known m ≡ Some (Some k)) × (slice_get known n ≡ Some (Some l)) × (j.left ≡ k.expr) × (j.right ≡ l.expr)
    × ((x y : Expr L) × (slice_get exprs j.left ≡ Some x) × (slice_get exprs j.right ≡ Some y) × HasLine lines j.line x.tree y.tree)
