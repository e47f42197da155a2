-- Classes of expressions, merged by joins.
use Rattle.std.specs.Prelude.{◌≡◌, ◌↔◌, ℕ, ◌<◌, ◌≤◌, List, [], ◌∷◌, Some, slice_get, length}
use Rattle.derivation.specs.declared.reason.Line.{Line}
use Rattle.memo.specs.declared.expr.Expr.{Expr}
use Rattle.memo.specs.declared.expr.Join.{Join}
use Rattle.memo.specs.declared.union.Up.{Up}
use Rattle.memo.specs.Forest.{HasLine, IsOneClass}
use Rattle.memo.specs.Union.{IsTied}

-- an expression under its class
abbrev pub up_of : {L : Type 0} → Expr L → Up
up_of e = record { tree = e.tree; parent = e.class; line = e.home }

abbrev pub ups_of : {L : Type 0} → List (Expr L) → List Up
ups_of [] = []
ups_of (e ∷ es) = up_of e ∷ ups_of es

-- the expression in another class
abbrev pub placed : {L : Type 0} → Expr L → Up → Expr L
placed e u = record {
  label = e.label;
  inputs = e.inputs;
  line = e.line;
  tree = e.tree;
  class = u.parent;
  home = u.line;
  live = e.live;
}

-- the first n expressions are placed, and the others are as they were
pub record IsPlaced {L : Type 0} (ups : List Up) (first now : List (Expr L)) (n : ℕ) : Type 0 where
  pub long : length now ≡ length first
  pub done : (i : ℕ) (e : Expr L) (u : Up) → i < n → slice_get first i ≡ Some e → slice_get ups i ≡ Some u → slice_get now i ≡ Some (placed e u)
  pub rest : (i : ℕ) → n ≤ i → slice_get now i ≡ slice_get first i

-- the line of each join equates the trees of its expressions
abbrev pub AreJoinable : {L : Type 0} → List Line → List (Expr L) → List Join → Type 0
AreJoinable {L} lines exprs joins =
    (n : ℕ) (j : Join) → slice_get joins n ≡ Some j → (a b : Expr L) × (slice_get exprs j.left ≡ Some a) × (slice_get exprs j.right ≡ Some b) × HasLine lines j.line a.tree b.tree

-- the same but for the class and the line that leads to its root
abbrev pub IsMoved : {L : Type 0} → Expr L → Expr L → Type 0
IsMoved e e' = (e'.label ≡ e.label) × (e'.inputs ≡ e.inputs) × (e'.line ≡ e.line) × (e'.tree ≡ e.tree) × (e'.live ≡ e.live)

-- the expressions with the classes that joins tie together made one, and no others
pub record IsMergedBy {L : Type 0} (joins : List Join) (old new : List (Expr L)) : Type 0 where
  pub long : length new ≡ length old
  pub stays : (i : ℕ) (e : Expr L) → slice_get old i ≡ Some e → (e' : Expr L) × (slice_get new i ≡ Some e') × IsMoved e e'
  pub merged : (x y : ℕ) → IsOneClass new x y ↔ IsTied (ups_of old) joins x y
