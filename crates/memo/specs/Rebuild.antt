-- A pass over the expressions, which renames their inputs and drops those that are alike an older one.
use Rattle.std.specs.Prelude.{◌≡◌, ◌⊎◌, ℕ, ◌<◌, ◌≤◌, Bool, true, false, List, [], ◌∷◌, ◌++◌, Some, slice_get, slice_set, length}
use Rattle.std.specs.Prelude.{All, Option, MatchOption}
use Rattle.std.specs.List.{AllZip}
use Rattle.derivation.specs.declared.reason.Line.{Line}
use Rattle.derivation.specs.declared.terms.Term.{Term}
use Rattle.memo.specs.declared.expr.Expr.{Expr}
use Rattle.memo.specs.declared.expr.Join.{Join}
use Rattle.memo.specs.Forest.{HasLine, IsOneClass}
use Rattle.memo.specs.Index.{Enters}
use Rattle.memo.specs.Kept.{IsRoot, Indexes, AreApart}
use Rattle.memo.specs.Merge.{ups_of, AreJoinable}
use Rattle.memo.specs.Union.{IsTied}

-- the root of a class
abbrev pub IsRootClass : {L : Type 0} → List (Expr L) → ℕ → ℕ → Type 0
IsRootClass {L} exprs c r = (e : Expr L) × (slice_get exprs c ≡ Some e) × (e.class ≡ r)

-- the expression's label over the roots of its input classes
abbrev pub IsKeyOf : {L : Type 0} → List (Expr L) → ℕ → Term L → Type 0
IsKeyOf {L} exprs i key =
    (e : Expr L) × (slice_get exprs i ≡ Some e) × (key.label ≡ e.label) × AllZip (IsRootClass exprs) e.inputs key.inputs

-- the expression over other inputs
abbrev pub renamed : {L : Type 0} → Expr L → List ℕ → Bool → Expr L
renamed e inputs live = record {
  label = e.label;
  inputs = inputs;
  line = e.line;
  tree = e.tree;
  class = e.class;
  home = e.home;
  live = live;
}

-- the two have one label over the same classes
abbrev pub AreAlikeOver : {L : Type 0} → List (Expr L) → Expr L → Expr L → Type 0
AreAlikeOver exprs a b = (a.label ≡ b.label) × AllZip (IsOneClass exprs) a.inputs b.inputs

-- two numbers of expressions that have one label over the same inputs
abbrev pub AreTwins : {L : Type 0} → List (Expr L) → ℕ → ℕ → Type 0
AreTwins {L} exprs f i =
    (a b : Expr L) × (slice_get exprs f ≡ Some a) × (slice_get exprs i ≡ Some b) × (a.label ≡ b.label) × (a.inputs ≡ b.inputs)

-- the two are to be joined where their classes differ
abbrev pub IsNoted : {L : Type 0} → List Line → List (Expr L) → List Join → List Join → ℕ → ℕ → Type 0
IsNoted {L} lines exprs old new f i =
    ((new ≡ old) × IsOneClass exprs f i)
    ⊎ ((j : Join) × (new ≡ old ++ j ∷ []) × (j.left ≡ f) × (j.right ≡ i)
    × ((a b : Expr L) × (slice_get exprs f ≡ Some a) × (slice_get exprs i ≡ Some b) × HasLine lines j.line a.tree b.tree))

-- the expression is the same but for the names of its inputs, and may have gone
abbrev pub IsRenamed : {L : Type 0} → List (Expr L) → Expr L → Expr L → Type 0
IsRenamed exprs e e' =
    AreAlikeOver exprs e' e × (e'.line ≡ e.line) × (e'.tree ≡ e.tree) × (e'.class ≡ e.class) × (e'.home ≡ e.home)
    × (e'.live ≡ true → e.live ≡ true)

-- one below n that is there is alike the expression, and in its class up to the joins
abbrev pub IsCovered : {L : Type 0} → List (Expr L) → List (Expr L) → List Join → ℕ → ℕ → Expr L → Type 0
IsCovered {L} first now joins n i e =
    (k : ℕ) × (k < n) × (f : Expr L) × (slice_get now k ≡ Some f) × (f.live ≡ true) × AreAlikeOver first f e × IsTied (ups_of first) joins k i

-- the first n expressions are renamed and indexed, or have gone and are covered
pub record IsPass {L : Type 0} (lines : List Line) (first now : List (Expr L)) (entries : List (Term L × ℕ)) (joins : List Join) (n : ℕ) : Type 0 where
  pub long : length now ≡ length first
  pub stays : (i : ℕ) (e : Expr L) → slice_get first i ≡ Some e → (e' : Expr L) × (slice_get now i ≡ Some e') × IsRenamed first e e'
  pub rest : (i : ℕ) → n ≤ i → slice_get now i ≡ slice_get first i
  pub roots : (i : ℕ) (e : Expr L) → i < n → slice_get now i ≡ Some e → e.live ≡ true → All (IsRoot first) e.inputs
  pub indexed : Indexes entries now n
  pub apart : AreApart now n
  pub covered : (i : ℕ) (e : Expr L) → i < n → slice_get first i ≡ Some e → e.live ≡ true → IsCovered first now joins n i e
  pub joinable : AreJoinable lines first joins
  pub alike : (m : ℕ) (j : Join) (a b : Expr L) → slice_get joins m ≡ Some j → slice_get first j.left ≡ Some a → slice_get first j.right ≡ Some b → AreAlikeOver first a b

-- what becomes of one expression in the pass
abbrev pub IsReindexed : {L : Type 0} → List Line → List (Expr L) → List (Expr L) → List (Term L × ℕ) → List (Term L × ℕ) → List Join → List Join → ℕ → Type 0
IsReindexed {L} lines old new entries entries' joins joins' i =
    (e : Expr L) × (slice_get old i ≡ Some e)
    × (((e.live ≡ false) × (new ≡ old) × (entries' ≡ entries) × (joins' ≡ joins))
    ⊎ ((e.live ≡ true) × ((key : Term L) × (found : Option ℕ) × IsKeyOf old i key × Enters entries entries' key i found
    × MatchOption found ((new ≡ slice_set old i (renamed e key.inputs true)) × (joins' ≡ joins))
    (λ f. (new ≡ slice_set old i (renamed e key.inputs false)) × IsNoted lines new joins joins' f i))))
