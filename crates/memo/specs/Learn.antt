-- What is known of terms, and of more terms.
use Rattle.std.specs.Prelude.{◌≡◌, ℕ, List, Option, Some, slice_get}
use Rattle.std.specs.List.{AllZip}
use Rattle.derivation.specs.declared.reason.Line.{Line}
use Rattle.derivation.specs.declared.terms.Term.{Term}
use Rattle.memo.specs.declared.expr.Expr.{Expr}
use Rattle.memo.specs.declared.expr.Known.{Known}
use Rattle.memo.specs.Forest.{HasLine, Fits, IsKnownIn}

-- the term is known
abbrev pub IsKnown : List (Option Known) → ℕ → Type 0
IsKnown known n = (k : Known) × (slice_get known n ≡ Some (Some k))

-- what was known still is, in the same way
abbrev pub KeepsKnown : List (Option Known) → List (Option Known) → Type 0
KeepsKnown old new = (n : ℕ) (k : Known) → slice_get old n ≡ Some (Some k) → slice_get new n ≡ Some (Some k)

-- one term more is known
abbrev pub IsNotedAt : List (Option Known) → List (Option Known) → ℕ → Known → Type 0
IsNotedAt old new n found =
    (slice_get new n ≡ Some (Some found))
    × ((m : ℕ) (k : Known) → (n ≡ m → ⊥) → slice_get new m ≡ Some (Some k) → slice_get old m ≡ Some (Some k))
    × ((m : ℕ) (k : Known) → (n ≡ m → ⊥) → slice_get old m ≡ Some (Some k) → slice_get new m ≡ Some (Some k))

-- what may be noted of a term
abbrev pub IsFact : {L : Type 0} → List (Term L) → List Line → List (Expr L) → List (Option Known) → ℕ → Known → Type 0
IsFact {L} terms lines exprs known n k =
    (e : Expr L) × (slice_get exprs k.expr ≡ Some e) × HasLine lines k.line n e.tree × Fits exprs known terms n e

-- the terms are known in the classes
abbrev pub AreKnownIn : {L : Type 0} → List (Expr L) → List (Option Known) → List ℕ → List ℕ → Type 0
AreKnownIn exprs known ns cs = AllZip (IsKnownIn exprs known) ns cs

-- the class of each expression is a root
abbrev pub AreHomed : {L : Type 0} → List (Expr L) → Type 0
AreHomed {L} exprs =
    (i : ℕ) (e : Expr L) → slice_get exprs i ≡ Some e → (r : Expr L) × (slice_get exprs e.class ≡ Some r) × (r.class ≡ e.class)

-- the label of the term over classes that its inputs are known in
abbrev pub IsKeyFor : {L : Type 0} → List (Term L) → List (Expr L) → List (Option Known) → ℕ → Term L → Type 0
IsKeyFor {L} terms exprs known n key =
    (t : Term L) × (slice_get terms n ≡ Some t) × (key.label ≡ t.label) × AllZip (IsKnownIn exprs known) t.inputs key.inputs

-- the term has the label of the expression over terms that are known in its input classes
abbrev pub FitsAt : {L : Type 0} → List (Term L) → List (Expr L) → List (Option Known) → ℕ → ℕ → Type 0
FitsAt {L} terms exprs known n i = (e : Expr L) × (slice_get exprs i ≡ Some e) × Fits exprs known terms n e
