-- Lines between terms that are known in one class.
use Rattle.std.specs.Prelude.{◌≡◌, ℕ, suc, zero, List, [], ◌∷◌, Option, Some, slice_get}
use Rattle.std.specs.List.{AllZip}
use Rattle.derivation.specs.Log.{LogValue}
use Rattle.derivation.specs.Made.{IsInput, PartOf}
use Rattle.derivation.specs.Table.{term}
use Rattle.derivation.specs.declared.terms.Term.{Term}
use Rattle.memo.specs.declared.expr.Expr.{Expr}
use Rattle.memo.specs.declared.expr.Known.{Known}
use Rattle.memo.specs.Forest.{HasLine, IsKnownIn}

-- the two terms are known in one class
abbrev pub AreNear : {L : Type 0} → List (Expr L) → List (Option Known) → ℕ → ℕ → Type 0
AreNear exprs known m n = (c : ℕ) × IsKnownIn exprs known m c × IsKnownIn exprs known n c

-- the two terms have one label over inputs that are known in the same classes
abbrev pub AreAlike : {L : Type 0} → List (Term L) → List (Expr L) → List (Option Known) → ℕ → ℕ → Type 0
AreAlike {L} terms exprs known s t =
    (a b : Term L) × (slice_get terms s ≡ Some a) × (slice_get terms t ≡ Some b) × (a.label ≡ b.label) × AllZip (AreNear exprs known) a.inputs b.inputs

-- the first n of the one, and the rest of the other
abbrev pub mixed : ℕ → List ℕ → List ℕ → List ℕ
mixed zero to from = from
mixed (suc n) [] from = from
mixed (suc n) (y ∷ to) [] = []
mixed (suc n) (y ∷ to) (x ∷ from) = y ∷ mixed n to from

module _ {L S : Type 0} (old new : LogValue L S) where
  -- the line leads on to the term with another input at the place
  abbrev pub Swaps : ℕ → ℕ → ℕ → ℕ → ℕ → Type 0
  Swaps path at from to i = (s n : ℕ) → HasLine old.lines path s n → IsInput old.terms n at from → (u : ℕ) × HasLine new.lines i s u × PartOf new.terms n at to u

  -- the line leads from where the first does, to the term with other inputs
  abbrev pub Leads : ℕ → List ℕ → List ℕ → ℕ → Type 0
  Leads first from to i =
      (s u : ℕ) (label : L) → HasLine old.lines first s u → slice_get old.terms u ≡ Some (term label from)
      → (w : ℕ) × HasLine new.lines i s w × (slice_get new.terms w ≡ Some (term label to))
