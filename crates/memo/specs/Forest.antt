-- Expressions with their classes and lines.
use Rattle.std.specs.Prelude.{◌≡◌, ◌≢◌, ℕ, ◌≤◌, List, [], ◌∷◌, Option, Some, None, slice_get, ⊤}
use Rattle.std.specs.List.{AllZip}
use Rattle.pr_value.specs.Trees.{Tree, node, Trees, nil, cons}
use Rattle.derivation.specs.declared.reason.Line.{Line}
use Rattle.derivation.specs.declared.terms.Term.{Term}
use Rattle.memo.specs.declared.expr.Expr.{Expr}
use Rattle.memo.specs.declared.expr.Known.{Known}

-- the line has these terms
abbrev pub HasLine : List Line → ℕ → ℕ → ℕ → Type 0
HasLine lines i m n = (l : Line) × (slice_get lines i ≡ Some l) × (l.left ≡ m) × (l.right ≡ n)

-- the line's right term
abbrev pub EndsAt : List Line → ℕ → ℕ → Type 0
EndsAt lines i n = (l : Line) × (slice_get lines i ≡ Some l) × (l.right ≡ n)

module _ {L : Type 0} (exprs : List (Expr L)) where
  -- two numbers of expressions, which are numbers of classes too, are of one class
  abbrev pub IsOneClass : ℕ → ℕ → Type 0
  IsOneClass x y = (a b : Expr L) × (slice_get exprs x ≡ Some a) × (slice_get exprs y ≡ Some b) × (a.class ≡ b.class)

  -- a tree of a class is the label of an expression of it over trees of the expression's input classes
  unfoldable mutual
    pub IsTreeOf : ℕ → Tree L → Type 0
    IsTreeOf c (node l us) = (i : ℕ) × (e : Expr L) × (slice_get exprs i ≡ Some e) × IsOneClass i c × (e.label ≡ l) × AreTreesOf e.inputs us

    pub AreTreesOf : List ℕ → Trees L → Type 0
    AreTreesOf [] nil = ⊤
    AreTreesOf (c ∷ cs) (cons u us) = IsTreeOf c u × AreTreesOf cs us
    AreTreesOf [] (cons u us) = ⊥
    AreTreesOf (c ∷ cs) nil = ⊥

  module _ (known : List (Option Known)) where
    -- the term is known to be of an expression of the class
    abbrev pub IsKnownIn : ℕ → ℕ → Type 0
    IsKnownIn n c = (k : Known) × (slice_get known n ≡ Some (Some k)) × IsOneClass k.expr c

    -- the term has the expression's label over terms that are known in its input classes
    abbrev pub Fits : List (Term L) → ℕ → Expr L → Type 0
    Fits terms n e = (t : Term L) × (slice_get terms n ≡ Some t) × (t.label ≡ e.label) × AllZip IsKnownIn t.inputs e.inputs

-- the root of an expression, with the line that equates their trees
abbrev pub HasHome : {L : Type 0} → List Line → List (Expr L) → Expr L → Type 0
HasHome {L} lines exprs e = (r : Expr L) × (slice_get exprs e.class ≡ Some r) × (r.class ≡ e.class) × HasLine lines e.home e.tree r.tree

-- what a memo that is not spoilt keeps, in numbers alone
pub record IsForest {L : Type 0} (terms : List (Term L)) (lines : List Line) (exprs : List (Expr L)) (known : List (Option Known)) : Type 0 where
  pub older : (i : ℕ) (e : Expr L) → slice_get exprs i ≡ Some e → e.class ≤ i
  pub home : (i : ℕ) (e : Expr L) → slice_get exprs i ≡ Some e → HasHome lines exprs e
  pub ends : (i : ℕ) (e : Expr L) → slice_get exprs i ≡ Some e → EndsAt lines e.line e.tree
  pub fits : (i : ℕ) (e : Expr L) → slice_get exprs i ≡ Some e → Fits exprs known terms e.tree e
  pub seen : (n : ℕ) (k : Known) → slice_get known n ≡ Some (Some k) → (e : Expr L) × (slice_get exprs k.expr ≡ Some e) × HasLine lines k.line n e.tree × Fits exprs known terms n e

-- what is known of a term, if anything
abbrev pub IsKnownOf : List (Option Known) → ℕ → Option Known → Type 0
IsKnownOf known n (Some k) = slice_get known n ≡ Some (Some k)
IsKnownOf known n None = (k : Known) → slice_get known n ≢ Some (Some k)

-- the line equates the term with the tree of the root of its expression
abbrev pub LeadsHome : {L : Type 0} → List Line → List (Expr L) → List (Option Known) → ℕ → ℕ → Type 0
LeadsHome {L} lines exprs known n i = (k : Known) × (e r : Expr L) × (slice_get known n ≡ Some (Some k)) × (slice_get exprs k.expr ≡ Some e) × (slice_get exprs e.class ≡ Some r) × HasLine lines i n r.tree
