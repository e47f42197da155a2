-- What is added to terms for a tree.
use Rattle.std.specs.Prelude.{◌≡◌, ◌⊎◌, ℕ, ◌<◌, ◌≤◌, List, length, Some, slice_get}
use Rattle.derivation.specs.Stands.{Stands}
use Rattle.derivation.specs.declared.terms.Term.{Term}
use Rattle.pr_value.specs.Trees.{Tree, IsProperPart}
use Rattle.tree_terms.specs.declared.labels.TreeLabel.{TreeLabel}

-- the tree, or a part of it
abbrev pub IsPart : Tree TreeLabel → Tree TreeLabel → Type 0
IsPart u t = (u ≡ t) ⊎ IsProperPart u t

-- each new term stands for such a tree
abbrev pub NewStandFor : (Tree TreeLabel → Type 0) → List (Term TreeLabel) → List (Term TreeLabel) → Type 0
NewStandFor P old new =
    (n : ℕ) → length old ≤ n → n < length new → (u : Tree TreeLabel) × Stands new n u × P u

-- each new term stands for the tree, or for a part of it
abbrev pub AddsParts : Tree TreeLabel → List (Term TreeLabel) → List (Term TreeLabel) → Type 0
AddsParts t = NewStandFor (λ u. IsPart u t)

-- each new term stands for one of the trees, or for a part of one
abbrev pub AddsPartsOf : List (Tree TreeLabel) → List (Term TreeLabel) → List (Term TreeLabel) → Type 0
AddsPartsOf ts = NewStandFor (λ u. (i : ℕ) × (t : Tree TreeLabel) × (slice_get ts i ≡ Some t) × IsPart u t)
