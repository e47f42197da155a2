-- Whether the trees that numbers stand for fit at their roots.
use Rattle.std.specs.Prelude.{◌≡◌, ℕ, Bool, List}
use Rattle.std.specs.List.{list_all}
use Rattle.derivation.specs.Stands.{StandAll}
use Rattle.derivation.specs.declared.terms.Term.{Term}
use Rattle.descriptor_types.specs.Descriptors.{Layout, fits}
use Rattle.descriptor_types.specs.Labels.{desc_in}
use Rattle.pr_value.specs.Trees.{Tree, label, trees_of}
use Rattle.tree_terms.specs.TreeLabels.{plain_label}
use Rattle.tree_terms.specs.declared.labels.TreeLabel.{TreeLabel}

-- the tree fits at its root
abbrev pub fits_root : Layout → Tree TreeLabel → Bool
fits_root layout u = fits layout (desc_in (plain_label (label u)))

-- whether all trees that the numbers stand for do
abbrev pub SaysFit : Layout → List (Term TreeLabel) → Bool → List ℕ → Type 0
SaysFit layout terms b ns = (us : List (Tree TreeLabel)) → StandAll terms ns (trees_of us) → b ≡ list_all (fits_root layout) us
