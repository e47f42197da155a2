-- Terms of what right sides make.
use Rattle.std.specs.Prelude.{◌≡◌, ℕ, List}
use Rattle.derivation.specs.Stands.{Stands, StandAll}
use Rattle.derivation.specs.declared.terms.Term.{Term}
use Rattle.descriptor_types.specs.Descriptors.{Desc}
use Rattle.pr_value.specs.Trees.{Tree, Trees, trees_of}
use Rattle.rule_ast.specs.Syntax.{Rules}
use Rattle.rule_runs.specs.Sides.{Side, SideLabel}
use Rattle.tree_terms.specs.Dressed.{dressed_with, all_dressed_with}
use Rattle.tree_terms.specs.declared.labels.TreeLabel.{TreeLabel}

module _ (r : Rules) (streams : List ℕ) (old new : List (Term TreeLabel)) where
  -- where the terms of the streams stood for trees, the number stands for what the side makes of
  -- those, and these descriptors are left
  abbrev pub StandsForMade : Side → List Desc → ℕ → List Desc → Type 0
  StandsForMade s ds n rest =
      (us : List (Tree TreeLabel)) → StandAll old streams (trees_of us)
      → Stands new n (dressed_with r us s ds).0 × ((dressed_with r us s ds).1 ≡ rest)

  -- and these numbers for what the sides make
  abbrev pub StandForMade : Trees SideLabel → List Desc → List ℕ → List Desc → Type 0
  StandForMade ss ds ns rest =
      (us : List (Tree TreeLabel)) → StandAll old streams (trees_of us)
      → StandAll new ns (trees_of (all_dressed_with r us ss ds).0) × ((all_dressed_with r us ss ds).1 ≡ rest)
