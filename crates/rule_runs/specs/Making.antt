-- What a right side makes of descriptors for its nodes and of what its streams stand for.
use Rattle.std.specs.Prelude.{ℕ, List, [], ◌∷◌, unwrap_or, slice_get}
use Rattle.pr_value.specs.Trees.{node, Trees, nil, cons}
use Rattle.descriptor_types.specs.Descriptors.{Desc}
use Rattle.rule_runs.specs.Sides.{Side, SideLabel, operator, stream}

-- where an operator with a descriptor stands over inputs, and where there is nothing
module _ {A : Type 0} (over : ℕ → Desc → List A → A) (nothing : A) (streams : List A) where
  -- what is made, and the descriptors that are left
  abbrev mutual
    pub made_with : Side → List Desc → A × List Desc
    made_with (node (operator op) rs) [] = (nothing, [])
    made_with (node (operator op) rs) (d ∷ ds) = (over op d (all_made_with rs ds).0, (all_made_with rs ds).1)
    made_with (node (stream n) rs) ds = (unwrap_or (slice_get streams n) nothing, ds)

    pub all_made_with : Trees SideLabel → List Desc → List A × List Desc
    all_made_with nil ds = ([], ds)
    all_made_with (cons r rs) ds =
        ((made_with r ds).0 ∷ (all_made_with rs (made_with r ds).1).0, (all_made_with rs (made_with r ds).1).1)

  -- what is made of as many descriptors as the side has nodes
  abbrev pub made : Side → List Desc → A
  made r ds = (made_with r ds).0
