-- What the search answers for trees, and among rules.
use Rattle.std.specs.Prelude.{◌≡◌, ℕ, ◌<◌, ◌≤◌, nat_le, List, [], ◌∷◌, Option, Some, None, Contains, ⊤, if◌then◌else◌}
use Rattle.catalog.specs.Contents.{Catalog}
use Rattle.descriptor_types.specs.Labels.{Label}
use Rattle.plan_form.specs.Plans.{Plan, file, algorithm, cost, Implements, Best, NoPlan}
use Rattle.pr_value.specs.Trees.{Tree, node}
use Rattle.rule_ast.specs.Syntax.{Rules}

-- a cheapest of such plans, or none where there is none
abbrev pub IsLeast : (Plan → ℕ) → (Plan → Type 0) → Option Plan → Type 0
IsLeast cost Is None = (p : Plan) → Is p → ⊥
IsLeast cost Is (Some p) = Is p × ((other : Plan) → Is other → cost p ≤ cost other)

-- the cheaper of two, the first where they cost the same
abbrev pub lesser : (Plan → ℕ) → Option Plan → Option Plan → Option Plan
lesser cost None other = other
lesser cost (Some p) None = Some p
lesser cost (Some p) (Some q) = if nat_le (cost p) (cost q) then Some p else Some q

-- the algorithm is that of the rule of this number
abbrev pub IsBy : ℕ → Plan → Type 0
IsBy n (node (file name) ps) = ⊥
IsBy n (node (algorithm m d) ps) = m ≡ n

-- a file, or the algorithm of a rule below this number
abbrev pub IsBelow : ℕ → Plan → Type 0
IsBelow n (node (file name) ps) = ⊤
IsBelow n (node (algorithm m d) ps) = m < n

module _ (r : Rules) (c : Catalog) where
  -- a cheapest plan of the tree by the rule of that number, or none
  abbrev pub IsBestBy : Tree Label → ℕ → Option Plan → Type 0
  IsBestBy t n = IsLeast (cost r) (λ p. Implements r c p t × IsBy n p)

  -- a cheapest among a file and the plans by rules below that number, or none
  abbrev pub IsBestBelow : Tree Label → ℕ → Option Plan → Type 0
  IsBestBelow t n = IsLeast (cost r) (λ p. Implements r c p t × IsBelow n p)

  -- a best plan for each tree
  abbrev pub AllBest : List (Tree Label) → List Plan → Type 0
  AllBest [] [] = ⊤
  AllBest (t ∷ ts) (p ∷ ps) = Best r c t p × AllBest ts ps
  AllBest _ _ = ⊥

  -- a best plan for each, or none where one of them has none
  abbrev pub AreBest : List (Tree Label) → Option (List Plan) → Type 0
  AreBest ts None = (t : Tree Label) × Contains ts t × NoPlan r c t
  AreBest ts (Some ps) = AllBest ts ps
