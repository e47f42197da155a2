-- Plans, what they implement, their costs, and best plans.
use Rattle.std.specs.Prelude.{◌≡◌, ℕ, ◌≤◌, List, [], ◌∷◌, map, zip, Option, Some, None, unwrap_or, ⊤}
use Rattle.pr_value.specs.Symbols.{Symbol}
use Rattle.pr_value.specs.Trees.{Tree, node, Trees, nil, cons, list_of, tree}
use Rattle.pr_value.specs.Values.{number_in}
use Rattle.pr_value.specs.declared.value.Value.TheVariants as value
use Rattle.catalog.specs.Contents.{Catalog, entry}
use Rattle.descriptor_types.specs.Descriptors.{Desc, Mask, only, value_of, with_value}
use Rattle.descriptor_types.specs.Labels.{Label, ask}
use Rattle.descriptor_types.specs.Labels as label
use Rattle.rule_ast.specs.CostForms.{cost_name}
use Rattle.rule_ast.specs.Syntax.{Rules}
use Rattle.action_eval.specs.Cost.{IStep, cost_of}
use Rattle.query_build.specs.Query.{fields_in, file_desc}
use Rattle.rule_trees.specs.Steps.{i_step, i_streams}
use Rattle.rule_trees.specs.Views.{physical}
use Rattle.plan_form.specs.declared.plan.Plan as rust
use Rattle.plan_form.specs.declared.plan.Plan.TheOpen.{Plan-F}
use Rattle.plan_form.specs.declared.plan.Plan.TheFolds.{fold-Plan}

-- a file, or the algorithm of an I-rule by its number, with its descriptor
pub data PlanLabel : Type 0 where
  file : Symbol → PlanLabel
  algorithm : ℕ → Desc → PlanLabel

abbrev pub Plan : Type 0
Plan = Tree PlanLabel

-- one level, with each input already seen
abbrev pub plan_level : Plan-F Plan → Plan
plan_level (Plan-F.File name) = tree (file name) []
plan_level (Plan-F.Alg rule d ps) = tree (algorithm rule d) ps

-- how the definitions see a plan of the code
abbrev pub seen_plan : rust.Plan → Plan
seen_plan = fold-Plan Plan plan_level

-- ---- costs

-- the value of the cost property
abbrev pub desc_cost : Rules → Desc → ℕ
desc_cost r d = number_in (value_of r.properties (cost_name r.properties) d)

-- a file costs nothing
abbrev pub cost : Rules → Plan → ℕ
cost r (node (file name) ps) = 0
cost r (node (algorithm rule d) ps) = desc_cost r d

-- the algorithm's descriptor with its cost, over the costs of the inputs
abbrev pub costed : Rules → IStep → List ℕ → Desc
costed r s costs =
    with_value r.properties (cost_name r.properties) (value.Num (cost_of s.cost costs)) s.before

-- the plan by the rule of that number over plans of its inputs
abbrev pub plan_by : Rules → ℕ → IStep → List Plan → Plan
plan_by r n s ps = tree (algorithm n (costed r s (map (cost r) ps))) ps

-- ---- what plans implement

-- the trees that the streams of the I-rule of that number stand for at the root of the tree
abbrev pub matched_streams : Rules → ℕ → Tree Label → List (Tree Label)
matched_streams r n t = unwrap_or (i_streams r n t) []

-- each tree with the physical properties that are asked of it
abbrev pub each_asked : Mask → List Desc → List (Tree Label) → List (Tree Label)
each_asked mask asked ts = map (λ p. ask mask p.0 p.1) (zip asked ts)

abbrev pub asked_trees : Rules → List Desc → List (Tree Label) → List (Tree Label)
asked_trees r = each_asked (physical r)

-- the catalog's descriptor of the file
abbrev pub listed_desc : Rules → Catalog → Symbol → Desc
listed_desc r c name = file_desc r.properties (fields_in (entry c name))

-- equal physical properties
abbrev pub SamePhysical : Rules → Desc → Desc → Type 0
SamePhysical r d e = only r.properties (physical r) d ≡ only r.properties (physical r) e

module _ (r : Rules) (c : Catalog) where
  -- a file implements the file of its name with the catalog's physical properties; an algorithm by
  -- a rule that applies, at its cost, over plans for the input trees after what is asked of them
  abbrev mutual
    pub Implements : Plan → Tree Label → Type 0
    Implements (node (file name) nil) (node (label.file other d) nil) =
        (name ≡ other) × SamePhysical r d (listed_desc r c name)
    Implements (node (algorithm n d) ps) t =
        (s : IStep) × (i_step r c n t ≡ Some s) × (d ≡ costed r s (map (cost r) (list_of ps)))
        × AllImplement ps (asked_trees r s.asked (matched_streams r n t))
    Implements _ _ = ⊥

    pub AllImplement : Trees PlanLabel → List (Tree Label) → Type 0
    AllImplement nil [] = ⊤
    AllImplement (cons p ps) (t ∷ ts) = Implements p t × AllImplement ps ts
    AllImplement _ _ = ⊥

  -- of the tree alone: trees that T-rules make equal to it are not looked at
  module _ (q : Tree Label) where
    -- no plan of the tree costs less
    abbrev pub Best : Plan → Type 0
    Best p = Implements p q × ((other : Plan) → Implements other q → cost r p ≤ cost r other)

    abbrev pub NoPlan : Type 0
    NoPlan = (p : Plan) → Implements p q → ⊥

    -- a best plan, or none where there is none
    abbrev pub IsAnswer : Option Plan → Type 0
    IsAnswer None = NoPlan
    IsAnswer (Some p) = Best p
