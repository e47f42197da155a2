-- What a rule does over its slots: the descriptors of its left side's nodes, and the views of its
-- streams. Nothing here knows what the slots are of.
use Rattle.std.specs.Prelude.{List, [], ◌∷◌, ◌++◌, map, zip, Option, Some, None, option_map, unwrap_or, if◌then◌else◌}
use Rattle.pr_value.specs.Symbols.{Symbol}
use Rattle.pr_value.specs.Values.{truth_in}
use Rattle.catalog.specs.Contents.{Catalog}
use Rattle.descriptor_types.specs.Descriptors.{Desc, Mask, only, plain}
use Rattle.rule_ast.specs.CostForms.{cost_name}
use Rattle.rule_ast.specs.CostGiven.{cost_of, but_last}
use Rattle.rule_ast.specs.Descs.{node_descs, stream_descs, right_descs, names_of}
use Rattle.rule_ast.specs.Syntax.{Body, Expr, number, TRule, IRule, Rules}
use Rattle.action_eval.specs.Cost.{IStep}
use Rattle.action_eval.specs.Environments.{Env, after, value_here}
use Rattle.action_eval.specs.Forms.{form}
use Rattle.action_eval.specs.Meaning.{desc_in}
use Rattle.rule_runs.specs.declared.slots.Slots.{Slots}

-- descriptors under their names
abbrev pub Scope : Type 0
Scope = List (Symbol × Desc)

abbrev pub env_over : Rules → Scope → Env
env_over r scope = record { rules = r; layout = r.properties; descs = scope }

-- the environment after the statements before the test, where the test is true then
abbrev pub tested : Catalog → Body → Env → Option Env
tested c b env =
    if truth_in (value_here (after env c b.pre) c b.test) then Some (after env c b.pre) else None

-- ---- T-rules

-- what the left side sees, and the nodes of the right side, which start with the defaults
abbrev pub trule_scope : Rules → TRule → Slots → Scope
trule_scope r t s =
    zip (node_descs t.left) s.nodes
    ++ (zip (stream_descs t.left) s.streams ++ map (λ d. (d, plain r.properties)) (right_descs t.right))

-- the environment after a rule's statements, or none where its test is false
abbrev pub trule_run : Rules → Catalog → TRule → Slots → Option Env
trule_run r c t s =
    option_map (λ env. after env c t.body.post) (tested c t.body (env_over r (trule_scope r t s)))

-- the descriptors of the right side's nodes, the root first, or none where the test is false
abbrev pub trule_made : Rules → Catalog → TRule → Slots → Option (List Desc)
trule_made r c t s =
    option_map (λ env. map (desc_in env.descs) (right_descs t.right)) (trule_run r c t s)

-- ---- I-rules

-- the descriptor of the root, which comes first
abbrev pub root_of : List Desc → Desc
root_of [] = []
root_of (d ∷ ds) = d

-- what the left side sees, the inputs, which start as the views of their streams, and the
-- algorithm, which starts as the operator
abbrev pub irule_scope : IRule → Slots → Scope
irule_scope i s =
    zip (node_descs i.left) s.nodes
    ++ (zip (stream_descs i.left) s.streams
    ++ (zip (names_of i.right.inputs) s.streams ++ (i.right.desc, root_of s.nodes) ∷ []))

-- the expression that gives the cost
abbrev pub cost_expr : Rules → IRule → Expr
cost_expr r i = unwrap_or (cost_of (cost_name r.properties) i) (number 0)

-- what is asked of each input: the physical part of its descriptor
abbrev pub asked_of_inputs : Rules → Mask → IRule → Env → List Desc
asked_of_inputs r physical i env =
    map (λ d. only r.properties physical (desc_in env.descs d)) (names_of i.right.inputs)

-- with the properties that are asked of inputs
module _ (r : Rules) (physical : Mask) (c : Catalog) (i : IRule) where
  -- after the test: what is asked, the algorithm's descriptor before its cost is set, and the cost
  abbrev pub implemented : Env → IStep
  implemented env = record {
    asked = asked_of_inputs r physical i env;
    before = desc_in (after env c (but_last i.body.post)).descs i.right.desc;
    cost = form (names_of i.right.inputs) (after env c (but_last i.body.post)) c (cost_expr r i);
  }

  -- what a rule asks and costs over its slots, or none where its test is false
  abbrev pub irule_run : Slots → Option IStep
  irule_run s = option_map implemented (tested c i.body (env_over r (irule_scope i s)))
