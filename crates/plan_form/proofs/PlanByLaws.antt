-- The plan by a rule that applies costs what the rule says, and implements the tree.
use Rattle.std.proofs.Common.{◌≡◌, ℕ, Bool, true, false, cond, List, [], ◌∷◌, map, Some, None, refl, ap, sym, ◌∙◌}
use Rattle.std.specs.Cmp.{second_so}
use Rattle.std.specs.Str.{bytes_eq}
use Rattle.std.proofs.lemmas.Bool.{false≢true}
use Rattle.pr_value.proofs.TreeLaws.{list_of_trees_of}
use Rattle.pr_value.specs.Symbols.{Symbol}
use Rattle.pr_value.specs.Trees.{Tree, trees_of}
use Rattle.pr_value.specs.Values.{number_in}
use Rattle.pr_value.specs.declared.kind.Kind.{Kind}
use Rattle.pr_value.specs.declared.kind.Kind.TheVariants as kind
use Rattle.pr_value.specs.declared.property.Property.{Property}
use Rattle.pr_value.specs.declared.value.Value.{Value}
use Rattle.pr_value.specs.declared.value.Value.TheVariants as value
use Rattle.catalog.specs.Contents.{Catalog}
use Rattle.descriptor_types.specs.Descriptors.{Desc, Layout, fits, value_of, with_value}
use Rattle.descriptor_types.specs.Labels.{Label}
use Rattle.rule_ast.specs.CostForms.{cost_name}
use Rattle.rule_ast.specs.Syntax.{Rules}
use Rattle.rule_ast.specs.Typing.{property_kind}
use Rattle.rule_types.proofs.AcceptedCosts.{accepted-one_cost}
use Rattle.rule_types.specs.Conditions.{refused_by}
use Rattle.action_eval.specs.Cost.{IStep, cost_of}
use Rattle.rule_trees.specs.Steps.{i_step}
use Rattle.plan_form.specs.Plans.{Plan, AllImplement, Implements, asked_trees, cost, costed, matched_streams, plan_by}

read_first : (b : Bool) (p : Property) (ps : Layout) (name : Symbol) (w v : Value) (d : Desc) → bytes_eq p.name name ≡ b → (b ≡ false → value_of ps name (with_value ps name w d) ≡ w) → value_of (p ∷ ps) name (with_value (p ∷ ps) name w (v ∷ d)) ≡ w
read_first true p ps name w v d e rest =
    ap (λ b. value_of (p ∷ ps) name (cond b (w ∷ d) (v ∷ with_value ps name w d))) e ∙ ap (λ b. cond b w (value_of ps name d)) e
read_first false p ps name w v d e rest =
    ap (λ b. value_of (p ∷ ps) name (cond b (w ∷ d) (v ∷ with_value ps name w d))) e ∙ (ap (λ b. cond b v (value_of ps name (with_value ps name w d))) e ∙ rest refl)

-- what was set is read, where the property is declared
set-read : (l : Layout) (name : Symbol) (k : Kind) (w : Value) (d : Desc) → property_kind l name ≡ Some k → fits l d ≡ true → value_of l name (with_value l name w d) ≡ w
set-read [] name k w d is fit = cc
set-read (p ∷ ps) name k w [] is fit = absurd (false≢true fit)
set-read (p ∷ ps) name k w (v ∷ d) is fit =
    read_first (bytes_eq p.name name) p ps name w v d refl (λ other. set-read ps name k w d (sym (ap (λ b. cond b (Some p.kind) (property_kind ps name)) other) ∙ is) (second_so _ _ fit))

pub plan_by-cost : (r : Rules) (n : ℕ) (s : IStep) (ps : List Plan) → refused_by r ≡ None → fits r.properties s.before ≡ true → cost r (plan_by r n s ps) ≡ cost_of s.cost (map (cost r) ps)
plan_by-cost r n s ps accepted fit =
    ap number_in (set-read r.properties (cost_name r.properties) kind.Cost (value.Num (cost_of s.cost (map (cost r) ps))) s.before (accepted-one_cost r accepted).declared fit)

pub plan_by-implements : (r : Rules) (c : Catalog) (n : ℕ) (t : Tree Label) (s : IStep) (ps : List Plan) → i_step r c n t ≡ Some s → AllImplement r c (trees_of ps) (asked_trees r s.asked (matched_streams r n t)) → Implements r c (plan_by r n s ps) t
plan_by-implements r c n t s ps step all = (s, step, ap (λ (qs : List Plan). costed r s (map (cost r) qs)) (sym (list_of_trees_of ps)), all)
