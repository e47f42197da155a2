-- How files and algorithms are seen.
use Rattle.std.proofs.Common.{◌≡◌, ℕ, ◌≤◌, List, [], ◌∷◌, map, refl, ap, sym, ◌∙◌, subst}
use Rattle.std.specs.List.{All}
use Rattle.std.proofs.lemmas.List.Elements.{All-map}
use Rattle.pr_value.specs.Capped.{cap}
use Rattle.pr_value.specs.Symbols.{Symbol}
use Rattle.pr_value.specs.Trees.{tree}
use Rattle.descriptor_types.specs.Descriptors.{Desc}
use Rattle.rule_ast.specs.Syntax.{Rules}
use Rattle.action_eval.specs.Cost.{IStep}
use Rattle.plan_form.specs.Plans.{Plan, file, algorithm, cost, costed, plan_by, plan_level, seen_plan}
use Rattle.plan_form.specs.declared.plan.Plan as rust
use Rattle.plan_form.specs.declared.plan.Plan.TheVariants as variant
use Rattle.plan_form.specs.declared.plan.Plan.TheOpen.{Plan-F}
use Rattle.plan_form.specs.declared.plan.Plan.TheFolds.{fold-roll-Plan}

pub seen_file : (name : Symbol) → seen_plan (variant.File name) ≡ tree (file name) []
seen_file name = ap seen_plan (sym (variant.rolls-File name)) ∙ fold-roll-Plan Plan plan_level (Plan-F.File name)

pub seen_algorithm : (rule : ℕ) (d : Desc) (ps : List rust.Plan) → seen_plan (variant.Alg rule d ps) ≡ tree (algorithm rule d) (map seen_plan ps)
seen_algorithm rule d ps = ap seen_plan (sym (variant.rolls-Alg rule d ps)) ∙ fold-roll-Plan Plan plan_level (Plan-F.Alg rule d ps)

-- ---- over the costs of plans, as the code finds them

costs-seen : (r : Rules) (ps : List rust.Plan) → map (λ p. cost r (seen_plan p)) ps ≡ map (cost r) (map seen_plan ps)
costs-seen r [] = refl
costs-seen r (p ∷ ps) = ap (λ ks. cost r (seen_plan p) ∷ ks) (costs-seen r ps)

pub costs-found : (r : Rules) (ps qs : List rust.Plan) (found given : List ℕ) → qs ≡ ps → found ≡ map (λ p. cost r (seen_plan p)) qs → given ≡ found → given ≡ map (cost r) (map seen_plan ps)
costs-found r ps qs found given same are is = is ∙ (are ∙ (ap (map (λ p. cost r (seen_plan p))) same ∙ costs-seen r ps))

pub capped-costs : (r : Rules) (ps : List rust.Plan) (given : List ℕ) → given ≡ map (cost r) (map seen_plan ps) → All (λ p. cost r (seen_plan p) ≤ cap) ps → All (λ k. k ≤ cap) given
capped-costs r ps given are low = subst (All (λ k. k ≤ cap)) (sym (are ∙ sym (costs-seen r ps))) (All-map (λ k. k ≤ cap) (λ p. cost r (seen_plan p)) ps low)

pub seen-plan_by : (r : Rules) (n : ℕ) (s : IStep) (ps : List rust.Plan) (given : List ℕ) (d : Desc) → given ≡ map (cost r) (map seen_plan ps) → d ≡ costed r s given → seen_plan (variant.Alg n d ps) ≡ plan_by r n s (map seen_plan ps)
seen-plan_by r n s ps given d are is = seen_algorithm n d ps ∙ ap (λ (e : Desc). tree (algorithm n e) (map seen_plan ps)) (is ∙ ap (costed r s) are)
