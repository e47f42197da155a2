-- What `implements` finds at an algorithm and its inputs.
use Rattle.std.proofs.Common.{◌≡◌, ℕ, zero, suc, ◌+◌, true, List, [], ◌∷◌, length, map, take, Option, Some, None, option_map, ap, sym, ◌∙◌, subst, arith}
use Rattle.std.specs.Prelude.{slice_get, zip}
use Rattle.std.specs.List.{list_all}
use Rattle.std.proofs.lemmas.List.{length-map}
use Rattle.std.proofs.lemmas.Option.{same_Some}
use Rattle.std.proofs.lemmas.Slice.Zip.{length-zip}
use Rattle.pr_value.specs.Trees.{Tree, inputs, trees_of}
use Rattle.catalog.specs.Contents.{Catalog}
use Rattle.descriptor_types.specs.Descriptors.{Desc, Mask, fits}
use Rattle.descriptor_types.specs.Labels.{Label, ask, seen_tree}
use Rattle.descriptor_types.specs.declared.tree.Tree as rust_tree
use Rattle.property_classes.specs.Classes as classes
use Rattle.property_classes.specs.Classes.{classes_of}
use Rattle.rule_ast.specs.Spelled.{spells}
use Rattle.rule_ast.specs.Syntax.{Rules}
use Rattle.rule_ast.specs.declared.roles.PropertyClass.{PropertyClass}
use Rattle.rule_types.specs.Conditions.{refused_by}
use Rattle.action_eval.specs.Cost.{IStep, is_over}
use Rattle.action_eval.specs.SeenForms.{seen_step}
use Rattle.action_eval.specs.declared.cost_forms.step.IStep as step
use Rattle.rule_trees.specs.Steps.{i_step}
use Rattle.rule_trees.specs.Trees.{AreTrees, IsTree}
use Rattle.rule_trees.specs.Views.{physical}
use Rattle.plan_form.specs.declared.plan.Plan as rust
use Rattle.plan_form.specs.declared.plan.Plan.TheVariants as variant
use Rattle.plan_form.proofs.AskedLaws.{each-AreTrees, inputs-AreTrees}
use Rattle.plan_form.proofs.ImplementLaws.{Fulfils, algorithm-fulfils, algorithm-implements, as_many}
use Rattle.plan_form.proofs.SeenLaws.{seen_algorithm}
use Rattle.plan_form.proofs.StepLaws.{asked-long}
use Rattle.plan_form.specs.Plans.{Plan, AllImplement, Implements, each_asked, seen_plan}

-- ---- one plan after another

implement-suc : (r : Rules) (c : Catalog) (ps : List Plan) (ts : List (Tree Label)) (i : ℕ) (p : Plan) (t : Tree Label) → slice_get ps i ≡ Some p → slice_get ts i ≡ Some t → AllImplement r c (trees_of (take i ps)) (take i ts) → Implements r c p t
    → AllImplement r c (trees_of (take (suc i) ps)) (take (suc i) ts)
implement-suc r c [] ts i p t first second all one = cc
implement-suc r c (q ∷ ps) [] i p t first second all one = cc
implement-suc r c (q ∷ ps) (u ∷ ts) zero p t first second all one =
    (subst (λ (x : Plan). Implements r c x u) (sym (same_Some q p first)) (subst (λ (y : Tree Label). Implements r c p y) (sym (same_Some u t second)) one), tt)
implement-suc r c (q ∷ ps) (u ∷ ts) (suc i) p t first second all one = (all.0, implement-suc r c ps ts i p t first second all.1 one)

pub implement-next : (r : Rules) (c : Catalog) (ps : List Plan) (ts : List (Tree Label)) (i : ℕ) (p : Plan) (t : Tree Label) → slice_get ps i ≡ Some p → slice_get ts i ≡ Some t → AllImplement r c (trees_of (take i ps)) (take i ts) → Implements r c p t
    → AllImplement r c (trees_of (take (i + 1) ps)) (take (i + 1) ts)
implement-next r c ps ts i p t first second all one =
    let next : suc i ≡ i + 1 = omega arith in subst (λ k. AllImplement r c (trees_of (take k ps)) (take k ts)) next (implement-suc r c ps ts i p t first second all one)

pub as_many-seen : (r : Rules) (c : Catalog) (ps : List rust.Plan) (ts : List rust_tree.Tree) → AllImplement r c (trees_of (map seen_plan ps)) (map seen_tree ts) → length ps ≡ length ts
as_many-seen r c ps ts all = sym (length-map ps seen_plan) ∙ (as_many r c (map seen_plan ps) (map seen_tree ts) all ∙ length-map ts seen_tree)

-- ---- what is asked of the inputs

pub asked-seen : (r : Rules) (m : Mask) (cs : List PropertyClass) (ws us : List Desc) (ts vs given : List (Tree Label)) → m ≡ map classes.is_physical cs → cs ≡ classes_of r → us ≡ ws → vs ≡ ts → given ≡ each_asked m us vs → given ≡ each_asked (physical r) ws ts
asked-seen r m cs ws us ts vs given mask known same seen is =
    is ∙ (ap (λ (n : Mask). each_asked n us vs) (mask ∙ ap (map classes.is_physical) known) ∙ (ap (λ (ds : List Desc). each_asked (physical r) ds vs) same ∙ ap (each_asked (physical r) ws) seen))

pub asked-trees : (r : Rules) (c : Catalog) (t : Tree Label) (ws : List Desc) (given : List (Tree Label)) → refused_by r ≡ None → list_all (fits r.properties) ws ≡ true → IsTree r c t → given ≡ each_asked (physical r) ws (inputs t) → AreTrees r c (trees_of given)
asked-trees r c t ws given accepted fit is asked =
    subst (λ (ts : List (Tree Label)). AreTrees r c (trees_of ts)) (sym asked) (each-AreTrees r c ws (inputs t) accepted fit (inputs-AreTrees r c t is))

length-each : (m : Mask) (ws : List Desc) (ts : List (Tree Label)) → length ws ≡ length ts → length (each_asked m ws ts) ≡ length ws
length-each m ws ts same = let a = length-map (zip ws ts) (λ (p : Desc × Tree Label). ask m p.0 p.1) in let b = length-zip ws ts in omega (arith, a, b, same)

-- the cost speaks of the plans of the inputs alone
pub over-plans : (r : Rules) (c : Catalog) (n : ℕ) (t : Tree Label) (s : IStep) (ps : List Plan) (k : ℕ) → spells r ≡ true → refused_by r ≡ None → i_step r c n t ≡ Some s → is_over (length s.asked) s.cost ≡ true
    → AllImplement r c (trees_of ps) (each_asked (physical r) s.asked (inputs t)) → k ≡ length ps → is_over k s.cost ≡ true
over-plans r c n t s ps k spelled accepted step over all long =
    let asked : length s.asked ≡ length (inputs t) = asked-long r c n t s spelled accepted step in
    let many : length ps ≡ length s.asked = as_many r c ps (each_asked (physical r) s.asked (inputs t)) all ∙ length-each (physical r) s.asked (inputs t) asked in
    subst (λ j. is_over j s.cost ≡ true) (sym (long ∙ many)) over

-- ---- the plan of an algorithm

pub applied : (o : Option step.IStep) (s : step.IStep) (e : Option IStep) → option_map seen_step o ≡ e → o ≡ Some s → e ≡ Some (seen_step s)
applied o s e came is = sym came ∙ ap (option_map seen_step) is

-- the same plans and trees
pub all-same : (r : Rules) (c : Catalog) (ps qs : List rust.Plan) (ts us : List (Tree Label)) → qs ≡ ps → us ≡ ts → AllImplement r c (trees_of (map seen_plan ps)) ts → AllImplement r c (trees_of (map seen_plan qs)) us
all-same r c ps qs ts us same are all =
    subst (λ (xs : List rust.Plan). AllImplement r c (trees_of (map seen_plan xs)) us) (sym same) (subst (AllImplement r c (trees_of (map seen_plan ps))) (sym are) all)

pub seen-fulfils : (r : Rules) (c : Catalog) (n : ℕ) (d : Desc) (ps : List rust.Plan) (p : rust.Plan) (t : Tree Label) (s : IStep) → spells r ≡ true → refused_by r ≡ None → i_step r c n t ≡ Some s → p ≡ variant.Alg n d ps → Implements r c (seen_plan p) t
    → Fulfils r c d (map seen_plan ps) t s
seen-fulfils r c n d ps p t s spelled accepted step is does =
    algorithm-fulfils r c n d (map seen_plan ps) t s spelled accepted step (subst (λ (q : Plan). Implements r c q t) (ap seen_plan is ∙ seen_algorithm n d ps) does)

pub seen-implements : (r : Rules) (c : Catalog) (n : ℕ) (d : Desc) (ps : List rust.Plan) (p : rust.Plan) (t : Tree Label) (s : IStep) → spells r ≡ true → refused_by r ≡ None → i_step r c n t ≡ Some s → p ≡ variant.Alg n d ps → Fulfils r c d (map seen_plan ps) t s
    → Implements r c (seen_plan p) t
seen-implements r c n d ps p t s spelled accepted step is does =
    subst (λ (q : Plan). Implements r c q t) (sym (ap seen_plan is ∙ seen_algorithm n d ps)) (algorithm-implements r c n d (map seen_plan ps) t s spelled accepted step does)
