-- What a T-rule's run over a match in a tree of the rules makes: descriptors that fit and cost nothing.
use Rattle.std.proofs.Common.{◌≡◌, ℕ, true, false, List, [], ◌∷◌, ◌++◌, length, map, Some, None, option_map, ap, sym, ◌∙◌, subst}
use Rattle.std.specs.Prelude.{zip}
use Rattle.std.specs.List.{list_all, AllByRecursion as Every}
use Rattle.std.proofs.lemmas.List.{length-map}
use Rattle.action_eval.proofs.PlainLaws.{or_first, or_second}
use Rattle.action_eval.specs.Environments.{Env, after, scope_of}
use Rattle.action_eval.specs.Meaning.{desc_in}
use Rattle.catalog.specs.Contents.{Catalog}
use Rattle.descriptor_types.specs.Descriptors.{Desc, plain}
use Rattle.descriptor_types.specs.Labels.{Label}
use Rattle.pr_value.proofs.Shelf.{option_map-some}
use Rattle.pr_value.specs.Symbols.{Symbol}
use Rattle.pr_value.specs.Trees.{Tree}
use Rattle.rule_ast.specs.CostForms.{cost_name}
use Rattle.rule_ast.specs.Descs.{node_descs, stream_descs, right_descs, trule_descs}
use Rattle.rule_ast.specs.Syntax.{TRule, Rules}
use Rattle.rule_types.specs.LaterConditions.{assigns_cost}
use Rattle.rule_types.specs.Uses.{any_use_of}
use Rattle.rule_runs.proofs.AskedLaws.{AreAmong, contains-right, contains-this, ready-fits, right-known}
use Rattle.rule_runs.proofs.RunLaws.{tested-after, trule_run-ready}
use Rattle.rule_runs.specs.Conditions.{CanRun}
use Rattle.rule_runs.specs.Matching.{Matched}
use Rattle.rule_runs.specs.Ready.{IsReady}
use Rattle.rule_runs.specs.Runs.{Scope, env_over, tested, trule_made, trule_run, trule_scope}
use Rattle.rule_trees.proofs.CostLaws.{AreFree, free-desc_in, free-run}
use Rattle.rule_trees.proofs.FoundLaws.{match-slots}
use Rattle.rule_trees.specs.Matches.{IsMatchOf}
use Rattle.rule_trees.specs.Trees.{IsDesc}

free-append : (r : Rules) (ds es : Scope) → AreFree r ds → AreFree r es → AreFree r (ds ++ es)
free-append r [] es free others = others
free-append r (d ∷ ds) es free others = (free.0, free-append r ds es free.1 others)

free-zip : (r : Rules) (names : List Symbol) (descs : List Desc) → Every (IsDesc r) descs → AreFree r (zip names descs)
free-zip r [] descs all = tt
free-zip r (n ∷ names) [] all = tt
free-zip r (n ∷ names) (d ∷ descs) all = (all.0.1, free-zip r names descs all.1)

free-defaults : (r : Rules) (d : Desc) (names : List Symbol) → IsDesc r d → AreFree r (map (λ n. (n, d)) names)
free-defaults r d [] is = tt
free-defaults r d (n ∷ names) is = (is.1, free-defaults r d names is)

module _ (r : Rules) (c : Catalog) (t : TRule) (m : Matched (Tree Label)) (found : IsMatchOf r c t.left m) (is : IsDesc r (plain r.properties)) (none : any_use_of (assigns_cost (cost_name r.properties)) t.body ≡ false) where
  -- after a run each descriptor costs nothing
  trule_run-free : (env : Env) → trule_run r c t m.slots ≡ Some env → AreFree r env.descs
  trule_run-free env ran =
      let start : Env = env_over r (trule_scope r t m.slots) in
      let mid = option_map-some (λ (e : Env). after e c t.body.post) (tested c t.body start) env ran in
      let before : mid.0 ≡ after start c t.body.pre = tested-after c t.body start mid.0 mid.1 in
      let nodes : Scope = zip (node_descs t.left) m.slots.nodes in
      let streams : Scope = zip (stream_descs t.left) m.slots.streams in
      let defaults : Scope = map (λ n. (n, plain r.properties)) (right_descs t.right) in
      let scope : AreFree r (trule_scope r t m.slots) =
      free-append r nodes (streams ++ defaults) (free-zip r (node_descs t.left) m.slots.nodes found.nodes)
      (free-append r streams defaults (free-zip r (stream_descs t.left) m.slots.streams found.views) (free-defaults r (plain r.properties) (right_descs t.right) is)) in
      let first : AreFree r (after start c t.body.pre).descs = free-run r c t.body.pre (scope_of start) (or_first _ _ (or_first _ _ none)) scope in
      let last : AreFree r (after (after start c t.body.pre) c t.body.post).descs = free-run r c t.body.post (scope_of (after start c t.body.pre)) (or_second _ _ none) first in
      subst (λ (e : Env). AreFree r e.descs) mid.2 (subst (λ (e : Env). AreFree r (after e c t.body.post).descs) (sym before) last)

  each-IsDesc : (env : Env) (names : List Symbol) → IsReady r (trule_descs t) env → AreFree r env.descs → AreAmong names (trule_descs t) → Every (IsDesc r) (map (desc_in env.descs) names)
  each-IsDesc env [] ready free known = tt
  each-IsDesc env (n ∷ names) ready free known = (
    (ready-fits r (trule_descs t) env n ready (known n (contains-this n names)), free-desc_in r env.descs n free),
    each-IsDesc env names ready free (λ e there. known e (contains-right (n ∷ []) names e there)),
  )

  pub made-descs : CanRun r t → (ds : List Desc) → trule_made r c t m.slots ≡ Some ds → Every (IsDesc r) ds
  made-descs rule ds e =
      let ran = option_map-some (λ (env : Env). map (desc_in env.descs) (right_descs t.right)) (trule_run r c t m.slots) ds e in
      let ready = trule_run-ready r c t m.slots ran.0 rule (match-slots r c t.left m found) ran.1 in
      subst (Every (IsDesc r)) ran.2 (each-IsDesc ran.0 (right_descs t.right) ready (trule_run-free ran.0 ran.1) (right-known t))

-- one for each node of the right side
pub made-many : (r : Rules) (c : Catalog) (t : TRule) (s : _) (ds : List Desc) → trule_made r c t s ≡ Some ds → length ds ≡ length (right_descs t.right)
made-many r c t s ds e =
    let ran = option_map-some (λ (env : Env). map (desc_in env.descs) (right_descs t.right)) (trule_run r c t s) ds e in
    ap length (sym ran.2) ∙ length-map (right_descs t.right) (desc_in ran.0.descs)
