-- What rules make of trees, ask and cost there, by what their left sides match.
use Rattle.std.proofs.Common.{◌≡◌, ℕ, zero, suc, ◌<◌, ◌≤◌, List, [], ◌∷◌, length, map, get_or, Result, Ok, Err, IfOk, Option, Some, None, option_map, refl, ap, sym, ◌∙◌, subst, arith, Bor}
use Rattle.std.specs.Prelude.{option_and_then, slice_get}
use Rattle.std.specs.List.{Contains}
use Rattle.action_eval.proofs.PlainLaws.{or_second}
use Rattle.action_eval.proofs.TypeLaws.{some-same}
use Rattle.action_eval.specs.SeenForms.{seen_step}
use Rattle.action_eval.specs.declared.cost_forms.step.IStep as steps
use Rattle.catalog.specs.Contents.{Catalog}
use Rattle.descriptor_types.specs.Descriptors.{Desc, Mask}
use Rattle.descriptor_types.specs.Labels.{Label, seen_tree}
use Rattle.descriptor_types.specs.declared.tree.Tree as code
use Rattle.pr_value.specs.declared.memory.Memory.{Memory}
use Rattle.pr_value.specs.Trees.{Tree}
use Rattle.rule_ast.specs.Descs.{right_descs, stream_descs, stream_numbers}
use Rattle.rule_ast.specs.Syntax.{LeftLabel, TRule, IRule, Rules}
use Rattle.rule_runs.proofs.WholeLaws.{right-operators}
use Rattle.rule_runs.specs.Laws.{IsWithin, Suffice}
use Rattle.rule_runs.specs.Matching.{Matched, matched}
use Rattle.rule_runs.specs.Runs.{irule_run, trule_made}
use Rattle.rule_runs.specs.Sides.{Side, left_side, right_side}
use Rattle.rule_runs.specs.declared.matching.Matched as rust
use Rattle.rule_runs.specs.declared.slots.Slots.{Slots}
use Rattle.rule_types.proofs.AcceptedCosts.{accepted-one_cost}
use Rattle.rule_types.specs.Conditions.{refused_by}
use Rattle.rule_trees.proofs.AcceptedFacts.{IsTRule, accepted-operators, contains-map, slice_get-map, trule-CanRun, trule_facts}
use Rattle.rule_trees.proofs.RootedLaws.{step-takes}
use Rattle.rule_trees.proofs.FoundLaws.{match-IsMatchOf}
use Rattle.rule_trees.proofs.MadeLaws.{made-IsTree, right-arities, right-within}
use Rattle.rule_trees.proofs.NumberLaws.{numbers-long}
use Rattle.rule_trees.proofs.RunLaws.{made-descs, made-many}
use Rattle.rule_trees.proofs.PlainLaws.{plain-sound}
use Rattle.rule_trees.specs.Matches.{IsMatchOf, seen_match}
use Rattle.rule_trees.specs.Steps.{i_step, irule_match, rewritten, step, tree_roots, tree_with, trule_match}
use Rattle.rule_trees.specs.Trees.{IsTree}
use Rattle.rule_trees.specs.Views.{physical}

-- ---- T-rules

-- a run makes enough for the right side
pub made-suffice : (r : Rules) (c : Catalog) (t : TRule) (s : Slots) (k : ℕ) (ds : List Desc) → IsTRule r t → k ≡ length (stream_descs t.left) → trule_made r c t s ≡ Some ds → Suffice k (length ds) (right_side r.operators t.left t.right)
made-suffice r c t s k ds rule many ran =
    let ns = stream_numbers t.left in
    let a = right-operators r.operators ns t.right in
    let b = made-many r c t s ds ran in
    record {
      nodes = omega (arith, a, b);
      within = subst (λ n. IsWithin n (right_side r.operators t.left t.right)) (numbers-long t.left ∙ sym many) (right-within r ns t.right (or_second _ _ rule.known));
    }

-- what is made of a match in a tree of the rules is one
pub rewritten-IsTree : (r : Rules) (c : Catalog) (t : TRule) (m : Matched (Tree Label)) (ds : List Desc) → refused_by r ≡ None → Contains r.trules t → IsMatchOf r c t.left m → trule_made r c t m.slots ≡ Some ds
    → IsTree r c (tree_with m.streams (right_side r.operators t.left t.right) ds).0
rewritten-IsTree r c t m ds accepted there found ran =
    let rule = trule_facts r accepted t there in
    let descs = made-descs r c t m found (plain-sound r (accepted-one_cost r accepted)) rule.free (trule-CanRun r accepted t there) ds ran in
    (made-IsTree r c m.streams found.trees (right_side r.operators t.left t.right) ds (right-arities r (stream_numbers t.left) (accepted-operators r accepted) t.right (or_second _ _ rule.arities))
    (made-suffice r c t m.slots (length m.streams) ds rule found.as_many_streams ran) descs).0

slice_get-Contains : {X : Type 0} (xs : List X) (n : ℕ) (x : X) → slice_get xs n ≡ Some x → Contains xs x
slice_get-Contains [] n x e = cc
slice_get-Contains (y ∷ ys) zero x e = (0, omega arith, some-same e)
slice_get-Contains (y ∷ ys) (suc n) x e = let h = slice_get-Contains ys n x e in (suc h.0, omega (arith, h.1), h.2)

-- what a rule makes of a tree of the rules is one again
pub step-IsTree : (r : Rules) (c : Catalog) → refused_by r ≡ None → (n : ℕ) (t u : Tree Label) → IsTree r c t → step r c n t ≡ Some u → IsTree r c u
step-IsTree r c accepted n t u is e =
    let s = step-takes r c n t u e in
    subst (IsTree r c) s.makes (rewritten-IsTree r c s.rule s.match s.descs accepted (slice_get-Contains r.trules s.place s.rule s.there) (match-IsMatchOf r c s.rule.left t s.match is s.matches) s.runs)

-- ---- as the code finds rules and matches

-- what stands at a place of the rules
pub there-at : {X Y : Type 0} (f : X → Y) (xs ys : List X) (i : ℕ) (x : X) → ys ≡ xs → i < length ys → x ≡ get_or ys i x → Contains (map f xs) (f x) × (slice_get (map f xs) i ≡ Some (f x))
there-at {X} f xs ys i x same within is =
    subst (λ (zs : List X). Contains (map f zs) (f x) × (slice_get (map f zs) i ≡ Some (f x))) same (contains-map f ys i x within is, slice_get-map f ys i x within is)

-- what a search tells, where it finds something or nothing
pub found-match : (r : Rules) (l : Tree LeftLabel) (u : Tree Label) (s : Side) (o : Option (rust.Matched (Bor code.Tree))) (f : rust.Matched (Bor code.Tree)) → s ≡ left_side r.operators l → option_map seen_match o ≡ matched (tree_roots r) s u → o ≡ Some f
    → matched (tree_roots r) (left_side r.operators l) u ≡ Some (seen_match f)
found-match r l u s o f side came is = ap (λ (p : Side). matched (tree_roots r) p u) (sym side) ∙ (sym came ∙ ap (option_map seen_match) is)

pub found-none : (r : Rules) (l : Tree LeftLabel) (u : Tree Label) (s : Side) (o : Option (rust.Matched (Bor code.Tree))) → s ≡ left_side r.operators l → option_map seen_match o ≡ matched (tree_roots r) s u → o ≡ None
    → matched (tree_roots r) (left_side r.operators l) u ≡ None
found-none r l u s o side came is = ap (λ (p : Side). matched (tree_roots r) p u) (sym side) ∙ (sym came ∙ ap (option_map seen_match) is)

module _ (r : Rules) (c : Catalog) (n : ℕ) (u : Tree Label) where
  pub step-none : (t : TRule) → slice_get r.trules n ≡ Some t → trule_match r t u ≡ None → None ≡ step r c n u
  step-none t there none = sym (ap (λ (o : Option TRule). option_and_then (λ (x : TRule). option_and_then (rewritten r c x) (trule_match r x u)) o) there ∙ ap (option_and_then (rewritten r c t)) none)

  -- what comes of what is matched is the step, unless memory is wanting
  pub came-step : (t : TRule) (m : Matched (Tree Label)) (o : Result (Option code.Tree) Memory) → slice_get r.trules n ≡ Some t → trule_match r t u ≡ Some m → IfOk o (λ p. option_map seen_tree p ≡ rewritten r c t m) → IfOk o (λ p. option_map seen_tree p ≡ step r c n u)
  came-step t m (Ok p) there matches is = is ∙ sym (ap (λ (q : Option TRule). option_and_then (λ (x : TRule). option_and_then (rewritten r c x) (trule_match r x u)) q) there ∙ ap (option_and_then (rewritten r c t)) matches)
  came-step t m (Err e) there matches is = tt

  pub i_step-none : (i : IRule) → slice_get r.irules n ≡ Some i → irule_match r i u ≡ None → None ≡ i_step r c n u
  i_step-none i there none =
      sym (ap (λ (o : Option IRule). option_and_then (λ (x : IRule). option_and_then (λ (m : Matched (Tree Label)). irule_run r (physical r) c x m.slots) (irule_match r x u)) o) there
      ∙ ap (option_and_then (λ (m : Matched (Tree Label)). irule_run r (physical r) c i m.slots)) none)

  pub i_step-is : (i : IRule) (m : Matched (Tree Label)) → slice_get r.irules n ≡ Some i → irule_match r i u ≡ Some m → irule_run r (physical r) c i m.slots ≡ i_step r c n u
  i_step-is i m there matches =
      sym (ap (λ (o : Option IRule). option_and_then (λ (x : IRule). option_and_then (λ (k : Matched (Tree Label)). irule_run r (physical r) c x k.slots) (irule_match r x u)) o) there
      ∙ ap (option_and_then (λ (k : Matched (Tree Label)). irule_run r (physical r) c i k.slots)) matches)

  pub came-i_step : (i : IRule) (m : Matched (Tree Label)) (mask : Mask) (o : Result (Option steps.IStep) Memory) → slice_get r.irules n ≡ Some i → irule_match r i u ≡ Some m → mask ≡ physical r → IfOk o (λ p. option_map seen_step p ≡ irule_run r mask c i m.slots) → IfOk o (λ p. option_map seen_step p ≡ i_step r c n u)
  came-i_step i m mask (Ok p) there matches same is = is ∙ (ap (λ (k : Mask). irule_run r k c i m.slots) same ∙ i_step-is i m there matches)
  came-i_step i m mask (Err e) there matches same is = tt

-- the test is false, or what is made is this
pub rewritten-none : (r : Rules) (c : Catalog) (t : TRule) (m : Matched (Tree Label)) → None ≡ trule_made r c t m.slots → None ≡ rewritten r c t m
rewritten-none r c t m none = ap (option_map (λ (ds : List Desc). (tree_with m.streams (right_side r.operators t.left t.right) ds).0)) none

pub rewritten-some : (r : Rules) (c : Catalog) (t : TRule) (m : Matched (Tree Label)) (ds rest : List Desc) (x : Tree Label) (s : Side) → s ≡ right_side r.operators t.left t.right → (x, rest) ≡ tree_with m.streams s ds → Some ds ≡ trule_made r c t m.slots → Some x ≡ rewritten r c t m
rewritten-some r c t m ds rest x s side is ran =
    ap (λ (p : Tree Label × List Desc). Some p.0) (is ∙ ap (λ (p : Side). tree_with m.streams p ds) side) ∙ ap (option_map (λ (es : List Desc). (tree_with m.streams (right_side r.operators t.left t.right) es).0)) ran
