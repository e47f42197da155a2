-- The goals of a query are of trees of the rules.
use Rattle.std.proofs.Common.{◌≡◌, ℕ, zero, suc, true, false, cond, List, [], ◌∷◌, length, map, Option, Some, None, option_map, ap, sym, ◌∙◌, subst, refl, arith}
use Rattle.std.specs.Prelude.{option_and_then, slice_get, zip}
use Rattle.std.specs.Cmp.{first_so, second_so}
use Rattle.std.specs.List.{Contains, list_all}
use Rattle.std.specs.List.{AllByRecursion as Every}
use Rattle.std.specs.Str.{bytes_eq}
use Rattle.std.proofs.lemmas.Bool.{false≢true}
use Rattle.std.proofs.lemmas.List.{length-map}
use Rattle.std.proofs.lemmas.Option.{same_Some}
use Rattle.action_eval.proofs.TypeLaws.{some-same}
use Rattle.action_eval.specs.Cost.{IStep}
use Rattle.action_eval.specs.Environments.{Env, IsSound, after}
use Rattle.catalog.specs.Contents.{Catalog}
use Rattle.descriptor_types.proofs.FitLaws.{fits-asked_of, fits-only}
use Rattle.descriptor_types.specs.Descriptors.{Desc, Mask, asked_of, fits, only, value_of}
use Rattle.descriptor_types.specs.Labels.{Label, file, operator, ask, desc_of}
use Rattle.property_classes.specs.Classes as classes
use Rattle.property_classes.specs.Classes.{classes_of}
use Rattle.pr_value.proofs.Shelf.{option_and_then-some, option_map-some}
use Rattle.pr_value.specs.Symbols.{Symbol}
use Rattle.pr_value.specs.Trees.{Tree, node}
use Rattle.pr_value.specs.declared.kind.Kind.{Kind}
use Rattle.pr_value.specs.declared.kind.Kind.TheVariants as kind
use Rattle.pr_value.specs.declared.property.Property.{Property}
use Rattle.rule_ast.specs.CostForms.{cost_name}
use Rattle.rule_ast.specs.Descs.{irule_descs, names_of, node_descs}
use Rattle.rule_ast.specs.Roles.{class_of}
use Rattle.rule_ast.specs.Syntax.{IRule, Rules}
use Rattle.rule_ast.specs.Typing.{property_kind}
use Rattle.rule_ast.specs.declared.roles.PropertyClass.{PropertyClass}
use Rattle.rule_ast.specs.declared.roles.PropertyClass.TheVariants as class
use Rattle.rule_runs.proofs.AskedLaws.{BeginsWithNode, asked-fits, inputs-known, irule-fits, irule-scoped, irule_slots}
use Rattle.rule_runs.proofs.RunLaws.{after-sound, body-typed, prepared, ready-after, tested-after}
use Rattle.rule_runs.proofs.ScopeLaws.{sound_over}
use Rattle.rule_runs.specs.Conditions.{AreSlotsOf, CanImplement}
use Rattle.rule_runs.specs.Matching.{Matched}
use Rattle.rule_runs.specs.Ready.{IsReady}
use Rattle.rule_runs.specs.Runs.{Scope, asked_of_inputs, env_over, implemented, irule_run, irule_scope, tested}
use Rattle.rule_runs.specs.declared.slots.Slots.{Slots}
use Rattle.rule_types.proofs.AcceptedCosts.{accepted-one_cost}
use Rattle.rule_types.specs.Conditions.{refused_by}
use Rattle.rule_trees.proofs.AcceptedFacts.{irule-CanImplement}
use Rattle.rule_trees.proofs.FoundLaws.{desc-IsTree, match-IsMatchOf, match-slots}
use Rattle.tree_terms.specs.Equality.{Joined}
use Rattle.tree_terms.specs.Goals.{Goal, root, below, physical_in}
use Rattle.rule_trees.specs.Steps.{i_step, i_streams, i_stream_tree, irule_match}
use Rattle.rule_trees.specs.Trees.{IsDesc, IsTree}
use Rattle.rule_trees.specs.Views.{physical}

-- ---- what is asked of a tree keeps it one

abbrev mask_of : Rules → List Property → Mask
mask_of r ps = map classes.is_physical (map (class_of r) ps)

class-cost : (r : Rules) (p : Property) → p.kind ≡ kind.Cost → class_of r p ≡ class.Cost
class-cost r p is = ap (λ (k : Kind). class_of r (record { name = p.name; kind = k })) is

-- the cost is not physical, so it stays
asked-cost : (r : Rules) (ps : List Property) (name : Symbol) (w d : Desc) → property_kind ps name ≡ Some kind.Cost → fits ps w ≡ true → fits ps d ≡ true → value_of ps name (asked_of (mask_of r ps) w d) ≡ value_of ps name d
asked-cost r [] name w d is fit_wanted fit = cc
asked-cost r (p ∷ ps) name [] d is fit_wanted fit = absurd (false≢true fit_wanted)
asked-cost r (p ∷ ps) name (w ∷ ws) [] is fit_wanted fit = absurd (false≢true fit)
asked-cost r (p ∷ ps) name (w ∷ ws) (v ∷ d) is fit_wanted fit =
    elim (bytes_eq p.name name) as (λ b. cond b (Some p.kind) (property_kind ps name) ≡ Some kind.Cost → cond b (cond (classes.is_physical (class_of r p)) w v) (value_of ps name (asked_of (mask_of r ps) ws d)) ≡ cond b v (value_of ps name d)) [
      | true ↦ λ e. ap (λ (k : PropertyClass). cond (classes.is_physical k) w v) (class-cost r p (same_Some p.kind kind.Cost e))
      | false ↦ λ e. asked-cost r ps name ws d e (second_so _ _ fit_wanted) (second_so _ _ fit)
    ] is

pub length-physical : (r : Rules) → length (physical r) ≡ length r.properties
length-physical r = length-map (classes_of r) classes.is_physical ∙ length-map r.properties (class_of r)

asked-IsDesc : (r : Rules) (w d : Desc) → refused_by r ≡ None → fits r.properties w ≡ true → IsDesc r d → IsDesc r (asked_of (physical r) w d)
asked-IsDesc r w d accepted fit is =
    (fits-asked_of r.properties (physical r) w d (length-physical r) fit is.0, asked-cost r r.properties (cost_name r.properties) w d (accepted-one_cost r accepted).declared fit is.0 ∙ is.1)

pub ask-IsTree : (r : Rules) (c : Catalog) (w : Desc) (t : Tree Label) → refused_by r ≡ None → fits r.properties w ≡ true → IsTree r c t → IsTree r c (ask (physical r) w t)
ask-IsTree r c w (node (file name d) ts) accepted fit is = (asked-IsDesc r w d accepted fit is.0, is.1, is.2)
ask-IsTree r c w (node (operator op d) ts) accepted fit is = (asked-IsDesc r w d accepted fit is.0, is.1, is.2)

-- ---- what an I-rule asks fits

pub run-asked-fit : (r : Rules) (mask : Mask) (c : Catalog) (i : IRule) (s : Slots) (step : IStep) → CanImplement r i → BeginsWithNode (node_descs i.left) → AreSlotsOf r i.left s → length mask ≡ length r.properties →
    irule_run r mask c i s ≡ Some step → list_all (fits r.properties) step.asked ≡ true
run-asked-fit r mask c i s step rule begins slots long ran =
    let names : List Symbol = irule_descs i in
    let descs : List Desc = irule_slots s in
    let start : Env = env_over r (irule_scope i s) in
    let scoped = irule-scoped r i s rule slots in
    let is : start ≡ env_over r (zip names descs) = ap (λ (p : Scope). env_over r p) (sym scoped.is) in
    let sound : IsSound start = subst IsSound (sym is) (sound_over r names descs rule.typed.helpers (irule-fits r i s begins slots)) in
    let ready = (prepared r names names descs descs (irule_scope i s) start scoped refl refl is sound).ready in
    let mid = option_map-some (implemented r mask c i) (tested c i.body start) step ran in
    let before : Env = after start c i.body.pre in
    let first = after-sound start c i.body.pre sound (first_so _ _ (first_so _ _ (body-typed r names start i.body ready rule.typed))) in
    let ready_mid : IsReady r names mid.0 = subst (IsReady r names) (sym (tested-after c i.body start mid.0 mid.1)) (ready-after r names start before ready first.sound first.context refl) in
    subst (λ (o : IStep). list_all (fits r.properties) o.asked ≡ true) mid.2 (asked-fits r mask names mid.0 (names_of i.right.inputs) long ready_mid (inputs-known i))

-- ---- places of lists

fit-at : (r : Rules) (ds : List Desc) (i : ℕ) (d : Desc) → list_all (fits r.properties) ds ≡ true → slice_get ds i ≡ Some d → fits r.properties d ≡ true
fit-at r [] i d all at = cc
fit-at r (e ∷ ds) zero d all at = subst (λ (x : Desc). fits r.properties x ≡ true) (some-same at) (first_so _ _ all)
fit-at r (e ∷ ds) (suc i) d all at = fit-at r ds i d (second_so _ _ all) at

tree-at : (r : Rules) (c : Catalog) (ts : List (Tree Label)) (i : ℕ) (t : Tree Label) → Every (IsTree r c) ts → slice_get ts i ≡ Some t → IsTree r c t
tree-at r c [] i t all at = cc
tree-at r c (u ∷ ts) zero t all at = subst (IsTree r c) (some-same at) all.0
tree-at r c (u ∷ ts) (suc i) t all at = tree-at r c ts i t all.1 at

there : {X : Type 0} (xs : List X) (n : ℕ) (x : X) → slice_get xs n ≡ Some x → Contains xs x
there [] n x at = cc
there (y ∷ xs) zero x at = (zero, omega arith, some-same at)
there (y ∷ xs) (suc n) x at = let (k, within, is) = there xs n x at in (suc k, omega (arith, within), is)

-- ---- goals

-- where an I-rule applies to a tree of the rules, its streams stand for such trees, and what it asks
-- of them fits
record AsksTrees (r : Rules) (c : Catalog) (w : Tree Label) (asked : Desc) : Type 0 where
  tree : IsTree r c w
  fit : fits r.properties asked ≡ true

module _ (r : Rules) (c : Catalog) (accepted : refused_by r ≡ None) (begins : (n : ℕ) (i : IRule) → slice_get r.irules n ≡ Some i → BeginsWithNode (node_descs i.left)) where
  asks-trees : (n k : ℕ) (u w : Tree Label) (s : IStep) (asked : Desc) → IsTree r c u → i_step r c n u ≡ Some s → i_stream_tree r n k u ≡ Some w → slice_get s.asked k ≡ Some asked → AsksTrees r c w asked
  asks-trees n k u w s asked is stepped streams at =
      let (i, at_i, matches) = option_and_then-some (λ (j : IRule). option_and_then (λ m. irule_run r (physical r) c j m.slots) (irule_match r j u)) (slice_get r.irules n) s stepped in
      let (m, match, ran) = option_and_then-some (λ m. irule_run r (physical r) c i m.slots) (irule_match r i u) s matches in
      let of = match-IsMatchOf r c i.left u m is match in
      let rule = irule-CanImplement r accepted i (there r.irules n i at_i) in
      let fit = run-asked-fit r (physical r) c i m.slots s rule (begins n i at_i) (match-slots r c i.left m of) (length-physical r) ran in
      let (ts, found, at_k) = option_and_then-some (λ ts. slice_get ts k) (i_streams r n u) w streams in
      let same : Some m.streams ≡ Some ts = sym (ap (λ (o : Option IRule). option_and_then (λ j. option_map (λ x. x.streams) (irule_match r j u)) o) at_i ∙ ap (option_map (λ x. x.streams)) match) ∙ found in
      record { tree = tree-at r c m.streams k w of.trees (ap (λ xs. slice_get xs k) (some-same same) ∙ at_k); fit = fit-at r s.asked k asked fit at }

  module _ (q : Tree Label) (is : IsTree r c q) (trees : (k : ℕ) (t u : Tree Label) → Joined r c q k t u → IsTree r c t × IsTree r c u) where
    pub goals-trees : {t : Tree Label} {v : Desc} → Goal r c q t v → IsTree r c t × (fits r.properties v ≡ true)
    goals-trees root = (is, fits-only r.properties (physical r) (desc_of q) (length-physical r) (desc-IsTree r c q is).0)
    goals-trees (below {t} {u} {w} {v} {asked} n k s above equal stepped streams at) =
        let over = goals-trees above in
        let one = asks-trees n k (ask (physical r) v u) w s asked (ask-IsTree r c v u accepted over.1 (trees equal.0 t u equal.1).1) stepped streams at in
        (one.tree, one.fit)
