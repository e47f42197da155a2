-- Where trees disagree, and what stands at the root of a tree that equals a part of itself.
use Rattle.std.proofs.Common.{◌≡◌, ℕ, zero, suc, Bool, true, false, List, [], ◌∷◌, length, Some, refl, ap, sym, ◌∙◌, arith}
use Rattle.std.specs.Prelude.{◌↔◌, ◌≢◌, slice_get}
use Rattle.std.proofs.lemmas.Bool.{false≢true}
use Rattle.action_eval.proofs.TypeLaws.{some-same}
use Rattle.catalog.specs.Contents.{Catalog}
use Rattle.descriptor_types.proofs.FitLaws.{length-fits}
use Rattle.descriptor_types.specs.Descriptors.{Desc}
use Rattle.descriptor_types.specs.Labels.{Label, file, operator}
use Rattle.pr_value.specs.EqualityLaws.{same_value-Decides}
use Rattle.pr_value.specs.Trees.{Tree, node, inputs, label, IsProperPart, of_input, of_part}
use Rattle.pr_value.specs.Values.{same_value}
use Rattle.pr_value.specs.declared.value.Value.{Value}
use Rattle.rule_ast.specs.Syntax.{Rules}
use Rattle.rule_trees.proofs.FoundLaws.{view-IsDesc}
use Rattle.tree_terms.specs.Equality.{Disagree, DisagreeOn, Joined, Loop, LoopAt}
use Rattle.rule_trees.specs.Trees.{IsTree}
use Rattle.rule_trees.specs.Views.{view_in}

-- ---- the first place where two descriptors differ

abbrev Apart : Desc → Desc → Type 0
Apart d e = (p : ℕ) × (v w : Value) × (slice_get d p ≡ Some v) × (slice_get e p ≡ Some w) × (v ≢ w)

later : (v w : Value) (d e : Desc) → Apart d e → Apart (v ∷ d) (w ∷ e)
later v w d e (p, x, y, this, that, differ) = (suc p, x, y, this, that, differ)

apart_at : (d e : Desc) → length d ≡ length e → (d ≢ e) → Apart d e
apart_at [] [] long apart = absurd (apart refl)
apart_at [] (w ∷ e) long apart = absurd (omega (arith, long))
apart_at (v ∷ d) [] long apart = absurd (omega (arith, long))
apart_at (v ∷ d) (w ∷ e) long apart = by (same_value v w) refl (λ first. apart_at d e (omega (arith, long)) (λ rest. apart (λ i. first i ∷ rest i))) where
  by : (b : Bool) → same_value v w ≡ b → (v ≡ w → Apart d e) → Apart (v ∷ d) (w ∷ e)
  by true same rest = later v w d e (rest ((same_value-Decides v w).0 same))
  by false other rest = (zero, v, w, refl, refl, λ same. false≢true (sym other ∙ (same_value-Decides v w).1 same))

-- ---- a tree without inputs has no parts

no_part : (u t : Tree Label) → length (inputs t) ≡ 0 → IsProperPart u t → ⊥
no_part u t none (of_input (i, within, is)) = omega (arith, none, within)
no_part u t none (of_part p (i, within, is)) = omega (arith, none, within)

-- an operator stands at the root of a tree of the rules that has parts
root_op : (r : Rules) (c : Catalog) (t u : Tree Label) → IsTree r c t → IsProperPart u t → (op : ℕ) × (d : Desc) × (label t ≡ operator op d)
root_op r c (node (file name d) ts) u is part = absurd (no_part u (node (file name d) ts) is.1.1 part)
root_op r c (node (operator op d) ts) u is part = (op, d, refl)

-- over trees of the rules
module _ (r : Rules) (c : Catalog) (q : Tree Label) (trees : (k : ℕ) (t u : Tree Label) → Joined r c q k t u → IsTree r c t × IsTree r c u) where
  disagree_on : (k : ℕ) → Disagree r c q k → (p : ℕ) × (v w : Value) × DisagreeOn r c q k p v w
  disagree_on k (t, u, joined, differ) =
      let both = trees k t u joined in
      let a = length-fits r.properties (view_in r t) (view-IsDesc r c t both.0).0 in
      let b = length-fits r.properties (view_in r u) (view-IsDesc r c u both.1).0 in
      let (p, v, w, this, that, apart) = apart_at (view_in r t) (view_in r u) (a ∙ sym b) differ in
      (p, v, w, record { one = t; other = u; joined = joined; this = this; that = that; differ = apart })

  on_disagree : (k : ℕ) → (p : ℕ) × (v w : Value) × DisagreeOn r c q k p v w → Disagree r c q k
  on_disagree k (p, v, w, on) = (on.one, on.other, on.joined, λ same. on.differ (some-same (sym on.this ∙ (ap (λ (d : Desc). slice_get d p) same ∙ on.that))))

  pub disagree_is_on : (k : ℕ) → Disagree r c q k ↔ ((p : ℕ) × (v w : Value) × DisagreeOn r c q k p v w)
  disagree_is_on k = (disagree_on k, on_disagree k)

  loop_at : Loop r c q → (op : ℕ) × LoopAt r c q op
  loop_at (t, u, (k, joined), part) =
      let (op, d, is) = root_op r c t u (trees k t u joined).0 part in
      (op, (t, u, (k, joined), part, (d, is)))

  at_loop : (op : ℕ) × LoopAt r c q op → Loop r c q
  at_loop (op, (t, u, equal, part, root)) = (t, u, equal, part)

  pub loop_is_at : Loop r c q ↔ ((op : ℕ) × LoopAt r c q op)
  loop_is_at = (loop_at, at_loop)
