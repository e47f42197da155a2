-- What is joined with views is what is joined without, and so are the stops.
use Rattle.std.proofs.Common.{◌≡◌, ℕ, suc, ◌<◌, Option, Some, None, option_map, refl, ap, sym, ◌∙◌, subst}
use Rattle.std.specs.Prelude.{◌↔◌, ◌≢◌}
use Rattle.pr_value.specs.Trees.{Tree, node, label, height, input, with_input}
use Rattle.catalog.specs.Contents.{Catalog}
use Rattle.derivation.specs.Equality as equality
use Rattle.derivation.specs.Joined.{query, part, rule, turn, chain, inside}
use Rattle.descriptor_types.specs.Labels.{Label, file, operator}
use Rattle.tree_terms.proofs.DressedTrees.{some_is, mapped_input, mapped_input_back, mapped_with_input, mapped_height, mapped_same}
use Rattle.tree_terms.specs.Dressed.{dressed, dressed_step}
use Rattle.tree_terms.specs.Equality.{Joined, IsQuiet, Spent, Disagree, IsHigher}
use Rattle.tree_terms.specs.DressedLaws.{DressedJoined, DressedDisagree, DressedHigher}
use Rattle.rule_trees.specs.Steps.{step}
use Rattle.tree_terms.specs.TreeLabels.{plain_label, dressed_label, view_of}
use Rattle.rule_trees.specs.Trees.{IsTree}
use Rattle.rule_trees.specs.Views.{view_in}
use Rattle.tree_terms.specs.declared.labels.TreeLabel.{TreeLabel}
use Rattle.rule_ast.specs.Syntax.{Rules}

plain_dressed : (r : Rules) (l : Label) → plain_label (dressed_label r l) ≡ l
plain_dressed r (file name d) = refl
plain_dressed r (operator op d) = refl

view_dressed : (r : Rules) (t : Tree Label) → view_of (label (dressed r t)) ≡ view_in r t
view_dressed r (node (file name d) ts) = refl
view_dressed r (node (operator op d) ts) = refl

map_some : {A B : Type 0} (f : A → B) (o : Option A) (y : B) → option_map f o ≡ Some y → (x : A) × (o ≡ Some x) × (y ≡ f x)
map_some f None y e = absurd (nothing e)
  where
    nothing : None ≡ Some y → ⊥
    nothing e = cc
map_some f (Some x) y e = (x, refl, sym (some_is (f x) y e))

-- under rules whose steps are the same with views, and over trees of the rules
module _ (r : Rules) (c : Catalog) (q : Tree Label)
    (steps : (n : ℕ) (t : Tree Label) → IsTree r c t → dressed_step r c n (dressed r t) ≡ option_map (dressed r) (step r c n t))
    (trees : (k : ℕ) (t u : Tree Label) → Joined r c q k t u → IsTree r c t × IsTree r c u) where
  pub same_tree : (t u : Tree Label) → dressed r t ≡ dressed r u → t ≡ u
  same_tree = mapped_same (dressed_label r) plain_label (plain_dressed r)

  abbrev Only : ℕ → Tree TreeLabel → Tree TreeLabel → Type 0
  Only k v w = (t u : Tree Label) × (v ≡ dressed r t) × (w ≡ dressed r u) × Joined r c q k t u

  -- ---- with views to without

  parted : {k : ℕ} (i : ℕ) (s t u : Tree TreeLabel) → Only k s t → input t i ≡ Some u → Only k u u
  parted i s t u (s', t', s_is, t_is, p) at =
      let (u', at', u_is) = mapped_input_back (dressed_label r) t' i u (subst (λ x. input x i ≡ Some u) t_is at) in
      (u', u', u_is, u_is, part i p at')

  ruled : {k : ℕ} (n : ℕ) (s t u : Tree TreeLabel) → Only k s t → dressed_step r c n t ≡ Some u → Only (suc k) t u
  ruled {k} n s t u (s', t', s_is, t_is, p) made =
      let made' = sym (steps n t' (trees k s' t' p).1) ∙ subst (λ x. dressed_step r c n x ≡ Some u) t_is made in
      let (u', step_is, u_is) = map_some (dressed r) (step r c n t') u made' in
      (t', u', t_is, u_is, rule n p step_is)

  chained : {k : ℕ} (s t u : Tree TreeLabel) → Only k s t → Only k t u → Only k s u
  chained {k} s t u (s', t', s_is, t_is, p) (t'', u', t_is', u_is, p') =
      (s', u', s_is, u_is, chain p (subst (λ x. Joined r c q k x u') (same_tree t'' t' (sym t_is' ∙ t_is)) p'))

  exchanged : {k : ℕ} (i : ℕ) (s t u v : Tree TreeLabel) → Only k s t → input t i ≡ Some u → Only k u v → Only k t (with_input t i v)
  exchanged {k} i s t u v (s', t', s_is, t_is, p) at (u', v', u_is, v_is, p') =
      let (u'', at', u_is') = mapped_input_back (dressed_label r) t' i u (subst (λ x. input x i ≡ Some u) t_is at) in
      let same : u' ≡ u'' = same_tree u' u'' (sym u_is ∙ u_is') in (
        t',
        with_input t' i v',
        t_is,
        (λ j. with_input (t_is j) i (v_is j)) ∙ mapped_with_input (dressed_label r) t' v' i,
        inside i p at' (subst (λ x. Joined r c q k x v') same p'),
      )

  pub only_dressed : {k : ℕ} {v w : Tree TreeLabel} → DressedJoined r c q k v w → Only k v w
  only_dressed query = (q, q, refl, refl, query)
  only_dressed (part {k} {s} {t} {u} i p at) = parted i s t u (only_dressed p) at
  only_dressed (rule {k} {s} {t} {u} n p made) = ruled n s t u (only_dressed p) made
  only_dressed (turn p) = let (t, u, t_is, u_is, p') = only_dressed p in (u, t, u_is, t_is, turn p')
  only_dressed (chain {k} {s} {t} {u} p p') = chained s t u (only_dressed p) (only_dressed p')
  only_dressed (inside {k} {s} {t} {u} {v} i p at p') = exchanged i s t u v (only_dressed p) at (only_dressed p')

  -- ---- and back

  pub forth : {k : ℕ} {t u : Tree Label} → Joined r c q k t u → DressedJoined r c q k (dressed r t) (dressed r u)
  forth query = query
  forth (part {k} {s} {t} {u} i p at) = part i (forth p) (mapped_input (dressed_label r) t u i at)
  forth (rule {k} {s} {t} {u} n p made) = rule n (forth p) (steps n t (trees k s t p).1 ∙ ap (option_map (dressed r)) made)
  forth (turn p) = turn (forth p)
  forth (chain p p') = chain (forth p) (forth p')
  forth (inside {k} {s} {t} {u} {v} i p at p') =
      subst (λ x. DressedJoined r c q k (dressed r t) x) (mapped_with_input (dressed_label r) t v i) (inside i (forth p) (mapped_input (dressed_label r) t u i at) (forth p'))

  pub back : (k : ℕ) (t u : Tree Label) → DressedJoined r c q k (dressed r t) (dressed r u) → Joined r c q k t u
  back k t u p =
      let (t', u', t_is, u_is, p') = only_dressed p in
      subst (λ x. Joined r c q k x u) (sym (same_tree t t' t_is)) (subst (λ x. Joined r c q k t' x) (sym (same_tree u u' u_is)) p')

  -- ---- the stops

  pub quiet_dressed : (k : ℕ) → IsQuiet r c q k ↔ equality.IsClosed (dressed_step r c) (dressed r q) k
  quiet_dressed k = (to, λ h t u p. back k t u (h (dressed r t) (dressed r u) (forth p)))
    where
      to : IsQuiet r c q k → equality.IsClosed (dressed_step r c) (dressed r q) k
      to h v w p =
          let (t, u, t_is, u_is, p') = only_dressed p in
          subst (λ x. DressedJoined r c q k x w) (sym t_is) (subst (λ x. DressedJoined r c q k (dressed r t) x) (sym u_is) (forth (h t u p')))

  pub spent_dressed : (k : ℕ) → Spent r c q k ↔ equality.IsOpen (dressed_step r c) (dressed r q) k
  spent_dressed k = (λ (t, u, p, new). (dressed r t, dressed r u, forth p, λ p'. new (back k t u p')), from)
    where
      from : equality.IsOpen (dressed_step r c) (dressed r q) k → Spent r c q k
      from (v, w, p, new) =
          let (t, u, t_is, u_is, p') = only_dressed p in
          (t, u, p', λ joined. new (subst (λ x. DressedJoined r c q k x w) (sym t_is) (subst (λ x. DressedJoined r c q k (dressed r t) x) (sym u_is) (forth joined))))

  pub disagree_dressed : (k : ℕ) → Disagree r c q k ↔ DressedDisagree r c q k
  disagree_dressed k = (λ (t, u, p, other). (dressed r t, dressed r u, forth p, λ e. other (sym (view_dressed r t) ∙ (e ∙ view_dressed r u))), from)
    where
      from : DressedDisagree r c q k → Disagree r c q k
      from (v, w, p, other) =
          let (t, u, t_is, u_is, p') = only_dressed p in
          (t, u, p', λ e. other (ap (λ x. view_of (label x)) t_is ∙ (view_dressed r t ∙ (e ∙ (sym (view_dressed r u) ∙ ap (λ x. view_of (label x)) (sym u_is))))))

  pub higher_dressed : (n : ℕ) → IsHigher r c q n ↔ DressedHigher r c q n
  higher_dressed n = (λ (t, (k, p), high). (dressed r t, (k, forth p), subst (λ m. n < m) (sym (mapped_height (dressed_label r) t)) high), from)
    where
      from : DressedHigher r c q n → IsHigher r c q n
      from (v, (k, p), high) =
          let (t, u, t_is, u_is, p') = only_dressed p in
          (u, (k, subst (λ x. Joined r c q k x u) (sym (same_tree q t t_is)) p'), subst (λ m. n < m) (ap height u_is ∙ mapped_height (dressed_label r) u) high)
