-- Any two trees of a class are equated.
use Rattle.std.proofs.Common.{◌≡◌, ℕ, List, [], ◌∷◌, Option, Some, slice_get, refl, ap, sym, ◌∙◌, subst}
use Rattle.std.specs.List.{AllZip}
use Rattle.pr_value.specs.Trees.{Tree, node, Trees, nil, cons, list_of}
use Rattle.derivation.specs.declared.reason.Line.{Line}
use Rattle.derivation.specs.declared.terms.Term.{Term}
use Rattle.derivation.specs.Stands.{Stands, StandAll}
use Rattle.derivation.proofs.StandsLaws.{stands_for}
use Rattle.derivation.specs.Table.{AreEarlier}
use Rattle.derivation.specs.Log.{AreThere}
use Rattle.memo.specs.declared.expr.Expr.{Expr}
use Rattle.memo.specs.declared.expr.Known.{Known}
use Rattle.memo.specs.Equates.{Equates, line, turn, chain}
use Rattle.memo.specs.Forest.{HasLine, IsOneClass, IsTreeOf, AreTreesOf, IsKnownIn, Fits, IsForest}
use Rattle.memo.proofs.EquatesLaws.{alike_equated}

some_is : {A : Type 0} (a b : A) → Some a ≡ Some b → a ≡ b
some_is a b e = cc

one_class_sym : {L : Type 0} (exprs : List (Expr L)) (x y : ℕ) → IsOneClass exprs x y → IsOneClass exprs y x
one_class_sym exprs x y (a, b, at_x, at_y, same) = (b, a, at_y, at_x, sym same)

module _ {L : Type 0} (terms : List (Term L)) (lines : List Line) (exprs : List (Expr L)) (known : List (Option Known)) (forest : IsForest terms lines exprs known) where
  -- a known term's tree is a tree of its expression's class
  mutual
    unfolding Stands IsTreeOf

    pub known_tree : (n c : ℕ) (t : Tree L) → IsKnownIn exprs known n c → Stands terms n t → IsTreeOf exprs c t
    known_tree n c (node l us) (k, at_n, one) (term, at_term, is_l, row) =
        let (e, at_e, has, (term', at', label, zip)) = forest.seen n k at_n in
        let same : term' ≡ term = some_is term' term (sym at' ∙ at_term) in (
          k.expr,
          e,
          at_e,
          one,
          sym label ∙ ap (λ (x : Term L). x.label) same ∙ is_l,
          known_trees term.inputs e.inputs us (subst (λ (x : Term L). AllZip (IsKnownIn exprs known) x.inputs e.inputs) same zip) row,
        )

    pub known_trees : (ns cs : List ℕ) (us : Trees L) → AllZip (IsKnownIn exprs known) ns cs → StandAll terms ns us → AreTreesOf exprs cs us
    known_trees [] [] nil zip row = tt
    known_trees (n ∷ ns) (c ∷ cs) (cons u us) zip row = (known_tree n c u zip.0 row.0, known_trees ns cs us zip.1 row.1)
    known_trees [] (c ∷ cs) us zip row = absurd zip
    known_trees (n ∷ ns) [] us zip row = absurd zip
    known_trees [] [] (cons u us) zip row = absurd row
    known_trees (n ∷ ns) (c ∷ cs) nil zip row = absurd row

  line_equates : (i m n : ℕ) (t u : Tree L) → HasLine lines i m n → Stands terms m t → Stands terms n u → Equates terms lines t u
  line_equates i m n t u (l, at, left, right) h k = line i l at (subst (λ x. Stands terms x t) (sym left) h) (subst (λ x. Stands terms x u) (sym right) k)

  module _ (earlier : AreEarlier terms) (there : AreThere terms lines) where
    -- the number on the right of a line stands for a tree
    right_stands : (i m n : ℕ) → HasLine lines i m n → (u : Tree L) × Stands terms n u
    right_stands i m n (l, at, left, right) = let (u, h) = stands_for terms earlier l.right (there i l at).1 in (u, subst (λ x. Stands terms x u) right h)

    -- a tree of the root of an expression's class
    abbrev IsRootTree : ℕ → Tree L → Type 0
    IsRootTree c t = (a r : Expr L) × (slice_get exprs c ≡ Some a) × (slice_get exprs a.class ≡ Some r) × Stands terms r.tree t

    root_tree : (c : ℕ) (a : Expr L) → slice_get exprs c ≡ Some a → (t : Tree L) × IsRootTree c t
    root_tree c a at = let (r, at_r, flat, has) = forest.home c a at in let (t, h) = right_stands a.home a.tree r.tree has in (t, (a, r, at, at_r, h))

    -- a known term's tree is equated with the tree of the root
    known_equates : (n c : ℕ) (t r : Tree L) → IsKnownIn exprs known n c → Stands terms n t → IsRootTree c r → Equates terms lines t r
    known_equates n c t r (k, at_n, (a, b, at_a, at_b, one)) h (b', s, at_b', at_s, stands_r) =
        let (e, at_e, has, fits) = forest.seen n k at_n in
        let (u, stands_u) = right_stands k.line n e.tree has in
        let (root, at_root, flat, up) = forest.home k.expr e at_e in
        let same_b : b' ≡ b = some_is b' b (sym at_b' ∙ at_b) in
        let same_e : e ≡ a = some_is e a (sym at_e ∙ at_a) in
        let classes : e.class ≡ b'.class = ap (λ (x : Expr L). x.class) same_e ∙ one ∙ ap (λ (x : Expr L). x.class) (sym same_b) in
        let same_root : root ≡ s = some_is root s (sym at_root ∙ ap (λ x. slice_get exprs x) classes ∙ at_s) in
        chain (line_equates k.line n e.tree t u has h stands_u) (line_equates e.home e.tree root.tree u r up stands_u (subst (λ (x : Expr L). Stands terms x.tree r) (sym same_root) stands_r))

    over : (tree : Tree L) (e : Expr L) (l : L) (us : Trees L) → e.label ≡ l → Fits exprs known terms e.tree e → Stands terms e.tree tree → Equates terms lines tree tree
        → ((ns : List ℕ) (ws : Trees L) → AllZip (IsKnownIn exprs known) ns e.inputs → StandAll terms ns ws → AllZip (Equates terms lines) (list_of ws) (list_of us)) → Equates terms lines tree (node l us)
    unfolding Stands IsTreeOf
    over (node k ws) e l us is_l (term, at, label, zip) (term', at', is_k, row') met inner =
        let same : term' ≡ term = some_is term' term (sym at' ∙ at) in
        let labels : k ≡ l = sym is_k ∙ ap (λ (x : Term L). x.label) same ∙ label ∙ is_l in
        subst (λ x. Equates terms lines (node k ws) (node x us)) labels (alike_equated terms lines k ws us met (inner term.inputs ws zip (subst (λ (x : Term L). StandAll terms x.inputs ws) same row')))

    -- every tree of a class is equated with the tree of its root
    mutual
      unfolding Stands IsTreeOf

      pub tree_equates : (c : ℕ) (t r : Tree L) → IsTreeOf exprs c t → IsRootTree c r → Equates terms lines r t
      tree_equates c (node l us) r (i, e, at_e, (a, b, at_a, at_b, one), is_l, row) (b', s, at_b', at_s, stands_r) =
          let (root, at_root, flat, up) = forest.home i e at_e in
          let (ln, at_ln, ends) = forest.ends i e at_e in
          let (tree, stands_tree) = stands_for terms earlier ln.right (there e.line ln at_ln).1 in
          let stands_e : Stands terms e.tree tree = subst (λ x. Stands terms x tree) ends stands_tree in
          let (before, stands_before) = stands_for terms earlier ln.left (there e.line ln at_ln).0 in
          let met : Equates terms lines tree tree = chain (turn (line e.line ln at_ln stands_before stands_tree)) (line e.line ln at_ln stands_before stands_tree) in
          let same_b : b' ≡ b = some_is b' b (sym at_b' ∙ at_b) in
          let same_e : e ≡ a = some_is e a (sym at_e ∙ at_a) in
          let classes : e.class ≡ b'.class = ap (λ (x : Expr L). x.class) same_e ∙ one ∙ ap (λ (x : Expr L). x.class) (sym same_b) in
          let same_root : root ≡ s = some_is root s (sym at_root ∙ ap (λ x. slice_get exprs x) classes ∙ at_s) in
          let to_root : Equates terms lines tree r = line_equates e.home e.tree root.tree tree r up stands_e (subst (λ (x : Expr L). Stands terms x.tree r) (sym same_root) stands_r) in
          chain (turn to_root) (over tree e l us is_l (forest.fits i e at_e) stands_e met (λ ns ws zip row'. rows_equate ns e.inputs ws us zip row' row))

      rows_equate : (ns cs : List ℕ) (ws us : Trees L) → AllZip (IsKnownIn exprs known) ns cs → StandAll terms ns ws → AreTreesOf exprs cs us → AllZip (Equates terms lines) (list_of ws) (list_of us)
      rows_equate [] [] nil nil zip row row' = tt
      rows_equate (n ∷ ns) (c ∷ cs) (cons w ws) (cons u us) zip row row' =
          let (k, at_n, (a, b, at_a, at_b, one)) = zip.0 in
          let (r, root) = root_tree c b at_b in
          (chain (known_equates n c w r zip.0 row.0 root) (tree_equates c u r row'.0 root), rows_equate ns cs ws us zip.1 row.1 row'.1)
      rows_equate [] (c ∷ cs) ws us zip row row' = absurd zip
      rows_equate (n ∷ ns) [] ws us zip row row' = absurd zip
      rows_equate [] [] (cons w ws) us zip row row' = absurd row
      rows_equate [] [] nil (cons u us) zip row row' = absurd row'
      rows_equate (n ∷ ns) (c ∷ cs) nil us zip row row' = absurd row
      rows_equate (n ∷ ns) (c ∷ cs) (cons w ws) nil zip row row' = absurd row'

    -- any two trees of one class are equated
    pub one_class_equates : (c : ℕ) (a : Expr L) (t u : Tree L) → slice_get exprs c ≡ Some a → IsTreeOf exprs c t → IsTreeOf exprs c u → Equates terms lines t u
    one_class_equates c a t u at h k = let (r, root) = root_tree c a at in chain (turn (tree_equates c t r h root)) (tree_equates c u r k root)

    -- an expression's line ends at a tree of it
    pub proved_line : (i : ℕ) (e : Expr L) → slice_get exprs i ≡ Some e → (l : Line) × (t : Tree L) × (slice_get lines e.line ≡ Some l) × Stands terms l.right t × IsTreeOf exprs i t
    unfolding Stands IsTreeOf
    proved_line i e at =
        let (l, at_l, ends) = forest.ends i e at in
        let (t, stands) = stands_for terms earlier l.right (there e.line l at_l).1 in
        (l, t, at_l, stands, of_fits i e t at (forest.fits i e at) (subst (λ x. Stands terms x t) ends stands))
      where
        of_fits : (i : ℕ) (e : Expr L) (t : Tree L) → slice_get exprs i ≡ Some e → Fits exprs known terms e.tree e → Stands terms e.tree t → IsTreeOf exprs i t
        of_fits i e (node l us) at (term, at_term, label, zip) (term', at', is_l, row) =
            let same : term ≡ term' = some_is term term' (sym at_term ∙ at') in
            (i, e, at, (e, e, at, at, refl), sym label ∙ ap (λ (x : Term L). x.label) same ∙ is_l, known_trees term'.inputs e.inputs us (subst (λ (x : Term L). AllZip (IsKnownIn exprs known) x.inputs e.inputs) same zip) row)
