-- Trees with equated inputs are equated.
use Rattle.std.proofs.Common.{◌≡◌, List, [], ◌∷◌, ◌++◌, length, Some, slice_get, slice_set, refl, ap, sym, ◌∙◌, subst}
use Rattle.std.specs.List.{AllZip}
use Rattle.pr_value.specs.Trees.{Tree, node, Trees, tree, input, with_input, list_of}
use Rattle.pr_value.proofs.TreeLaws.{inputs_of_tree, trees_of_list_of}
use Rattle.derivation.specs.declared.reason.Line.{Line}
use Rattle.derivation.specs.declared.terms.Term.{Term}
use Rattle.memo.specs.Equates.{Equates, turn, chain, inside}

get_behind : {A : Type 0} (done : List A) (x : A) (xs : List A) → slice_get (done ++ x ∷ xs) (length done) ≡ Some x
get_behind [] x xs = refl
get_behind (y ∷ done) x xs = get_behind done x xs

set_behind : {A : Type 0} (done : List A) (x y : A) (xs : List A) → slice_set (done ++ x ∷ xs) (length done) y ≡ done ++ y ∷ xs
set_behind [] x y xs = refl
set_behind (z ∷ done) x y xs = ap (λ r. z ∷ r) (set_behind done x y xs)

append_one : {A : Type 0} (done : List A) (x : A) (xs : List A) → (done ++ x ∷ []) ++ xs ≡ done ++ x ∷ xs
append_one [] x xs = refl
append_one (y ∷ done) x xs = ap (λ r. y ∷ r) (append_one done x xs)

module _ {L : Type 0} (terms : List (Term L)) (lines : List Line) where
  replaced : (l : L) (done : List (Tree L)) (t u : Tree L) (ts : List (Tree L)) → Equates terms lines (tree l (done ++ t ∷ ts)) (tree l (done ++ t ∷ ts)) → Equates terms lines t u
      → Equates terms lines (tree l (done ++ t ∷ ts)) (tree l (done ++ u ∷ ts))
  replaced l done t u ts m p =
      let from : Tree L = tree l (done ++ t ∷ ts) in
      let at : input from (length done) ≡ Some t = ap (λ r. slice_get r (length done)) (inputs_of_tree l (done ++ t ∷ ts)) ∙ get_behind done t ts in
      let to : with_input from (length done) u ≡ tree l (done ++ u ∷ ts) = ap (λ r. tree l (slice_set r (length done) u)) (inputs_of_tree l (done ++ t ∷ ts)) ∙ ap (λ r. tree l r) (set_behind done t u ts) in
      subst (λ r. Equates terms lines from r) to (inside (length done) m at p)

  all_replaced : (l : L) (done ts us : List (Tree L)) → Equates terms lines (tree l (done ++ ts)) (tree l (done ++ ts)) → AllZip (Equates terms lines) ts us
      → Equates terms lines (tree l (done ++ ts)) (tree l (done ++ us))
  all_replaced l done [] [] m ps = m
  all_replaced l done [] (u ∷ us) m ps = absurd ps
  all_replaced l done (t ∷ ts) [] m ps = absurd ps
  all_replaced l done (t ∷ ts) (u ∷ us) m ps =
      let one : Equates terms lines (tree l (done ++ t ∷ ts)) (tree l (done ++ u ∷ ts)) = replaced l done t u ts m ps.0 in
      let met : Equates terms lines (tree l ((done ++ u ∷ []) ++ ts)) (tree l ((done ++ u ∷ []) ++ ts)) = subst (λ r. Equates terms lines (tree l r) (tree l r)) (sym (append_one done u ts)) (chain (turn one) one) in
      let rest : Equates terms lines (tree l ((done ++ u ∷ []) ++ ts)) (tree l ((done ++ u ∷ []) ++ us)) = all_replaced l (done ++ u ∷ []) ts us met ps.1 in
      chain one (subst (λ r. Equates terms lines (tree l r) (tree l (done ++ u ∷ us))) (append_one done u ts)
      (subst (λ r. Equates terms lines (tree l ((done ++ u ∷ []) ++ ts)) (tree l r)) (append_one done u us) rest))

  -- a met tree is equated with one of the same label over equated inputs
  pub alike_equated : (l : L) (ts us : Trees L) → Equates terms lines (node l ts) (node l ts) → AllZip (Equates terms lines) (list_of ts) (list_of us) → Equates terms lines (node l ts) (node l us)
  alike_equated l ts us m ps =
      let here : Equates terms lines (tree l (list_of ts)) (tree l (list_of ts)) = subst (λ r. Equates terms lines (node l r) (node l r)) (sym (trees_of_list_of ts)) m in
      subst (λ r. Equates terms lines (node l r) (node l us)) (trees_of_list_of ts) (subst (λ r. Equates terms lines (tree l (list_of ts)) (node l r)) (trees_of_list_of us) (all_replaced l [] (list_of ts) (list_of us) here ps))
