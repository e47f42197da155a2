-- What is joined to a tree of the rules is one.
use Rattle.std.proofs.Common.{◌≡◌, ℕ, zero, suc, List, [], ◌∷◌, length, Option, Some, refl, ap, sym, ◌∙◌, subst}
use Rattle.std.specs.Prelude.{slice_get, slice_set}
use Rattle.action_eval.proofs.TypeLaws.{some-same}
use Rattle.catalog.specs.Contents.{Catalog}
use Rattle.derivation.specs.Joined.{Joined, query, part, rule, turn, chain, inside}
use Rattle.descriptor_types.specs.Labels.{Label, file, operator}
use Rattle.pr_value.specs.Trees.{Tree, node, Trees, nil, cons, input, with_input, list_of, trees_of}
use Rattle.rule_ast.specs.Syntax.{Rules}
use Rattle.rule_trees.specs.Steps.{step}
use Rattle.rule_trees.specs.Trees.{AreTrees, IsTree}

input-AreTrees : (r : Rules) (c : Catalog) (ts : Trees Label) (i : ℕ) (u : Tree Label) → AreTrees r c ts → slice_get (list_of ts) i ≡ Some u → IsTree r c u
input-AreTrees r c nil i u are e = cc
input-AreTrees r c (cons t ts) zero u are e = subst (IsTree r c) (some-same e) are.0
input-AreTrees r c (cons t ts) (suc i) u are e = input-AreTrees r c ts i u are.1 e

input-IsTree : (r : Rules) (c : Catalog) (t u : Tree Label) (i : ℕ) → IsTree r c t → input t i ≡ Some u → IsTree r c u
input-IsTree r c (node l ts) u i is e = input-AreTrees r c ts i u is.2 e

again : (r : Rules) (c : Catalog) (ts : Trees Label) → AreTrees r c ts → AreTrees r c (trees_of (list_of ts))
again r c nil are = tt
again r c (cons t ts) are = (are.0, again r c ts are.1)

put-AreTrees : (r : Rules) (c : Catalog) (ts : Trees Label) (i : ℕ) (u : Tree Label) → AreTrees r c ts → IsTree r c u → AreTrees r c (trees_of (slice_set (list_of ts) i u))
put-AreTrees r c nil i u are is = tt
put-AreTrees r c (cons t ts) zero u are is = (is, again r c ts are.1)
put-AreTrees r c (cons t ts) (suc i) u are is = (are.0, put-AreTrees r c ts i u are.1 is)

again-long : (ts : Trees Label) → length (list_of (trees_of (list_of ts))) ≡ length (list_of ts)
again-long nil = refl
again-long (cons t ts) = ap suc (again-long ts)

put-long : (ts : Trees Label) (i : ℕ) (u : Tree Label) → length (list_of (trees_of (slice_set (list_of ts) i u))) ≡ length (list_of ts)
put-long nil i u = refl
put-long (cons t ts) zero u = ap suc (again-long ts)
put-long (cons t ts) (suc i) u = ap suc (put-long ts i u)

with_input-IsTree : (r : Rules) (c : Catalog) (t u : Tree Label) (i : ℕ) → IsTree r c t → IsTree r c u → IsTree r c (with_input t i u)
with_input-IsTree r c (node (file name d) ts) u i is one = (is.0, (is.1.0, put-long ts i u ∙ is.1.1), put-AreTrees r c ts i u is.2 one)
with_input-IsTree r c (node (operator op d) ts) u i is one = (is.0, (is.1.0, is.1.1, is.1.2 ∙ sym (put-long ts i u)), put-AreTrees r c ts i u is.2 one)

module _ {L : Type 0} (step : ℕ → Tree L → Option (Tree L)) (q : Tree L) (P : Tree L → Type 0) (first : P q)
    (parts : (t u : Tree L) (i : ℕ) → P t → input t i ≡ Some u → P u) (steps : (n : ℕ) (t u : Tree L) → P t → step n t ≡ Some u → P u) (puts : (t u : Tree L) (i : ℕ) → P t → P u → P (with_input t i u)) where
  -- what holds of the query, and is kept, holds of both trees of a line
  pub joined_both : {k : ℕ} {t u : Tree L} → Joined step q k t u → P t × P u
  joined_both query = (first, first)
  joined_both (part {k} {s} {t} {u} i p e) = let h = parts t u i (joined_both p).1 e in (h, h)
  joined_both (rule {k} {s} {t} {u} n p e) = let h = (joined_both p).1 in (h, steps n t u h e)
  joined_both (turn p) = let h = joined_both p in (h.1, h.0)
  joined_both (chain p p') = ((joined_both p).0, (joined_both p').1)
  joined_both (inside {k} {s} {t} {u} {v} i p e p') = let h = (joined_both p).1 in (h, puts t v i h (joined_both p').1)

module _ (r : Rules) (c : Catalog) (keeps : (n : ℕ) (t u : Tree Label) → IsTree r c t → step r c n t ≡ Some u → IsTree r c u) (q : Tree Label) (is : IsTree r c q) where
  pub joined-trees : (k : ℕ) (t u : Tree Label) → Joined (step r c) q k t u → IsTree r c t × IsTree r c u
  joined-trees k t u p = joined_both (step r c) q (IsTree r c) is (input-IsTree r c) keeps (with_input-IsTree r c) p
