-- A change of labels that keeps steps keeps what is joined.
use Rattle.std.proofs.Common.{◌≡◌, ℕ, zero, suc, List, [], ◌∷◌, Option, Some, slice_get, slice_set, refl, ap, sym, ◌∙◌, subst, map}
use Rattle.std.specs.Prelude.{option_map}
use Rattle.pr_value.specs.Trees.{Tree, node, Trees, nil, cons, list_of, trees_of, input, with_input, map_tree, map_trees}
use Rattle.derivation.specs.Joined.{Joined, query, part, rule, turn, chain, inside}

module _ {L M : Type 0} (f : L → M) where
  list_of_map : (ts : Trees L) → list_of (map_trees f ts) ≡ map (map_tree f) (list_of ts)
  list_of_map nil = refl
  list_of_map (cons t ts) = ap (λ r. map_tree f t ∷ r) (list_of_map ts)

  trees_of_map : (ts : List (Tree L)) → map_trees f (trees_of ts) ≡ trees_of (map (map_tree f) ts)
  trees_of_map [] = refl
  trees_of_map (t ∷ ts) = ap (λ r. cons (map_tree f t) r) (trees_of_map ts)

  get_map : (ts : List (Tree L)) (i : ℕ) (u : Tree L) → slice_get ts i ≡ Some u → slice_get (map (map_tree f) ts) i ≡ Some (map_tree f u)
  get_map [] i u e = cc
  get_map (t ∷ ts) zero u e = ap (λ o. option_map (map_tree f) o) e
  get_map (t ∷ ts) (suc i) u e = get_map ts i u e

  set_map : (ts : List (Tree L)) (i : ℕ) (u : Tree L) → map (map_tree f) (slice_set ts i u) ≡ slice_set (map (map_tree f) ts) i (map_tree f u)
  set_map [] i u = refl
  set_map (t ∷ ts) zero u = refl
  set_map (t ∷ ts) (suc i) u = ap (λ r. map_tree f t ∷ r) (set_map ts i u)

  input_map : (t : Tree L) (i : ℕ) (u : Tree L) → input t i ≡ Some u → input (map_tree f t) i ≡ Some (map_tree f u)
  input_map (node l ts) i u e = ap (λ r. slice_get r i) (list_of_map ts) ∙ get_map (list_of ts) i u e

  with_input_map : (t : Tree L) (i : ℕ) (u : Tree L) → map_tree f (with_input t i u) ≡ with_input (map_tree f t) i (map_tree f u)
  with_input_map (node l ts) i u =
      ap (λ r. node (f l) r) (trees_of_map (slice_set (list_of ts) i u) ∙ ap (λ r. trees_of r) (set_map (list_of ts) i u ∙ ap (λ r. slice_set r i (map_tree f u)) (sym (list_of_map ts))))

  module _ (step : ℕ → Tree L → Option (Tree L)) (step' : ℕ → Tree M → Option (Tree M)) (q : Tree L)
      (keeps : (r : ℕ) (t u : Tree L) → step r t ≡ Some u → step' r (map_tree f t) ≡ Some (map_tree f u)) where
    pub joined_map : {k : ℕ} {t u : Tree L} → Joined step q k t u → Joined step' (map_tree f q) k (map_tree f t) (map_tree f u)
    joined_map query = query
    joined_map (part {k} {s} {t} {u} i p e) = part i (joined_map p) (input_map t i u e)
    joined_map (rule {k} {s} {t} {u} r p e) = rule r (joined_map p) (keeps r t u e)
    joined_map (turn p) = turn (joined_map p)
    joined_map (chain p p') = chain (joined_map p) (joined_map p')
    joined_map (inside {k} {s} {t} {u} {v} i p e p') =
        subst (λ w. Joined step' (map_tree f q) k (map_tree f t) w) (sym (with_input_map t i v)) (inside i (joined_map p) (input_map t i u e) (joined_map p'))
