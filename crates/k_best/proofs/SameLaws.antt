-- Solutions with the same labels show the same.
use Rattle.std.proofs.Common.{◌≡◌, ℕ, ◌<◌, List, [], ◌∷◌, length, map, refl, ap, sym, subst}
use Rattle.std.specs.List.{AllByRecursion}
use Rattle.best_plan.specs.declared.solution.Solution.{Solution}
use Rattle.best_plan.specs.Moves.{Graph, IsAlternative}
use Rattle.k_best.specs.declared.lists.Lists.{Lists}
use Rattle.k_best.specs.Showings.{row, shown, shown_at, shown_by}
use Rattle.k_best.specs.Lists.{AreLabelled, label_at, EndBy}
use Rattle.k_best.specs.Picks.{IsPick}
use Rattle.k_best.proofs.ListedLaws.{within_before}

module _ (face : ℕ → ℕ → ℕ) (ss : List Solution) (labels : List ℕ) (labelled : AreLabelled face ss labels) where
  pub labels_show : (xs ys : List ℕ) → AllByRecursion (λ at. at < length labels) xs → AllByRecursion (λ at. at < length labels) ys
      → map (label_at labels) xs ≡ map (label_at labels) ys → map (shown_at (shown face ss)) xs ≡ map (shown_at (shown face ss)) ys
  labels_show [] [] a b e = refl
  labels_show [] (y ∷ ys) a b e = cc
  labels_show (x ∷ xs) [] a b e = cc
  labels_show (x ∷ xs) (y ∷ ys) a b e =
      let first : label_at labels x ≡ label_at labels y = cc in let rest : map (label_at labels) xs ≡ map (label_at labels) ys = cc in
      let here = (labelled.same x y a.0 b.0).0 first in let more = labels_show xs ys a.1 b.1 rest in cc

  pub shown_labels : (xs ys : List ℕ) → AllByRecursion (λ at. at < length labels) xs → AllByRecursion (λ at. at < length labels) ys
      → row (map (shown_at (shown face ss)) xs) ≡ row (map (shown_at (shown face ss)) ys) → map (label_at labels) xs ≡ map (label_at labels) ys
  shown_labels [] [] a b e = refl
  shown_labels [] (y ∷ ys) a b e = cc
  shown_labels (x ∷ xs) [] a b e = cc
  shown_labels (x ∷ xs) (y ∷ ys) a b e =
      let first : shown_at (shown face ss) x ≡ shown_at (shown face ss) y = cc in
      let rest : row (map (shown_at (shown face ss)) xs) ≡ row (map (shown_at (shown face ss)) ys) = cc in
      let here = (labelled.same x y a.0 b.0).1 first in let more = shown_labels xs ys a.1 b.1 rest in cc

  pub same_shown : (s t : Solution) → AllByRecursion (λ at. at < length labels) s.inputs → AllByRecursion (λ at. at < length labels) t.inputs
      → s.cost ≡ t.cost → face s.goal s.k ≡ face t.goal t.k → map (label_at labels) s.inputs ≡ map (label_at labels) t.inputs → shown_by face (shown face ss) s ≡ shown_by face (shown face ss) t
  same_shown s t a b cost seen e = let inputs = ap row (labels_show s.inputs t.inputs a b e) in cc

  pub shown_same : (s t : Solution) → AllByRecursion (λ at. at < length labels) s.inputs → AllByRecursion (λ at. at < length labels) t.inputs
      → shown_by face (shown face ss) s ≡ shown_by face (shown face ss) t → map (label_at labels) s.inputs ≡ map (label_at labels) t.inputs
  shown_same s t a b e = let inputs : row (map (shown_at (shown face ss)) s.inputs) ≡ row (map (shown_at (shown face ss)) t.inputs) = cc in shown_labels s.inputs t.inputs a b inputs

pub pick_alternative : (m : Graph) (l : Lists) (g : ℕ) (s : Solution) → IsPick m l g s → IsAlternative m s.goal s.k
pick_alternative m l g s pick = subst (λ h. IsAlternative m h s.k) (sym pick.goal) pick.alternative

pub pick_inputs : (m : Graph) (l : Lists) (g n : ℕ) (s : Solution) → EndBy l.spans n → IsPick m l g s → AllByRecursion (λ at. at < n) s.inputs
pick_inputs m l g n s ends pick = within_before l.spans n ends (m.alternative g s.k).inputs s.inputs pick.within
