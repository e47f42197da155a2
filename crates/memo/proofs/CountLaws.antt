-- Counting one expression more.
use Rattle.std.proofs.Common.{◌≡◌, ℕ, zero, suc, ◌+◌, ◌≤◌, Bool, true, false, List, [], ◌∷◌, take, nat_eq, Some, slice_get, ap, sym, ◌∙◌, arith}
use Rattle.derivation.specs.Slices.{one_if}
use Rattle.memo.specs.declared.expr.Expr.{Expr}
use Rattle.memo.specs.Counts.{classes_from, lives}

pub few_more : (r n i : ℕ) (b : Bool) → r ≡ n + one_if b → n ≤ i → r ≤ i + 1
few_more r n i true is low = omega (arith, is, low)
few_more r n i false is low = omega (arith, is, low)

module _ {L : Type 0} where
  live_next : (es : List (Expr L)) (n : ℕ) (e : Expr L) → slice_get es n ≡ Some e → lives (take (suc n) es) ≡ lives (take n es) + one_if e.live
  live_next [] n e at = cc
  live_next (x ∷ es) zero e at = let same : x ≡ e = cc in ap (λ (y : Expr L). one_if y.live + 0) same ∙ (let n = one_if e.live in omega arith)
  live_next (x ∷ es) (suc n) e at = let h = live_next es n e at in omega (arith, h)

  class_next : (k : ℕ) (es : List (Expr L)) (n : ℕ) (e : Expr L) → slice_get es n ≡ Some e → classes_from k (take (suc n) es) ≡ classes_from k (take n es) + one_if (nat_eq e.class (k + n))
  class_next k [] n e at = cc
  class_next k (x ∷ es) zero e at =
      let same : x ≡ e = cc in
      let end : k ≡ k + 0 = omega arith in
      ap (λ (y : Expr L). one_if (nat_eq y.class k) + 0) same ∙ ap (λ m. one_if (nat_eq e.class m) + 0) end ∙ (let n = one_if (nat_eq e.class (k + 0)) in omega arith)
  class_next k (x ∷ es) (suc n) e at =
      let h = class_next (suc k) es n e at in
      let end : suc k + n ≡ k + suc n = omega arith in
      let h' : classes_from (suc k) (take (suc n) es) ≡ classes_from (suc k) (take n es) + one_if (nat_eq e.class (k + suc n)) = h ∙ ap (λ m. classes_from (suc k) (take n es) + one_if (nat_eq e.class m)) end in
      omega (arith, h')

  pub live_more : (es : List (Expr L)) (n : ℕ) (e : Expr L) → slice_get es n ≡ Some e → lives (take (n + 1) es) ≡ lives (take n es) + one_if e.live
  live_more es n e at = let one : suc n ≡ n + 1 = omega arith in ap (λ m. lives (take m es)) (sym one) ∙ live_next es n e at

  pub class_more : (es : List (Expr L)) (n : ℕ) (e : Expr L) → slice_get es n ≡ Some e → classes_from 0 (take (n + 1) es) ≡ classes_from 0 (take n es) + one_if (nat_eq e.class n)
  class_more es n e at = let one : suc n ≡ n + 1 = omega arith in let start : 0 + n ≡ n = omega arith in ap (λ m. classes_from 0 (take m es)) (sym one) ∙ class_next 0 es n e at ∙ ap (λ m. classes_from 0 (take n es) + one_if (nat_eq e.class m)) start
