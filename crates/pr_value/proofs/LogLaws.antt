-- The greatest power of two that a number reaches.
use Rattle.std.proofs.Common.{◌≡◌, ℕ, zero, suc, ◌*◌, ◌^◌, ◌<◌, ◌≤◌, true, false, cond, leb, refl, sym, ◌∙◌, subst, inl, inr, arith}
use Rattle.std.proofs.Math.Pow.{pow_mono}
use Rattle.std.proofs.Math.Nat.{pow-suc}
use Rattle.std.proofs.lemmas.Bool.{cases_lt, leb-true, le-leb, false≢true}
use Rattle.pr_value.specs.Capped.{log2_up_to, log2}

pub log2-zero : (x : ℕ) → x ≡ 0 → 0 ≡ log2 x
unfolding log2_up_to
log2-zero x e = subst (λ y. 0 ≡ log2 y) (sym e) refl

-- k reaches x, and k + 1 does not
pub log2_up_to-is : (n x k : ℕ) → k ≤ n → 2 ^ k ≤ x → x < 2 * 2 ^ k → log2_up_to n x ≡ k
unfolding log2_up_to
log2_up_to-is zero x k small low high = omega arith
log2_up_to-is (suc n) x k small low high =
    elim (leb (2 ^ suc n) x) as (λ b. leb (2 ^ suc n) x ≡ b → cond b (suc n) (log2_up_to n x) ≡ k) [
      | true ↦ λ e. elim (cases_lt k (suc n)) [
        | inl below ↦
            let step : 2 ^ suc k ≤ 2 ^ suc n = pow_mono {i = suc k} {j = suc n} (omega arith) in
            absurd (omega (arith, leb-true (2 ^ suc n) x e, pow-suc 2 k))
        | inr above ↦ omega arith
      ]
      | false ↦ λ e. elim (cases_lt k (suc n)) [
        | inl below ↦ log2_up_to-is n x k (omega arith) low high
        | inr above ↦
            let last : k ≡ suc n = omega arith in
            absurd (false≢true (sym e ∙ le-leb (2 ^ suc n) x (subst (λ j. 2 ^ j ≤ x) last low)))
      ]
    ] refl

-- a number below 2^64 reaches no power past the 63rd
pub log2-small : (x k : ℕ) → x < 2 ^ 64 → 2 ^ k ≤ x → k < 64
log2-small x k small low =
    elim (cases_lt k 64) [
      | inl below ↦ below
      | inr above ↦
          let step : 2 ^ 64 ≤ 2 ^ k = pow_mono above in
          absurd (omega arith)
    ]

pub log2-is : (x k : ℕ) → x < 2 ^ 64 → 2 ^ k ≤ x → x < 2 * 2 ^ k → k ≡ log2 x
log2-is x k small low high = sym (log2_up_to-is 63 x k (omega (arith, log2-small x k small low)) low high)
