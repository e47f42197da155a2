-- One level of an expression.
use Rattle.std.proofs.Common.{◌≡◌, ℕ, zero, suc, ◌-◌, ◌<◌, None, refl, arith, ap}
use Rattle.rule_syntax.specs.Tokens.{Text}
use Rattle.rule_syntax.specs.ReadingExpr.{expr_at, level_at}

pub expr_at-level : (n : ℕ) (ts : Text) → 0 < n → expr_at n ts ≡ level_at (expr_at (n - 1)) ts
unfolding expr_at
expr_at-level zero ts h = absurd (omega arith)
expr_at-level (suc n) ts h = let e : n ≡ suc n - 1 = omega arith in ap (λ k. level_at (expr_at k) ts) e

pub expr_at-none : (ts : Text) → expr_at 0 ts ≡ None
unfolding expr_at
expr_at-none ts = refl

pub ruleset levels_lemmas = (expr_at-level, expr_at-none)
