-- The oldest expression of a class gives the class its number.
use Rattle.std.proofs.Common.{◌≡◌, ℕ, ◌<◌, ◌≤◌, List, Option, Some, length, slice_get, ap, sym, ◌∙◌, subst}
use Rattle.derivation.specs.declared.reason.Line.{Line}
use Rattle.derivation.specs.declared.terms.Term.{Term}
use Rattle.memo.specs.declared.expr.Expr.{Expr}
use Rattle.memo.specs.declared.expr.Known.{Known}
use Rattle.memo.specs.Forest.{IsOneClass, IsForest}
use Rattle.memo.proofs.UnionLaws.{within}

some_is : {A : Type 0} (a b : A) → Some a ≡ Some b → a ≡ b
some_is a b e = cc

module _ {L : Type 0} (terms : List (Term L)) (lines : List Line) (exprs : List (Expr L)) (known : List (Option Known)) (forest : IsForest terms lines exprs known) (c : ℕ) (e : Expr L) (at : slice_get exprs c ≡ Some e) where
  pub root_low : e.class < length exprs
  root_low = let (r, at_r, own, has) = forest.home c e at in within exprs e.class r at_r

  pub oldest : (i : ℕ) → IsOneClass exprs i c → e.class ≤ i
  oldest i (a, b, at_a, at_b, one) =
      let same : a.class ≡ e.class = one ∙ ap (λ (x : Expr L). x.class) (some_is b e (sym at_b ∙ at)) in
      subst (λ n. n ≤ i) same (forest.older i a at_a)
