-- Lists that begin alike, and the expressions of a memo.
use Rattle.std.proofs.Common.{◌≡◌, ℕ, ◌+◌, ◌≤◌, Bool, true, false, List, [], ◌∷◌, Some, length, take, slice_get, sym, ◌∙◌, arith}
use Rattle.std.proofs.lemmas.List.{take_more_same}
use Rattle.std.proofs.lemmas.Option.{get_or_from_slice_get, slice_get_within}
use Rattle.derivation.specs.Slices.{one_if}
use Rattle.memo.specs.declared.expr.Expr.{Expr}
use Rattle.memo.specs.Counts.{lives}

-- one more that is the same
pub begin_more : {A : Type 0} (xs ys : List A) (i : ℕ) (x y : A) → slice_get ys i ≡ Some y → slice_get xs i ≡ Some x → x ≡ y → take i xs ≡ take i ys → take (i + 1) xs ≡ take (i + 1) ys
begin_more xs ys i x y at_y at_x is same =
    take_more_same xs ys i x (slice_get_within xs i x at_x) (slice_get_within ys i y at_y) same (get_or_from_slice_get xs i x x at_x ∙ is ∙ sym (get_or_from_slice_get ys i y x at_y))

one_low : (b : Bool) (n m : ℕ) → n ≤ m → one_if b + n ≤ m + 1
one_low true n m h = omega (arith, h)
one_low false n m h = omega (arith, h)

pub lives_low : {L : Type 0} (es : List (Expr L)) → lives es ≤ length es
lives_low [] = omega arith
lives_low (e ∷ es) = let h = one_low e.live (lives es) (length es) (lives_low es) in omega (arith, h)
