-- Capped numbers at their edges.
use Rattle.std.proofs.Common.{◌≡◌, ℕ, refl}
use Rattle.pr_value.specs.Capped.{cap, capped_add, capped_sub, capped_mul, capped_div, log2_up_to, log2}

add-past : capped_add 999_999_999_999_999_999 2 ≡ cap
add-past = refl

sub-below : capped_sub 3 5 ≡ 0
sub-below = refl

sub-past : capped_sub 18_446_744_073_709_551_615 1 ≡ cap
sub-past = refl

mul-at : capped_mul 1_000_000_000 1_000_000_000 ≡ cap
mul-at = refl

mul-past : capped_mul cap cap ≡ cap
mul-past = refl

div-down : capped_div 7 2 ≡ 3
div-down = refl

div-past : capped_div 18_446_744_073_709_551_615 1 ≡ cap
div-past = refl

div-zero : (m : ℕ) → capped_div m 0 ≡ cap
div-zero m = refl

log2-none : log2 0 ≡ 0
unfolding log2_up_to
log2-none = refl

log2-one : log2 1 ≡ 0
unfolding log2_up_to
log2-one = refl

log2-below : log2 7 ≡ 2
unfolding log2_up_to
log2-below = refl

log2-at : log2 8 ≡ 3
unfolding log2_up_to
log2-at = refl

log2-cap : log2 cap ≡ 59
unfolding log2_up_to
log2-cap = refl

log2-most : log2 18_446_744_073_709_551_615 ≡ 63
unfolding log2_up_to
log2-most = refl
