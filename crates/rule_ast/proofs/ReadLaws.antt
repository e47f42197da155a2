-- Whose costs the parts of an expression read: `reads_cost_of` of a whole and of its parts.
use Rattle.std.proofs.Common.{◌≡◌, Bool, true, false, not, ◌&&◌, ◌||◌, refl}
use Rattle.std.proofs.lemmas.Bool.{false≢true}

pub first_not : (a b : Bool) → not (a || b) ≡ true → not a ≡ true
first_not true b h = h
first_not false b h = refl

pub second_not : (a b : Bool) → not (a || b) ≡ true → not b ≡ true
second_not true b h = absurd (false≢true h)
second_not false b h = h

-- what is read is the cost, and so that of one of them
pub of_these : (is_cost is_one : Bool) → not (is_cost && not is_one) ≡ true → is_cost ≡ true → is_one ≡ true
of_these true true h e = refl
of_these true false h e = h
of_these false b h e = absurd (false≢true e)
