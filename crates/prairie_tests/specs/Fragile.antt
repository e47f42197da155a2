-- Numbers as labels, of which some have no copy, and a rule that makes one.
use Rattle.std.proofs.Common.{◌≡◌, ap, refl}
use Rattle.std.specs.Prelude.{ℕ, Bool, true, ◌==◌, Option, Some, None, if◌then◌else◌}
use Rattle.std.specs.Bool.{Decides}
use Rattle.std.specs.Cmp.{unsigned_Decides}
use Rattle.std.specs.Hash.{HashWrites, u64}
use Rattle.pr_value.specs.Trees.{Tree, node}
use Rattle.prairie_tests.specs.declared.fragile.Fragile.{Fragile}

abbrev pub labelled : ℕ → Fragile
labelled n = record { value = n }

abbrev pub same_fragile : Fragile → Fragile → Bool
same_fragile a b = a.value == b.value

pub same_fragile-equal : (a b : Fragile) → same_fragile a b ≡ true → a ≡ b
same_fragile-equal a b e = ap labelled ((unsigned_Decides a.value b.value).0 e)

pub same_fragile-Decides : (a b : Fragile) → Decides (same_fragile a b) (a ≡ b)
same_fragile-Decides a b = (same_fragile-equal a b, λ e. (unsigned_Decides a.value b.value).1 (ap (λ (x : Fragile). x.value) e))

abbrev pub hashed_fragile : Fragile → HashWrites
hashed_fragile a = u64 a.value

-- each rule turns the label 1 at a root into 100
abbrev pub fragile_step : ℕ → Tree Fragile → Option (Tree Fragile)
fragile_step rule (node l ts) = if l.value == 1 then Some (node (labelled 100) ts) else None
