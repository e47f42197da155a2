-- Numbers under older ones, each with a line that equates their trees.
use Rattle.std.specs.Prelude.{◌≡◌, ◌⊎◌, ℕ, ◌<◌, ◌≤◌, List, Some, slice_get, slice_set, length}
use Rattle.derivation.specs.Log.{LogValue}
use Rattle.derivation.specs.declared.reason.Line.{Line}
use Rattle.memo.specs.declared.union.Up.{Up}
use Rattle.memo.specs.declared.expr.Join.{Join}
use Rattle.memo.specs.Forest.{HasLine}

-- the number's tree
abbrev pub IsTreeAt : List Up → ℕ → ℕ → Type 0
IsTreeAt ups i n = (u : Up) × (slice_get ups i ≡ Some u) × (u.tree ≡ n)

-- each is under an older one, or itself, and a line equates their trees
pub record IsUnion (lines : List Line) (ups : List Up) : Type 0 where
  pub older : (i : ℕ) (u : Up) → slice_get ups i ≡ Some u → u.parent ≤ i
  pub up : (i : ℕ) (u : Up) → slice_get ups i ≡ Some u → (p : Up) × (slice_get ups u.parent ≡ Some p) × HasLine lines u.line u.tree p.tree

-- r stands above the number, and under none
pub data IsRootOf (ups : List Up) : ℕ → ℕ → Type 0 where
  stop : {i : ℕ} (u : Up) → slice_get ups i ≡ Some u → u.parent ≡ i → IsRootOf ups i i
  up : {i r : ℕ} (u : Up) → slice_get ups i ≡ Some u → u.parent < i → IsRootOf ups u.parent r → IsRootOf ups i r

abbrev pub SameRoot : List Up → ℕ → ℕ → Type 0
SameRoot ups x y = (r : ℕ) × IsRootOf ups x r × IsRootOf ups y r

-- the line equates the trees of two numbers
abbrev pub Equates2 : List Line → List Up → ℕ → ℕ → ℕ → Type 0
Equates2 lines ups i x y = (a b : Up) × (slice_get ups x ≡ Some a) × (slice_get ups y ≡ Some b) × HasLine lines i a.tree b.tree

-- the root of a number, with the line from its tree
abbrev pub IsRootLine : List Line → List Up → ℕ → ℕ × ℕ → Type 0
IsRootLine lines ups i p = IsRootOf ups i p.0 × Equates2 lines ups p.1 i p.0

-- one root is put under an older one, by a line that equates their trees
abbrev pub IsUnder : List Line → List Up → List Up → ℕ → ℕ → Type 0
IsUnder lines old new b a =
    (a < b) × ((u w : Up) × (line : ℕ) × (slice_get old b ≡ Some u) × (slice_get old a ≡ Some w) × HasLine lines line u.tree w.tree × (new ≡ slice_set old b (record { tree = u.tree; parent = a; line = line })))

-- the roots of two numbers are put together
abbrev pub IsLinked : List Line → List Up → List Up → ℕ → ℕ → Type 0
IsLinked lines old new x y = (a b : ℕ) × IsRootOf old x a × IsRootOf old y b × (((a ≡ b) × (new ≡ old)) ⊎ (IsUnder lines old new b a ⊎ IsUnder lines old new a b))

-- what joins put together
pub data IsTied (ups : List Up) (joins : List Join) : ℕ → ℕ → Type 0 where
  was : {x y : ℕ} → SameRoot ups x y → IsTied ups joins x y
  joined : (j : Join) (i : ℕ) → slice_get joins i ≡ Some j → IsTied ups joins j.left j.right
  turned : {x y : ℕ} → IsTied ups joins x y → IsTied ups joins y x
  chained : {x y z : ℕ} → IsTied ups joins x y → IsTied ups joins y z → IsTied ups joins x z

-- the same trees
abbrev pub SameTrees : List Up → List Up → Type 0
SameTrees old new = (length new ≡ length old) × ((i n : ℕ) → IsTreeAt old i n → IsTreeAt new i n)

-- each is right under its root
abbrev pub AreFlat : List Up → List Up → Type 0
AreFlat old new = (i : ℕ) (u : Up) → slice_get new i ≡ Some u → IsRootOf old i u.parent

module _ {L S : Type 0} (old new : LogValue L S) where
  -- the line `n = k` from `m = n`, `m = l` and `l = k`
  abbrev pub Betweens : ℕ → ℕ → ℕ → ℕ → Type 0
  Betweens to_b across to_a i = (k l m n : ℕ) → HasLine old.lines to_b m n → HasLine old.lines across m l → HasLine old.lines to_a l k → HasLine new.lines i n k

-- the one stands above the other or is it, and the line equates their trees
pub record IsUpTo (lines : List Line) (ups : List Up) (i at line : ℕ) : Type 0 where
  pub roots : (r : ℕ) → IsRootOf ups at r → IsRootOf ups i r
  pub equates : Equates2 lines ups line i at

-- the line of each join equates the trees of its numbers
abbrev pub AreJoins : List Line → List Up → List Join → Type 0
AreJoins lines ups joins = (i : ℕ) (j : Join) → slice_get joins i ≡ Some j → Equates2 lines ups j.line j.left j.right

-- the first joins are made: what they tie together has one root, and nothing else has
pub record IsUniting (lines : List Line) (joins : List Join) (first now : List Up) (n : ℕ) : Type 0 where
  pub union : IsUnion lines now
  pub trees : SameTrees first now
  pub kept : (x y : ℕ) → SameRoot first x y → SameRoot now x y
  pub done : (i : ℕ) (j : Join) → i < n → slice_get joins i ≡ Some j → SameRoot now j.left j.right
  pub sound : (x y : ℕ) → SameRoot now x y → IsTied first joins x y

-- the numbers below n are right under their roots, and the others are as they were
pub record IsFlattened (lines : List Line) (first now : List Up) (n : ℕ) : Type 0 where
  pub union : IsUnion lines now
  pub trees : SameTrees first now
  pub done : (i : ℕ) (u : Up) → i < n → slice_get now i ≡ Some u → IsRootOf first i u.parent
  pub rest : (i : ℕ) → n ≤ i → slice_get now i ≡ slice_get first i

-- a number is put under its parent's parent, where that is another
abbrev pub IsLifted : List Line → List Up → List Up → ℕ → Type 0
IsLifted lines old new i =
    (u p : Up) × (slice_get old i ≡ Some u) × (slice_get old u.parent ≡ Some p) × (((new ≡ old) × (u.parent ≤ p.parent)) ⊎ ((p.parent < u.parent) × ((r : Up) × (line : ℕ) × (slice_get old p.parent ≡ Some r) × HasLine lines line u.tree r.tree × (new ≡ slice_set old i (record { tree = u.tree; parent = p.parent; line = line })))))
