-- Laws of matching and making, for anything that has a root and inputs.
use Rattle.std.specs.Prelude.{◌≡◌, ℕ, ◌+◌, ◌<◌, ◌≤◌, suc, length, Option, Some, None, ⊤}
use Rattle.std.specs.List.{AllZip}
use Rattle.pr_value.specs.Trees.{node, Trees, nil, cons}
use Rattle.rule_runs.specs.Matching.{Matched, Rooted}
use Rattle.rule_runs.specs.Sides.{Side, SideLabel, operator, stream}

-- two kinds of things, of which those that are related have the same root over related inputs
pub record LookAlike {A B : Type 0} (ra : Rooted A) (rb : Rooted B) (R : A → B → Type 0) : Type 0 where
  pub op : (a : A) (b : B) → R a b → ra.op a ≡ rb.op b
  pub whole : (a : A) (b : B) → R a b → ra.whole a ≡ rb.whole b
  pub view : (a : A) (b : B) → R a b → ra.view a ≡ rb.view b
  pub inputs : (a : A) (b : B) → R a b → AllZip R (ra.inputs a) (rb.inputs b)

-- both match, with the same slots and related streams, or neither does
abbrev pub MatchAlike : {A B : Type 0} → (A → B → Type 0) → Option (Matched A) → Option (Matched B) → Type 0
MatchAlike R None None = ⊤
MatchAlike R (Some m) (Some n) = (m.slots ≡ n.slots) × AllZip R m.streams n.streams
MatchAlike R None (Some n) = ⊥
MatchAlike R (Some m) None = ⊥

-- how many operators a side has
abbrev mutual
  pub operators_of : Side → ℕ
  operators_of (node (operator op) rs) = suc (all_operators_of rs)
  operators_of (node (stream n) rs) = 0

  pub all_operators_of : Trees SideLabel → ℕ
  all_operators_of nil = 0
  all_operators_of (cons r rs) = operators_of r + all_operators_of rs

-- how many streams
abbrev mutual
  pub streams_of : Side → ℕ
  streams_of (node (operator op) rs) = all_streams_of rs
  streams_of (node (stream n) rs) = 1

  pub all_streams_of : Trees SideLabel → ℕ
  all_streams_of nil = 0
  all_streams_of (cons r rs) = streams_of r + all_streams_of rs

-- a match has a descriptor for each operator, and a view and a thing for each stream
pub record IsWhole {A : Type 0} (p : Side) (m : Matched A) : Type 0 where
  pub nodes : length m.slots.nodes ≡ operators_of p
  pub views : length m.slots.streams ≡ streams_of p
  pub streams : length m.streams ≡ streams_of p

-- each stream is one of the first so many
abbrev mutual
  pub IsWithin : ℕ → Side → Type 0
  IsWithin k (node (operator op) rs) = AreWithin k rs
  IsWithin k (node (stream n) rs) = n < k

  pub AreWithin : ℕ → Trees SideLabel → Type 0
  AreWithin k nil = ⊤
  AreWithin k (cons r rs) = IsWithin k r × AreWithin k rs

-- so many streams and descriptors are enough to make the side
pub record Suffice (streams descs : ℕ) (s : Side) : Type 0 where
  pub nodes : operators_of s ≤ descs
  pub within : IsWithin streams s

pub record AllSuffice (streams descs : ℕ) (ss : Trees SideLabel) : Type 0 where
  pub nodes : all_operators_of ss ≤ descs
  pub within : AreWithin streams ss
