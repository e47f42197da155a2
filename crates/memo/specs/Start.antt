-- A memo of the query alone.
use Rattle.std.specs.Prelude.{◌≡◌, ◌⊎◌, ℕ, suc, ◌+◌, ◌<◌, ◌≤◌, true, List, [], ◌∷◌, ◌++◌, Option, Some, length, slice_get}
use Rattle.derivation.specs.Log.{LogValue}
use Rattle.derivation.specs.Made.{IsInput}
use Rattle.derivation.specs.declared.reason.Line.{Line}
use Rattle.derivation.specs.declared.terms.Term.{Term}
use Rattle.memo.specs.declared.expr.Expr.{Expr}
use Rattle.memo.specs.Forest.{HasLine, EndsAt}

-- the terms of the nodes of a term's tree
pub data IsNode {L : Type 0} (terms : List (Term L)) (query : ℕ) : ℕ → Type 0 where
  itself : IsNode terms query query
  input : {n m : ℕ} (at : ℕ) → IsNode terms query n → IsInput terms n at m → IsNode terms query m

-- each expression is its own class, of a node of the query, in the order of the nodes' numbers, and each node has one
pub record IsFresh {L : Type 0} (terms : List (Term L)) (query : ℕ) (lines : List Line) (exprs : List (Expr L)) : Type 0 where
  pub own : (i : ℕ) (e : Expr L) → slice_get exprs i ≡ Some e → (e.class ≡ i) × (e.live ≡ true) × ((n : ℕ) × IsNode terms query n × EndsAt lines e.line n)
  pub each : (n : ℕ) → IsNode terms query n → (i : ℕ) × (e : Expr L) × (slice_get exprs i ≡ Some e) × EndsAt lines e.line n
  pub ascending : (i j m n : ℕ) (e f : Expr L) → slice_get exprs i ≡ Some e → slice_get exprs j ≡ Some f → EndsAt lines e.line m → EndsAt lines f.line n → i < j → m < n

-- the term has a line of its own
abbrev pub IsOwned : List (Option ℕ) → ℕ → Type 0
IsOwned own n = (i : ℕ) × (slice_get own n ≡ Some (Some i))

-- each such line equates its term with itself
abbrev pub AreOwnLines : List Line → List (Option ℕ) → Type 0
AreOwnLines lines own = (n i : ℕ) → slice_get own n ≡ Some (Some i) → HasLine lines i n n

-- an input of the term
abbrev pub IsInputOf : {L : Type 0} → List (Term L) → ℕ → ℕ → Type 0
IsInputOf terms n m = (at : ℕ) × IsInput terms n at m

-- one term more may have a line
pub record IsOwnedToo (old new : List (Option ℕ)) (m : ℕ) : Type 0 where
  pub long : length new ≡ length old
  pub now : IsOwned new m
  pub kept : (k : ℕ) → IsOwned old k → IsOwned new k
  pub back : (k : ℕ) → IsOwned new k → IsOwned old k ⊎ (k ≡ m)

-- the inputs of a term have lines too, where the term has
pub record OwnsInputs {L : Type 0} (terms : List (Term L)) (old new : List (Option ℕ)) (n : ℕ) : Type 0 where
  pub long : length new ≡ length old
  pub all : (m : ℕ) → IsOwned old n → IsInputOf terms n m → IsOwned new m
  pub kept : (m : ℕ) → IsOwned old m → IsOwned new m
  pub back : (m : ℕ) → IsOwned new m → IsOwned old m ⊎ (IsOwned old n × IsInputOf terms n m)

-- the first k inputs of a list have lines too
pub record OwnsFirst (old new : List (Option ℕ)) (inputs : List ℕ) (k : ℕ) : Type 0 where
  pub long : length new ≡ length old
  pub all : (at m : ℕ) → at < k → slice_get inputs at ≡ Some m → IsOwned new m
  pub kept : (m : ℕ) → IsOwned old m → IsOwned new m
  pub back : (m : ℕ) → IsOwned new m → IsOwned old m ⊎ ((at : ℕ) × (slice_get inputs at ≡ Some m))

-- the nodes that have lines, down to the last k of the row
pub record IsOwning {L : Type 0} (terms : List (Term L)) (query : ℕ) (own : List (Option ℕ)) (k : ℕ) : Type 0 where
  pub long : length own ≡ suc query
  pub start : IsOwned own query
  pub node : (n : ℕ) → IsOwned own n → IsNode terms query n
  pub closed : (n m : ℕ) → length own ≤ n + k → IsOwned own n → IsInputOf terms n m → IsOwned own m

-- the nodes below n that have lines have classes, in their order
pub record IsStarted {L : Type 0} (own : List (Option ℕ)) (exprs : List (Expr L)) (n : ℕ) : Type 0 where
  pub done : (i : ℕ) (e : Expr L) → slice_get exprs i ≡ Some e → (e.class ≡ i) × (e.live ≡ true) × (e.tree < n) × IsOwned own e.tree
  pub each : (m : ℕ) → m < n → IsOwned own m → (i : ℕ) × (e : Expr L) × (slice_get exprs i ≡ Some e) × (e.tree ≡ m)
  pub ascending : (i j : ℕ) (e f : Expr L) → slice_get exprs i ≡ Some e → slice_get exprs j ≡ Some f → i < j → e.tree < f.tree

-- a new class with the line
abbrev pub IsNodeAdded : {L : Type 0} → List (Expr L) → List (Expr L) → ℕ → Type 0
IsNodeAdded {L} old new line = (e : Expr L) × (new ≡ old ++ e ∷ []) × (e.class ≡ length old) × (e.line ≡ line) × (e.live ≡ true)

module _ {L S : Type 0} (old new : LogValue L S) where
  -- the line of an input of a line's right term
  abbrev pub Parts : ℕ → ℕ → ℕ → Type 0
  Parts of at i = (m n k : ℕ) → HasLine old.lines of m n → IsInput old.terms n at k → HasLine new.lines i k k
