-- Laws of trees that are joined.
use Rattle.std.specs.Prelude.{◌≡◌, ◌↔◌, ◌⊎◌, ℕ, suc, ◌<◌, true, List, length}
use Rattle.pr_value.specs.Trees.{Tree, label}
use Rattle.pr_value.specs.declared.value.Value.{Value}
use Rattle.catalog.specs.Contents.{Catalog}
use Rattle.derivation.specs.Equality.{IsOneOfEach}
use Rattle.derivation.specs.Lines.{JoinedByLines}
use Rattle.descriptor_types.specs.Labels.{Label}
use Rattle.rule_ast.specs.Syntax.{Rules}
use Rattle.tree_terms.specs.Equality.{Joined, Met, Equal, Alike, Disagree, DisagreeOn, IsQuiet, Full, Loop, LoopAt, is_counted, is_enforcing}
use Rattle.rule_trees.specs.Steps.{step}
use Rattle.rule_trees.specs.Trees.{IsTree}

module _ (r : Rules) (c : Catalog) where
  -- once a depth joins nothing new, trees are equal exactly where they are joined there
  abbrev pub QuietDepthIsFinal : Type 0
  QuietDepthIsFinal =
      (q t u : Tree Label) (k : ℕ) → IsQuiet r c q k → Equal r c q t u ↔ Joined r c q k t u

  -- trees that are met and alike are joined
  abbrev pub AlikeAreJoined : Type 0
  AlikeAreJoined =
      (q t u : Tree Label) (k : ℕ) → Met r c q k t → Alike r c q k t u → Joined r c q k t u

  -- a tree with an enforcer at its root is joined to trees that are alike alone
  abbrev pub EnforcersStayApart : Type 0
  EnforcersStayApart =
      (q t u : Tree Label) (k : ℕ) → Joined r c q k t u
      → (is_enforcing r (label t) ≡ true) ⊎ (is_enforcing r (label u) ≡ true) → Alike r c q k t u

  -- a list with one of each kind of trees that are met and count tells what is full
  abbrev pub CountDecidesFull : Type 0
  CountDecidesFull =
      (q : Tree Label) (k n : ℕ) (ts : List (Tree Label))
      → IsOneOfEach (step r c) q (λ l. is_counted r l ≡ true) k ts
      → Full r c q k n ↔ (n < length ts)

  -- what is joined at a depth is joined at the next
  abbrev pub JoinedGrows : Type 0
  JoinedGrows = (q t u : Tree Label) (k : ℕ) → Joined r c q k t u → Joined r c q (suc k) t u

  -- some list of lines equates two trees exactly where they are joined
  abbrev pub LinesAreJoined : Type 0
  LinesAreJoined =
      (q t u : Tree Label) (k : ℕ) → JoinedByLines (step r c) q k t u ↔ Joined r c q k t u

  -- two joined trees disagree exactly where they do so on some property
  abbrev pub DisagreeIsOn : Type 0
  DisagreeIsOn =
      (q : Tree Label) (k : ℕ) → IsTree r c q
      → Disagree r c q k ↔ ((p : ℕ) × (v w : Value) × DisagreeOn r c q k p v w)

  -- a tree that equals a proper part of itself has an operator at its root
  abbrev pub LoopIsAt : Type 0
  LoopIsAt = (q : Tree Label) → IsTree r c q → Loop r c q ↔ ((op : ℕ) × LoopAt r c q op)
