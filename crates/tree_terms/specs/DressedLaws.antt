-- Laws of trees that hold their views: what is joined, and what stops the rounds, is the same of
-- them and of trees without views.
use Rattle.std.specs.Prelude.{◌≡◌, ◌↔◌, ◌≢◌, ℕ, suc, ◌<◌, Bool, true, not, Some, option_map}
use Rattle.pr_value.specs.Trees.{Tree, label, height, IsProperPart}
use Rattle.catalog.specs.Contents.{Catalog}
use Rattle.derivation.specs.Equality as equality
use Rattle.derivation.specs.Joined as derivation
use Rattle.descriptor_types.specs.Descriptors.{Desc}
use Rattle.descriptor_types.specs.Labels.{Label}
use Rattle.rule_ast.specs.Syntax.{Rules}
use Rattle.tree_terms.specs.Dressed.{dressed, dressed_step}
use Rattle.tree_terms.specs.Equality.{Joined, IsQuiet, Spent, Full, Disagree, LoopAt, IsHigher}
use Rattle.rule_trees.specs.Steps.{step}
use Rattle.tree_terms.specs.TreeLabels.{view_of, is_on_edge}
use Rattle.rule_trees.specs.Trees.{IsTree}
use Rattle.tree_terms.specs.declared.labels.TreeLabel.{TreeLabel}
use Rattle.tree_terms.specs.declared.labels.TreeLabel.TheVariants as variant

module _ (r : Rules) (c : Catalog) where
  -- what a rule makes of a tree of the rules is one again
  abbrev pub StepsKeepTrees : Type 0
  StepsKeepTrees = (n : ℕ) (t u : Tree Label) → IsTree r c t → step r c n t ≡ Some u → IsTree r c u

  -- on a tree of the rules that is dressed, a step is the dressed one
  abbrev pub StepsAreDressed : Type 0
  StepsAreDressed =
      (n : ℕ) (t : Tree Label) → IsTree r c t
      → dressed_step r c n (dressed r t) ≡ option_map (dressed r) (step r c n t)

  -- each tree that is joined to another by derivations from a tree of the rules is one
  abbrev pub JoinedAreTrees : Type 0
  JoinedAreTrees =
      (q t u : Tree Label) (k : ℕ) → IsTree r c q → Joined r c q k t u → IsTree r c t × IsTree r c u

  -- trees with views
  abbrev pub DressedJoined : Tree Label → ℕ → Tree TreeLabel → Tree TreeLabel → Type 0
  DressedJoined q = derivation.Joined (dressed_step r c) (dressed r q)

  -- trees are joined exactly where they are joined dressed
  abbrev pub DressedAreJoined : Type 0
  DressedAreJoined =
      (q t u : Tree Label) (k : ℕ) → IsTree r c q
      → Joined r c q k t u ↔ DressedJoined q k (dressed r t) (dressed r u)

  -- trees that are joined dressed are dressed trees of the rules, which are joined
  abbrev pub OnlyDressedAreJoined : Type 0
  OnlyDressedAreJoined =
      (q : Tree Label) (v w : Tree TreeLabel) (k : ℕ) → IsTree r c q → DressedJoined q k v w
      → (t u : Tree Label) × (v ≡ dressed r t) × (w ≡ dressed r u) × Joined r c q k t u

  -- ---- the stops

  -- in words of trees with views: two that are joined have labels with different views
  abbrev pub DressedDisagree : Tree Label → ℕ → Type 0
  DressedDisagree q k =
      (v w : Tree TreeLabel) × DressedJoined q k v w × (view_of (label v) ≢ view_of (label w))

  -- a tree equals a proper part of itself
  abbrev pub DressedLoop : Tree Label → TreeLabel → Type 0
  DressedLoop q l =
      (v w : Tree TreeLabel) × equality.Equal (dressed_step r c) (dressed r q) v w × IsProperPart w v × (label v ≡ l)

  -- a tree that is equal to the query is higher than that
  abbrev pub DressedHigher : Tree Label → ℕ → Type 0
  DressedHigher q h =
      (v : Tree TreeLabel) × equality.Equal (dressed_step r c) (dressed r q) (dressed r q) v × (h < height v)

  -- each stop of a query is the same over trees with views
  pub record StopsAreDressed (q : Tree Label) : Type 0 where
    pub quiet : (k : ℕ) → IsQuiet r c q k ↔ equality.IsClosed (dressed_step r c) (dressed r q) k
    pub spent : (k : ℕ) → Spent r c q k ↔ equality.IsOpen (dressed_step r c) (dressed r q) k
    pub full :
        (k n : ℕ)
        → Full r c q k n ↔ equality.HasDifferent (dressed_step r c) (dressed r q) (λ l. not (is_on_edge l) ≡ true) k (suc n)
    pub disagree : (k : ℕ) → Disagree r c q k ↔ DressedDisagree q k
    pub loop :
        (op : ℕ)
        → LoopAt r c q op ↔ ((d v : Desc) × (b : Bool) × DressedLoop q (variant.Node op d v b))
    pub higher : (h : ℕ) → IsHigher r c q h ↔ DressedHigher q h

  abbrev pub AllStopsAreDressed : Type 0
  AllStopsAreDressed = (q : Tree Label) → IsTree r c q → StopsAreDressed q
