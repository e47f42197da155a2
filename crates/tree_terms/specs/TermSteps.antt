-- What a T-rule makes at a term.
use Rattle.std.specs.Prelude.{◌≡◌, ℕ, List, Option, Some, None}
use Rattle.catalog.specs.Contents.{Catalog}
use Rattle.derivation.specs.Stands.{Stands, StandAll}
use Rattle.derivation.specs.declared.terms.Term.{Term}
use Rattle.pr_value.specs.Trees.{Tree, trees_of}
use Rattle.rule_ast.specs.Syntax.{TRule, Rules}
use Rattle.rule_runs.specs.declared.slots.Slots.{Slots}
use Rattle.tree_terms.specs.Dressed.{dressed_stepped}
use Rattle.rule_trees.specs.Steps.{rewritten_on}
use Rattle.tree_terms.specs.TreeLabels.{dressed_label, plain_label}
use Rattle.tree_terms.specs.declared.labels.TreeLabel.{TreeLabel}

module _ (r : Rules) (c : Catalog) (t : TRule) where
  -- over these trees of its streams the rule makes no tree of what is matched, or that of the number
  abbrev pub Rewrites : Slots → List ℕ → List (Term TreeLabel) → List (Term TreeLabel) → Option ℕ → Type 0
  Rewrites slots nodes old new None =
      ((us : List (Tree TreeLabel)) → rewritten_on plain_label (dressed_label r) r c t (record { slots = slots; streams = us }) ≡ None)
      × (new ≡ old)
  Rewrites slots nodes old new (Some n) =
      (us : List (Tree TreeLabel)) → StandAll old nodes (trees_of us)
      → (v : Tree TreeLabel) × Stands new n v
      × (rewritten_on plain_label (dressed_label r) r c t (record { slots = slots; streams = us }) ≡ Some v)

  -- the rule makes no tree at the term, or that of this number
  abbrev pub StepsBy : List (Term TreeLabel) → ℕ → List (Term TreeLabel) → Option ℕ → Type 0
  StepsBy old node new None =
      ((u : Tree TreeLabel) → Stands old node u → dressed_stepped r c t u ≡ None) × (new ≡ old)
  StepsBy old node new (Some n) =
      (u v : Tree TreeLabel) × Stands old node u × Stands new n v × (dressed_stepped r c t u ≡ Some v)
