-- Which operator trees are joined, met and equal, and what stops the rounds.
use Rattle.std.specs.Prelude.{◌≡◌, ◌≢◌, ℕ, ◌+◌, ◌<◌, Bool, true, false, not, Option, Some, None, slice_get}
use Rattle.pr_value.specs.Trees.{Tree, label, height, IsProperPart}
use Rattle.pr_value.specs.declared.value.Value.{Value}
use Rattle.catalog.specs.Contents.{Catalog}
use Rattle.derivation.specs.Equality as equality
use Rattle.derivation.specs.Joined as derivation
use Rattle.descriptor_types.specs.Descriptors.{Desc}
use Rattle.descriptor_types.specs.Labels.{Label, file, operator}
use Rattle.rule_ast.specs.Roles.{is_enforcer}
use Rattle.rule_ast.specs.Syntax.{Operator, Rules}
use Rattle.rule_trees.specs.Steps.{step}
use Rattle.rule_trees.specs.Views.{view_in}

-- ---- enforcers

-- a rule leads from the operator, which is declared, to Null
abbrev pub leads_to_null : Rules → Option Operator → Bool
leads_to_null r None = false
leads_to_null r (Some o) = is_enforcer r.irules o.name

-- the operator of that number is an enforcer
abbrev pub enforces : Rules → ℕ → Bool
enforces r op = leads_to_null r (slice_get r.operators op)

-- an enforcer stands there
abbrev pub is_enforcing : Rules → Label → Bool
is_enforcing r (file name d) = false
is_enforcing r (operator op d) = enforces r op

-- trees with such a root are counted
abbrev pub is_counted : Rules → Label → Bool
is_counted r l = not (is_enforcing r l)

-- ---- trees that are joined

module _ (r : Rules) (c : Catalog) (q : Tree Label) where
  -- some derivation equates them at depth at most k
  abbrev pub Joined : ℕ → Tree Label → Tree Label → Type 0
  Joined = derivation.Joined (step r c) q

  -- joined to itself
  abbrev pub Met : ℕ → Tree Label → Type 0
  Met = equality.Met (step r c) q

  -- joined at some depth
  abbrev pub Equal : Tree Label → Tree Label → Type 0
  Equal = equality.Equal (step r c) q

  -- the same file, or the same operator with the same descriptor, over inputs that are joined
  abbrev pub Alike : ℕ → Tree Label → Tree Label → Type 0
  Alike = equality.Alike (step r c) q

  -- ---- what stops the rounds

  -- depth k + 1 joins nothing new
  abbrev pub IsQuiet : ℕ → Type 0
  IsQuiet = equality.IsClosed (step r c) q

  -- some trees are joined at r + 1 and not at r
  abbrev pub Spent : ℕ → Type 0
  Spent = equality.IsOpen (step r c) q

  -- so many trees are met that count, no two alike
  abbrev pub AreMet : ℕ → ℕ → Type 0
  AreMet = equality.HasDifferent (step r c) q (λ l. is_counted r l ≡ true)

  -- more than n trees are met that count, no two alike
  abbrev pub Full : ℕ → ℕ → Type 0
  Full k n = AreMet k (n + 1)

  -- two trees that are joined have different views
  abbrev pub Disagree : ℕ → Type 0
  Disagree k = (t u : Tree Label) × Joined k t u × (view_in r t ≢ view_in r u)

  -- of the property of that number, two trees that are joined show different values
  pub record DisagreeOn (k p : ℕ) (v w : Value) : Type 0 where
    pub one : Tree Label
    pub other : Tree Label
    pub joined : Joined k one other
    pub this : slice_get (view_in r one) p ≡ Some v
    pub that : slice_get (view_in r other) p ≡ Some w
    pub differ : v ≢ w

  -- a tree equals a proper part of itself
  abbrev pub Loop : Type 0
  Loop = (t u : Tree Label) × Equal t u × IsProperPart u t

  -- and has that operator at its root
  abbrev pub LoopAt : ℕ → Type 0
  LoopAt op =
      (t u : Tree Label) × Equal t u × IsProperPart u t
      × ((d : Desc) × (label t ≡ operator op d))

  -- a tree that is equal to the query is higher than that
  abbrev pub IsHigher : ℕ → Type 0
  IsHigher h = (t : Tree Label) × Equal q t × (h < height t)

  abbrev pub High : Type 0
  High = IsHigher 256
