-- The machine that evaluates: stacks of tasks, of open frames and of values, each with what is next
-- in front.
use Rattle.std.specs.Prelude.{◌≡◌, ℕ, ◌+◌, Bool, true, false, List, [], ◌∷◌, map, take, drop, reverse}
use Rattle.std.specs.List.{list_any}
use Rattle.pr_value.specs.Symbols.{Symbol}
use Rattle.pr_value.specs.SymbolSets as sets
use Rattle.pr_value.specs.Values.{members_in}
use Rattle.pr_value.specs.declared.value.Value.{Value}
use Rattle.pr_value.specs.declared.value.Value.TheVariants as value
use Rattle.catalog.specs.Contents.{Catalog}
use Rattle.descriptor_types.specs.Descriptors.{Desc, Layout}
use Rattle.rule_ast.specs.declared.expr.BinOp.{BinOp}
use Rattle.rule_ast.specs.declared.expr.FoldKind.{FoldKind}
use Rattle.rule_ast.specs.declared.parts.Helper.{Helper}
use Rattle.rule_ast.specs.declared.parts.Param.{Param}
use Rattle.rule_ast.specs.Seen.{seen_helper}
use Rattle.rule_ast.specs.Syntax.{Expr, Exprs}
use Rattle.rule_ast.specs.Syntax as syntax
use Rattle.action_eval.specs.Builtins.{Functions, at, binary_value, fold_value, symbols_in}
use Rattle.action_eval.specs.Folds.{fold_of}
use Rattle.action_eval.specs.Meaning.{Scope, bound, functions, no_calls, value_by, with_helpers, with_member}
use Rattle.action_eval.specs.Steps.{Steps, call_steps, no_steps, steps_by, turn_steps, with_helpers_steps}

-- what is made of values
pub data Maker : Type 0 where
  set : Maker
  list : Maker
  binary : BinOp → Maker
  call : Symbol → Maker
  fold : FoldKind → Maker

-- evaluate an expression; make something of so many values; take the turns of a fold over the set
-- or list that was made; take one; leave a frame
pub data Task : Type 0 where
  eval : Expr → Task
  make : Maker → ℕ → Task
  turns : FoldKind → Symbol → Expr → Task
  turn : Symbol → Symbol → Expr → Task
  leave : Task

-- the body of a helper that sees so many helpers, with its parameters and arguments; or a fold's
-- name with a member
pub data Frame : Type 0 where
  body : List Param → List Value → ℕ → Frame
  member : Symbol → Symbol → Frame

-- what stays the same
pub record World : Type 0 where
  pub layout : Layout
  pub helpers : List Helper
  pub catalog : Catalog
  pub descs : List (Symbol × Desc)

pub record State : Type 0 where
  pub tasks : List Task
  pub frames : List Frame
  pub values : List Value

-- some frame is that of a helper's body
abbrev pub is_body : Frame → Bool
is_body (body ps args n) = true
is_body (member x s) = false

abbrev pub is_in_body : List Frame → Bool
is_in_body = list_any is_body

module _ (w : World) where
  abbrev pub scope_in : List Frame → Scope
  scope_in [] = record { descs = w.descs; values = [] }
  scope_in (member x s ∷ fs) = with_member x s (scope_in fs)
  scope_in (body ps args n ∷ fs) = record { descs = []; values = bound ps args }

  abbrev pub helpers_in : List Frame → List Helper
  helpers_in [] = w.helpers
  helpers_in (member x s ∷ fs) = helpers_in fs
  helpers_in (body ps args n ∷ fs) = take n w.helpers

  abbrev pub functions_in : List Frame → Functions
  functions_in fs = functions w.layout (map seen_helper (helpers_in fs)) w.catalog

  abbrev pub value_in_frame : List Frame → Expr → Value
  value_in_frame fs e = value_by w.layout (functions_in fs) (scope_in fs) e

  abbrev pub steps_of_calls : List Frame → Steps
  steps_of_calls fs = call_steps w.layout (map seen_helper (helpers_in fs)) w.catalog

  abbrev pub steps_in_frame : List Frame → Expr → ℕ
  steps_in_frame fs e = steps_by w.layout (functions_in fs) (steps_of_calls fs) (scope_in fs) e

  -- what is made of these values
  abbrev pub made : List Frame → Maker → List Value → Value
  made fs set args = value.Set (sets.set_of (symbols_in args))
  made fs list args = value.List (symbols_in args)
  made fs (binary o) args = binary_value o (at args 0) (at args 1)
  made fs (call f) args = functions_in fs f args
  made fs (fold k) args = fold_of k (at args 0) (drop 1 args)

  abbrev pub steps_to_make : List Frame → Maker → List Value → ℕ
  steps_to_make fs (call f) args = steps_of_calls fs f args
  steps_to_make fs _ args = 0

  abbrev pub later : ℕ → Value × ℕ → Value × ℕ
  later n r = (r.0, n + r.1)

  -- the value that the tasks end with, and after how many steps
  abbrev pub ended : List Task → List Frame → List Value → Value × ℕ
  ended [] fs vs = (at vs 0, 0)
  ended (eval e ∷ ts) fs vs = later (steps_in_frame fs e) (ended ts fs (value_in_frame fs e ∷ vs))
  ended (make o n ∷ ts) fs vs =
      later (1 + steps_to_make fs o (reverse (take n vs)))
      (ended ts fs (made fs o (reverse (take n vs)) ∷ drop n vs))
  ended (turns k x e ∷ ts) fs vs =
      later (2 + turn_steps (λ s. steps_in_frame (member x s ∷ fs) e) (members_in (at vs 0)))
      (ended ts fs (fold_value k (at vs 0) (λ s. value_in_frame (member x s ∷ fs) e) ∷ drop 1 vs))
  ended (turn x s e ∷ ts) fs vs =
      later (2 + steps_in_frame (member x s ∷ fs) e)
      (ended ts fs (value_in_frame (member x s ∷ fs) e ∷ vs))
  ended (leave ∷ ts) fs vs = later 1 (ended ts (drop 1 fs) vs)

  abbrev pub ended_from : State → Value × ℕ
  ended_from s = ended s.tasks s.frames s.values

  -- the task, on top of the state, leads to the other state in one step
  abbrev pub StepsFrom : Task → State → State → Type 0
  StepsFrom t s s' = ended (t ∷ s.tasks) s.frames s.values ≡ later 1 (ended_from s')

  -- the call of a helper leads there, and of any function
  abbrev pub CallsHelper : Symbol → List Value → State → State → Type 0
  CallsHelper f args s s' =
      later
      (1 + with_helpers_steps w.layout w.catalog no_calls no_steps
      (map seen_helper (helpers_in s.frames)) f args)
      (ended s.tasks s.frames
      (with_helpers w.layout w.catalog no_calls (map seen_helper (helpers_in s.frames)) f args
      ∷ s.values))
      ≡ later 1 (ended_from s')

  abbrev pub Calls : Symbol → List Value → State → State → Type 0
  Calls f args s s' =
      later (1 + steps_of_calls s.frames f args)
      (ended s.tasks s.frames (functions_in s.frames f args ∷ s.values)) ≡ later 1 (ended_from s')

-- the tasks that evaluate expressions in their order
abbrev pub evals : Exprs → List Task
evals syntax.nil = []
evals (syntax.cons e es) = eval e ∷ evals es

-- the tasks that take a fold's turns
abbrev pub turns_at : Symbol → List Symbol → Expr → List Task
turns_at x [] e = []
turns_at x (s ∷ ss) e = turn x s e ∷ turns_at x ss e
