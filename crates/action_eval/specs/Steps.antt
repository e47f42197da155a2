-- How many steps evaluation takes.
use Rattle.std.specs.Prelude.{ℕ, ◌+◌, List, [], ◌∷◌, Option, Some, None, if◌then◌else◌}
use Rattle.std.specs.Str.{bytes_eq}
use Rattle.pr_value.specs.Symbols.{Symbol}
use Rattle.pr_value.specs.Values.{members_in}
use Rattle.pr_value.specs.declared.value.Value.{Value}
use Rattle.catalog.specs.Contents.{Catalog}
use Rattle.descriptor_types.specs.Descriptors.{Layout}
use Rattle.rule_ast.specs.declared.table.Builtin.{Builtin}
use Rattle.rule_ast.specs.Syntax.{Expr, number, truth, symbol, set_of, list_of, var, read, call, binary, fold, Exprs, Helper}
use Rattle.rule_ast.specs.Syntax as syntax
use Rattle.rule_ast.specs.Typing.{builtin_of}
use Rattle.action_eval.specs.Builtins.{Functions}
use Rattle.action_eval.specs.Meaning.{Scope, bound, no_calls, value_by, values_by, with_builtins, with_helper, with_member}

-- the steps of a call
abbrev pub Steps : Type 0
Steps = Symbol → List Value → ℕ

-- those of a fold's turns, where the body takes so many at each member
abbrev pub turn_steps : (Symbol → ℕ) → List Symbol → ℕ
turn_steps each [] = 0
turn_steps each (s ∷ ss) = 2 + each s + turn_steps each ss

abbrev mutual
  pub steps_by : Layout → Functions → Steps → Scope → Expr → ℕ
  steps_by layout calls steps scope (number n) = 1
  steps_by layout calls steps scope (truth b) = 1
  steps_by layout calls steps scope (symbol s) = 1
  steps_by layout calls steps scope (set_of es) = 2 + steps_all layout calls steps scope es
  steps_by layout calls steps scope (list_of es) = 2 + steps_all layout calls steps scope es
  steps_by layout calls steps scope (var x) = 1
  steps_by layout calls steps scope (read d p) = 1
  steps_by layout calls steps scope (call f es) =
      2 + steps_all layout calls steps scope es + steps f (values_by layout calls scope es)
  steps_by layout calls steps scope (binary a o b) =
      2 + steps_by layout calls steps scope a + steps_by layout calls steps scope b
  steps_by layout calls steps scope (fold k x over each) =
      3 + steps_by layout calls steps scope over
      + turn_steps (λ s. steps_by layout calls steps (with_member x s scope) each)
      (members_in (value_by layout calls scope over))

  pub steps_all : Layout → Functions → Steps → Scope → Exprs → ℕ
  steps_all layout calls steps scope syntax.nil = 0
  steps_all layout calls steps scope (syntax.cons e es) =
      steps_by layout calls steps scope e + steps_all layout calls steps scope es

abbrev pub no_steps : Steps
no_steps f args = 0

-- a built-in function is called in one step
abbrev pub passed : Option Builtin → Steps → Steps
passed None steps f args = steps f args
passed (Some g) steps f args = 0

abbrev pub with_builtin_steps : Steps → Steps
with_builtin_steps steps f args = passed (builtin_of f) steps f args

abbrev pub with_helper_steps : Layout → Catalog → Functions → Steps → Helper → Steps
with_helper_steps layout catalog calls steps h f args =
    if bytes_eq h.name f then
    1 + steps_by layout (with_builtins catalog calls) (with_builtin_steps steps)
    (record { descs = []; values = bound h.params args }) h.body
    else steps f args

abbrev pub with_helpers_steps : Layout → Catalog → Functions → Steps → List Helper → Steps
with_helpers_steps layout catalog calls steps [] = steps
with_helpers_steps layout catalog calls steps (h ∷ hs) =
    with_helpers_steps layout catalog (with_helper layout catalog calls h)
    (with_helper_steps layout catalog calls steps h) hs

-- the steps of calls over these helpers
abbrev pub call_steps : Layout → List Helper → Catalog → Steps
call_steps layout helpers catalog =
    with_builtin_steps (with_helpers_steps layout catalog no_calls no_steps helpers)
