-- The steps of a call of a helper, by its place.
use Rattle.std.proofs.Common.{◌≡◌, ℕ, zero, suc, ◌+◌, ◌<◌, true, false, cond, List, [], ◌∷◌, length, drop, take, get_or, map, refl, ap, sym, ◌∙◌, arith}
use Rattle.std.specs.Prelude.{◌||◌}
use Rattle.std.specs.List.{list_any}
use Rattle.std.specs.Str.{bytes_eq}
use Rattle.pr_value.specs.Symbols.{Symbol}
use Rattle.pr_value.specs.declared.value.Value.{Value}
use Rattle.catalog.specs.Contents.{Catalog}
use Rattle.descriptor_types.specs.Descriptors.{Layout}
use Rattle.rule_ast.specs.declared.parts.Helper as rust
use Rattle.rule_ast.specs.Seen.{seen_expr, seen_helper}
use Rattle.action_eval.specs.Builtins.{Functions}
use Rattle.action_eval.specs.Meaning.{no_calls, with_builtins, with_helper, with_helpers, functions}
use Rattle.action_eval.specs.Steps.{Steps, no_steps, steps_by, with_builtin_steps, with_helper_steps, with_helpers_steps, call_steps}
use Rattle.action_eval.proofs.HelperLaws.{body_scope}

steps-passed : (layout : Layout) (catalog : Catalog) (calls : Functions) (steps : Steps) (hs : List rust.Helper) (f : Symbol) (args : List Value) → list_any (λ h. bytes_eq h.name f) hs ≡ false → with_helpers_steps layout catalog calls steps (map seen_helper hs) f args ≡ steps f args
steps-passed layout catalog calls steps [] f args none = refl
steps-passed layout catalog calls steps (h ∷ hs) f args none =
    elim (bytes_eq h.name f) as (λ b. bytes_eq h.name f ≡ b → (b || list_any (λ h. bytes_eq h.name f) hs) ≡ false
    → with_helpers_steps layout catalog (with_helper layout catalog calls (seen_helper h)) (with_helper_steps layout catalog calls steps (seen_helper h)) (map seen_helper hs) f args ≡ steps f args) [
      | true ↦ λ e n. cc
      | false ↦ λ e n.
          steps-passed layout catalog (with_helper layout catalog calls (seen_helper h)) (with_helper_steps layout catalog calls steps (seen_helper h)) hs f args n
          ∙ ap (λ b. cond b (1 + steps_by layout (with_builtins catalog calls) (with_builtin_steps steps) (body_scope h.params args) (seen_expr h.body)) (steps f args)) e
    ] refl none

pub steps-none : (layout : Layout) (catalog : Catalog) (hs : List rust.Helper) (f : Symbol) (args : List Value) → list_any (λ h. bytes_eq h.name f) hs ≡ false → with_helpers_steps layout catalog no_calls no_steps (map seen_helper hs) f args ≡ 0
steps-none layout catalog hs f args none = steps-passed layout catalog no_calls no_steps hs f args none

steps-place : (layout : Layout) (catalog : Catalog) (calls : Functions) (steps : Steps) (hs : List rust.Helper) (i : ℕ) (h : rust.Helper) (f : Symbol) (args : List Value) → i < length hs → bytes_eq (get_or hs i h).name f ≡ true → list_any (λ h. bytes_eq h.name f) (drop (suc i) hs) ≡ false
    → with_helpers_steps layout catalog calls steps (map seen_helper hs) f args
    ≡ 1 + steps_by layout (with_builtins catalog (with_helpers layout catalog calls (map seen_helper (take i hs)))) (with_builtin_steps (with_helpers_steps layout catalog calls steps (map seen_helper (take i hs)))) (body_scope (get_or hs i h).params args) (seen_expr (get_or hs i h).body)
steps-place layout catalog calls steps [] i h f args within is latest = absurd (omega (arith, within))
steps-place layout catalog calls steps (g ∷ hs) zero h f args within is latest =
    steps-passed layout catalog (with_helper layout catalog calls (seen_helper g)) (with_helper_steps layout catalog calls steps (seen_helper g)) hs f args latest
    ∙ ap (λ b. cond b (1 + steps_by layout (with_builtins catalog calls) (with_builtin_steps steps) (body_scope g.params args) (seen_expr g.body)) (steps f args)) is
steps-place layout catalog calls steps (g ∷ hs) (suc i) h f args within is latest =
    steps-place layout catalog (with_helper layout catalog calls (seen_helper g)) (with_helper_steps layout catalog calls steps (seen_helper g)) hs i h f args (omega (arith, within)) is latest

-- those of the latest helper of a name
pub helper-steps : (layout : Layout) (catalog : Catalog) (hs : List rust.Helper) (i : ℕ) (h : rust.Helper) (f : Symbol) (args : List Value) → i < length hs → h ≡ get_or hs i h → bytes_eq h.name f ≡ true → list_any (λ h. bytes_eq h.name f) (drop (suc i) hs) ≡ false
    → with_helpers_steps layout catalog no_calls no_steps (map seen_helper hs) f args
    ≡ 1 + steps_by layout (functions layout (map seen_helper (take i hs)) catalog) (call_steps layout (map seen_helper (take i hs)) catalog) (body_scope h.params args) (seen_expr h.body)
helper-steps layout catalog hs i h f args within here is latest =
    steps-place layout catalog no_calls no_steps hs i h f args within (ap (λ (g : rust.Helper). bytes_eq g.name f) (sym here) ∙ is) latest
    ∙ ap (λ (g : rust.Helper). 1 + steps_by layout (functions layout (map seen_helper (take i hs)) catalog) (call_steps layout (map seen_helper (take i hs)) catalog) (body_scope g.params args) (seen_expr g.body)) (sym here)
