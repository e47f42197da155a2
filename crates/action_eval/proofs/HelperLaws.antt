-- Helpers by their names and places: what each means, its type, and room for its body.
use Rattle.std.proofs.Common.{◌≡◌, ℕ, zero, suc, ◌<◌, true, false, cond, List, [], ◌∷◌, length, drop, take, get_or, map, Some, None, refl, ap, sym, ◌∙◌, arith}
use Rattle.std.specs.Prelude.{◌||◌}
use Rattle.std.specs.List.{list_any}
use Rattle.std.specs.Cmp.{first_so, second_so}
use Rattle.std.specs.Str.{bytes_eq}
use Rattle.pr_value.specs.Symbols.{Symbol}
use Rattle.pr_value.specs.declared.kind.Kind.{Kind}
use Rattle.pr_value.specs.declared.value.Value.{Value}
use Rattle.catalog.specs.Contents.{Catalog}
use Rattle.descriptor_types.specs.Descriptors.{Layout}
use Rattle.rule_ast.specs.declared.parts.Helper as rust
use Rattle.rule_ast.specs.declared.parts.Param.{Param}
use Rattle.pr_value.specs.declared.property.Property.{Property}
use Rattle.rule_ast.specs.Syntax.{Helper}
use Rattle.rule_ast.specs.Seen.{seen_expr, seen_helper}
use Rattle.rule_ast.specs.Typing.{Signature, Context, type_of_kind, same_type, same_types, helper_result, type_of, is_type, helper_signature, params_context, signatures_before, signatures_of, are_typed}
use Rattle.action_eval.specs.Builtins.{Functions}
use Rattle.action_eval.specs.Meaning.{Scope, value_by, bound, no_calls, with_builtins, with_helper, with_helpers, functions}
use Rattle.action_eval.specs.Types.{kind_of, context_in}
use Rattle.action_eval.proofs.CappedLaws.{bound-capped}
use Rattle.action_eval.proofs.FunctionLaws.{HelpersSound, sound-with_builtins}
use Rattle.action_eval.proofs.KindLaws.{Is, Sound, value-is}
use Rattle.action_eval.proofs.TypeLaws.{cond-some, same_type-is, is_type-is}

-- the scope of a helper's body
abbrev pub body_scope : List Param → List Value → Scope
body_scope params args = record { descs = []; values = bound params args }

abbrev kinds : List (Symbol × Value) → List (Symbol × Kind)
kinds = map (λ v. (v.0, kind_of v.1))

bound-kinds : (ps : List Param) (vs : List Value) → same_types (map (λ p. type_of_kind p.kind) ps) (map kind_of vs) ≡ true → kinds (bound ps vs) ≡ (params_context ps).vars
bound-kinds [] [] same = refl
bound-kinds [] (v ∷ vs) same = cc
bound-kinds (p ∷ ps) [] same = cc
bound-kinds (p ∷ ps) (v ∷ vs) same =
    ap (λ (k : Kind). (p.name, k) ∷ kinds (bound ps vs)) (sym (same_type-is (type_of_kind p.kind) (kind_of v) (first_so _ _ same)))
    ∙ ap (λ (vars : List (Symbol × Kind)). (p.name, type_of_kind p.kind) ∷ vars) (bound-kinds ps vs (second_so (same_type (type_of_kind p.kind) (kind_of v)) _ same))

pub body-context : (ps : List Param) (vs : List Value) → same_types (map (λ p. type_of_kind p.kind) ps) (map kind_of vs) ≡ true → context_in (body_scope ps vs) ≡ params_context ps
body-context ps vs same =
    let with : List (Symbol × Kind) → Context = λ vars. record { descs = []; vars = vars } in
    ap with (bound-kinds ps vs same)

-- ---- at a place

with_helpers-passed : (layout : Layout) (catalog : Catalog) (calls : Functions) (hs : List rust.Helper) (f : Symbol) (args : List Value) → list_any (λ h. bytes_eq h.name f) hs ≡ false → with_helpers layout catalog calls (map seen_helper hs) f args ≡ calls f args
with_helpers-passed layout catalog calls [] f args none = refl
with_helpers-passed layout catalog calls (h ∷ hs) f args none =
    elim (bytes_eq h.name f) as (λ b. bytes_eq h.name f ≡ b → (b || list_any (λ h. bytes_eq h.name f) hs) ≡ false → with_helpers layout catalog (with_helper layout catalog calls (seen_helper h)) (map seen_helper hs) f args ≡ calls f args) [
      | true ↦ λ e n. cc
      | false ↦ λ e n.
          with_helpers-passed layout catalog (with_helper layout catalog calls (seen_helper h)) hs f args n
          ∙ ap (λ b. cond b (value_by layout (with_builtins catalog calls) (body_scope h.params args) (seen_expr h.body)) (calls f args)) e
    ] refl none

pub with_helpers-none : (layout : Layout) (catalog : Catalog) (hs : List rust.Helper) (f : Symbol) (args : List Value) → list_any (λ h. bytes_eq h.name f) hs ≡ false → with_helpers layout catalog no_calls (map seen_helper hs) f args ≡ no_calls f args
with_helpers-none layout catalog hs f args none = with_helpers-passed layout catalog no_calls hs f args none

with_helpers-place : (layout : Layout) (catalog : Catalog) (calls : Functions) (hs : List rust.Helper) (i : ℕ) (h : rust.Helper) (f : Symbol) (args : List Value) → i < length hs → bytes_eq (get_or hs i h).name f ≡ true → list_any (λ h. bytes_eq h.name f) (drop (suc i) hs) ≡ false
    → with_helpers layout catalog calls (map seen_helper hs) f args ≡ value_by layout (with_builtins catalog (with_helpers layout catalog calls (map seen_helper (take i hs)))) (body_scope (get_or hs i h).params args) (seen_expr (get_or hs i h).body)
with_helpers-place layout catalog calls [] i h f args within is latest = absurd (omega (arith, within))
with_helpers-place layout catalog calls (g ∷ hs) zero h f args within is latest =
    with_helpers-passed layout catalog (with_helper layout catalog calls (seen_helper g)) hs f args latest
    ∙ ap (λ b. cond b (value_by layout (with_builtins catalog calls) (body_scope g.params args) (seen_expr g.body)) (calls f args)) is
with_helpers-place layout catalog calls (g ∷ hs) (suc i) h f args within is latest =
    with_helpers-place layout catalog (with_helper layout catalog calls (seen_helper g)) hs i h f args (omega (arith, within)) is latest

-- ---- the latest helper of a name

-- what it means
pub helper-value : (layout : Layout) (catalog : Catalog) (hs : List rust.Helper) (i : ℕ) (h : rust.Helper) (f : Symbol) (args : List Value) → i < length hs → h ≡ get_or hs i h → bytes_eq h.name f ≡ true → list_any (λ h. bytes_eq h.name f) (drop (suc i) hs) ≡ false
    → with_helpers layout catalog no_calls (map seen_helper hs) f args ≡ value_by layout (functions layout (map seen_helper (take i hs)) catalog) (body_scope h.params args) (seen_expr h.body)
helper-value layout catalog hs i h f args within here is latest =
    with_helpers-place layout catalog no_calls hs i h f args within (ap (λ (g : rust.Helper). bytes_eq g.name f) (sym here) ∙ is) latest
    ∙ ap (λ (g : rust.Helper). value_by layout (functions layout (map seen_helper (take i hs)) catalog) (body_scope g.params args) (seen_expr g.body)) (sym here)

-- ---- types of what helpers give

sound-one : (ps : List Property) (catalog : Catalog) (sigs : List Signature) (calls : Functions) (h : Helper) → is_type (type_of_kind h.result) (type_of ps sigs (params_context h.params) h.body) ≡ true → HelpersSound sigs calls
    → HelpersSound (helper_signature h ∷ sigs) (with_helper ps catalog calls h)
sound-one ps catalog sigs calls h typed sound f args t capped is =
    elim (bytes_eq h.name f) as (λ b. cond b (cond (same_types (map (λ p. type_of_kind p.kind) h.params) (map kind_of args)) (Some (type_of_kind h.result)) None) (helper_result sigs f (map kind_of args)) ≡ Some t
    → Is t (cond b (value_by ps (with_builtins catalog calls) (body_scope h.params args) h.body) (calls f args))) [
      | true ↦ λ e.
          let i = cond-some (same_types (map (λ p. type_of_kind p.kind) h.params) (map kind_of args)) (type_of_kind h.result) t e in
          let body = value-is ps sigs (with_builtins catalog calls) (sound-with_builtins catalog sigs calls sound) h.body (body_scope h.params args) (type_of_kind h.result) record { descs = refl; values = bound-capped h.params args capped }
          (ap (λ (c : Context). type_of ps sigs c h.body) (body-context h.params args i.0) ∙ is_type-is (type_of_kind h.result) _ typed) in
          (body.0 ∙ i.1, body.1)
      | false ↦ λ e. sound f args t capped e
    ] is

sound-all : (ps : List Property) (catalog : Catalog) (sigs : List Signature) (calls : Functions) (hs : List Helper) → are_typed ps sigs hs ≡ true → HelpersSound sigs calls → HelpersSound (signatures_before sigs hs) (with_helpers ps catalog calls hs)
sound-all ps catalog sigs calls [] typed sound = sound
sound-all ps catalog sigs calls (h ∷ hs) typed sound =
    sound-all ps catalog (helper_signature h ∷ sigs) (with_helper ps catalog calls h) hs (second_so (is_type (type_of_kind h.result) (type_of ps sigs (params_context h.params) h.body)) _ typed)
    (sound-one ps catalog sigs calls h (first_so _ (are_typed ps (helper_signature h ∷ sigs) hs) typed) sound)

-- each call that is well typed over these helpers gives a value of its type
pub sound-functions : (ps : List Property) (catalog : Catalog) (hs : List Helper) → are_typed ps [] hs ≡ true → Sound (signatures_of hs) (functions ps hs catalog)
sound-functions ps catalog hs typed = sound-with_builtins catalog (signatures_of hs) (with_helpers ps catalog no_calls hs) (sound-all ps catalog [] no_calls hs typed (λ f args t capped is. cc))
