-- Helpers, initializers and rules of an accepted rule set are well typed.
use Rattle.std.proofs.Common.{◌≡◌, Bool, true, false, not, List, [], ◌∷◌, ◌++◌, None, refl, ap, sym, ◌∙◌}
use Rattle.std.proofs.lemmas.Bool.{and_from, or_parts, not-false}
use Rattle.std.specs.List.{list_any}
use Rattle.pr_value.specs.declared.property.Property.{Property}
use Rattle.rule_ast.specs.Syntax.{Helper, Rules}
use Rattle.rule_ast.specs.Typing.{Signature, are_typed, helper_signature, is_type, params_context, signatures_before, signatures_of, type_of, type_of_kind}
use Rattle.rule_types.specs.AcceptedLaws.{IsWellTyped, has_typed_init, is_typed_irule, is_typed_trule}
use Rattle.rule_types.specs.Conditions.{refused_by, wrong_type}
use Rattle.rule_types.specs.Declarations.{Placed, declarations, placed_behind}
use Rattle.rule_types.proofs.DeclarationLaws.{at, each_irule, each_operator, each_trule, in_helpers}
use Rattle.rule_types.proofs.RefusalLaws.{nowhere-wrong_type}

signatures_before-append : (ss : List Signature) (hs : List Helper) (h : Helper) → signatures_before ss (hs ++ h ∷ []) ≡ helper_signature h ∷ signatures_before ss hs
signatures_before-append ss [] h = refl
signatures_before-append ss (g ∷ hs) h = signatures_before-append (helper_signature g ∷ ss) hs h

-- the helper's body is of its result's type, over the helpers before it
abbrev has_its_type : List Property → Placed Helper → Bool
has_its_type ps h = is_type (type_of_kind h.this.result) (type_of ps (signatures_of h.before) (params_context h.this.params) h.this.body)

typed-behind : (ps : List Property) (before hs : List Helper) → list_any (λ h. not (has_its_type ps h)) (placed_behind before hs) ≡ false → are_typed ps (signatures_of before) hs ≡ true
typed-behind ps before [] e = refl
typed-behind ps before (h ∷ hs) e =
    let p = or_parts (not (has_its_type ps (at before h))) (list_any (λ g. not (has_its_type ps g)) (placed_behind (before ++ h ∷ []) hs)) e in
    and_from (has_its_type ps (at before h)) (are_typed ps (helper_signature h ∷ signatures_of before) hs)
    (not-false (has_its_type ps (at before h)) p.0)
    (ap (λ ss. are_typed ps ss hs) (sym (signatures_before-append [] before h)) ∙ typed-behind ps (before ++ h ∷ []) hs p.1)

pub accepted-types : (r : Rules) → refused_by r ≡ None → IsWellTyped r
accepted-types r accepted =
    let none : list_any (wrong_type r) (declarations r) ≡ false = nowhere-wrong_type r accepted in
    record {
      helpers = typed-behind r.properties [] r.helpers (in_helpers (wrong_type r) r none);
      inits = each_operator (wrong_type r) r none (has_typed_init r) (λ before o e. not-false (has_typed_init r o) e);
      trules = each_trule (wrong_type r) r none (is_typed_trule r) (λ before t e. not-false (is_typed_trule r t) e);
      irules = each_irule (wrong_type r) r none (is_typed_irule r) (λ before i e. not-false (is_typed_irule r i) e);
    }
