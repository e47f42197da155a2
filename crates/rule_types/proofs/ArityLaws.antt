-- What operators and helpers of the code take, as the definitions see it.
use Rattle.std.proofs.Common.{◌≡◌, ℕ, ◌&&◌, ◌||◌, List, [], ◌∷◌, length, map, refl, ap, ◌∙◌}
use Rattle.std.proofs.lemmas.List.{length-map}
use Rattle.std.specs.List.{list_any}
use Rattle.std.specs.Prelude.{◌==◌}
use Rattle.std.specs.Str.{bytes_eq}
use Rattle.pr_value.specs.Symbols.{Symbol}
use Rattle.rule_ast.specs.Seen.{seen_helper, seen_operator}
use Rattle.rule_ast.specs.Typing.{helper_signature, type_of_kind}
use Rattle.rule_ast.specs.declared.parts.Helper.{Helper}
use Rattle.rule_ast.specs.declared.parts.Operator.{Operator}
use Rattle.rule_types.specs.Conditions.{takes, has_signature}

pub takes-map : (os : List Operator) (o : Symbol) (n : ℕ) → takes (map seen_operator os) o n ≡ list_any (λ p. bytes_eq p.name o && length p.views == n) os
takes-map [] o n = refl
takes-map (p ∷ os) o n = ap (λ b. bytes_eq p.name o && length p.views == n || b) (takes-map os o n)

pub has_signature-map : (hs : List Helper) (f : Symbol) (n : ℕ) → has_signature (map helper_signature (map seen_helper hs)) f n ≡ list_any (λ h. bytes_eq h.name f && length h.params == n) hs
has_signature-map [] f n = refl
has_signature-map (h ∷ hs) f n =
    ap (λ k. bytes_eq h.name f && k == n || has_signature (map helper_signature (map seen_helper hs)) f n) (length-map h.params (λ p. type_of_kind p.kind))
    ∙ ap (λ b. bytes_eq h.name f && length h.params == n || b) (has_signature-map hs f n)

pub ruleset arity_laws = (takes-map, has_signature-map)
