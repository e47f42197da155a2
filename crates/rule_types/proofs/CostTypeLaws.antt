-- The cost that a well-typed I-rule gives is a number.
use Rattle.std.proofs.Common.{◌≡◌, ℕ, zero, suc, ◌-◌, Bool, true, false, cond, not, ◌&&◌, List, [], ◌∷◌, length, slice_get, Option, Some, None, is_some, option_and_then, refl, ap, sym, ◌∙◌}
use Rattle.std.proofs.lemmas.Bool.{and_parts}
use Rattle.std.specs.Cmp.Lexicographic.{bytes_decides}
use Rattle.std.specs.List.{list_all}
use Rattle.std.specs.Str.{bytes_eq}
use Rattle.pr_value.specs.Symbols.{Symbol}
use Rattle.pr_value.specs.SymbolSets.{contains}
use Rattle.pr_value.specs.declared.kind.Kind.TheVariants as kind
use Rattle.rule_ast.specs.CostForms.{cost_name}
use Rattle.rule_ast.specs.CostGiven.{cost_of, value_given}
use Rattle.rule_ast.specs.Descs.{irule_descs}
use Rattle.rule_ast.specs.Syntax.{Stmt, set, copy, IRule, Rules}
use Rattle.rule_ast.specs.Typing.{Context, Signature, fits_property, is_type, is_typed_stmt, property_kind, signatures_of, type_of}
use Rattle.pr_value.specs.declared.property.Property.{Property}
use Rattle.rule_types.specs.AcceptedLaws.{gives_number, is_typed_irule}
use Rattle.rule_types.specs.LaterConditions.{holds_of}

-- what holds of each holds of what is found at a place
holds_at : {A : Type 0} (good : A → Bool) (xs : List A) (n : ℕ) (x : A) → list_all good xs ≡ true → slice_get xs n ≡ Some x → good x ≡ true
holds_at good [] n x all at = absurd (cc at)
holds_at good (y ∷ xs) zero x all at = ap good (sym (cc at)) ∙ (and_parts (good y) (list_all good xs) all).0
holds_at good (y ∷ xs) (suc n) x all at = holds_at good xs n x (and_parts (good y) (list_all good xs) all).1 at

module _ (ps : List Property) (hs : List Signature) (c : Context) (cost : Symbol) (declared : property_kind ps cost ≡ Some kind.Cost) where
  -- what the statement gives the cost
  number-given : (d : Symbol) (o : Option Stmt) → ((s : Stmt) → o ≡ Some s → is_typed_stmt ps hs c s ≡ true) → not (is_some (option_and_then (value_given d cost) o)) ≡ false
      → holds_of (λ v. is_type kind.Num (type_of ps hs c v)) (option_and_then (value_given d cost) o) ≡ true
  number-given d None typed there = absurd (cc there)
  number-given d (Some (copy e f)) typed there = absurd (cc there)
  number-given d (Some (set e q value)) typed there = by (bytes_eq e d && bytes_eq q cost) refl there
    where
      by : (b : Bool) → (bytes_eq e d && bytes_eq q cost) ≡ b → not (is_some (cond b (Some value) None)) ≡ false → holds_of (λ v. is_type kind.Num (type_of ps hs c v)) (cond b (Some value) None) ≡ true
      by false is h = absurd (cc h)
      by true is h =
          let same : q ≡ cost = (bytes_decides q cost).0 (and_parts (bytes_eq e d) (bytes_eq q cost) is).1 in
          ap (λ k. fits_property k (type_of ps hs c value)) (sym (ap (property_kind ps) same ∙ declared))
          ∙ (and_parts (contains c.descs e) (fits_property (property_kind ps q) (type_of ps hs c value)) (typed (set e q value) refl)).1

pub cost_typed : (r : Rules) (i : IRule) → property_kind r.properties (cost_name r.properties) ≡ Some kind.Cost → is_typed_irule r i ≡ true → not (is_some (cost_of (cost_name r.properties) i)) ≡ false → gives_number r i ≡ true
cost_typed r i declared typed there =
    let context : Context = record { descs = irule_descs i; vars = [] } in
    let posts = (and_parts _ (list_all (is_typed_stmt r.properties (signatures_of r.helpers) context) i.body.post) typed).1 in
    number-given r.properties (signatures_of r.helpers) context (cost_name r.properties) declared i.right.desc (slice_get i.body.post (length i.body.post - 1))
    (λ s is. holds_at (is_typed_stmt r.properties (signatures_of r.helpers) context) i.body.post (length i.body.post - 1) s posts is) there
