-- What descriptors and plans cost.
use Rattle.std.proofs.Common.{◌≡◌, ℕ, zero, suc, ◌≤◌, Bool, true, false, cond, [], ◌∷◌, length, Option, Some, None, set, refl, ap, sym, ◌∙◌, subst, arith}
use Rattle.std.specs.Prelude.{slice_get, option_map}
use Rattle.std.specs.List.{position}
use Rattle.std.specs.Str.{bytes_eq}
use Rattle.std.proofs.lemmas.Option.{same_Some}
use Rattle.pr_value.proofs.Shelf.{option_map-some, cond_place-none}
use Rattle.pr_value.specs.Symbols.{Symbol}
use Rattle.pr_value.specs.Values.{number_in}
use Rattle.pr_value.specs.declared.property.Property.{Property}
use Rattle.pr_value.specs.declared.value.Value.{Value}
use Rattle.pr_value.specs.declared.value.Value.TheVariants as value
use Rattle.descriptor_types.proofs.PlaceLaws.{place_of-position, with_value-at}
use Rattle.descriptor_types.specs.Descriptors.{Desc, Layout, place_of, value_of, with_value}
use Rattle.rule_ast.specs.CostForms.{cost_name}

-- ---- the value of a name, at its place

pub value_of-placed : (l : Layout) (name : Symbol) (d : Desc) (i : ℕ) (v : Value) → place_of l name ≡ Some i → slice_get d i ≡ Some v → value_of l name d ≡ v
value_of-placed [] name d i v is at = cc
value_of-placed (p ∷ ps) name [] i v is at = cc
value_of-placed (p ∷ ps) name (w ∷ d) i v is at =
    elim (bytes_eq p.name name) as (λ b. cond b (Some 0) (option_map suc (place_of ps name)) ≡ Some i → cond b w (value_of ps name d) ≡ v) [
      | true ↦ λ e. same_Some w v (ap (slice_get (w ∷ d)) (same_Some 0 i e) ∙ at)
      | false ↦ λ e. let later = option_map-some suc (place_of ps name) i e in value_of-placed ps name d later.0 v later.1 (ap (slice_get (w ∷ d)) later.2 ∙ at)
    ] is

pub value_of-past : (l : Layout) (name : Symbol) (d : Desc) (i : ℕ) → place_of l name ≡ Some i → length d ≤ i → value_of l name d ≡ value.Num 0
value_of-past [] name d i is past = cc
value_of-past (p ∷ ps) name [] i is past = refl
value_of-past (p ∷ ps) name (w ∷ d) i is past =
    elim (bytes_eq p.name name) as (λ b. cond b (Some 0) (option_map suc (place_of ps name)) ≡ Some i → cond b w (value_of ps name d) ≡ value.Num 0) [
      | true ↦ λ e. let here : 0 ≡ i = same_Some 0 i e in absurd (omega (arith, here, past))
      | false ↦ λ e. let later = option_map-some suc (place_of ps name) i e in value_of-past ps name d later.0 later.1 (omega (arith, later.2, past))
    ] is

pub value_of-none : (l : Layout) (name : Symbol) (d : Desc) → place_of l name ≡ None → value_of l name d ≡ value.Num 0
value_of-none [] name d is = refl
value_of-none (p ∷ ps) name [] is = refl
value_of-none (p ∷ ps) name (w ∷ d) is =
    let none = cond_place-none (bytes_eq p.name name) (place_of ps name) is in
    ap (λ b. cond b w (value_of ps name d)) none.0 ∙ value_of-none ps name d none.1

set-past : (d : Desc) (i : ℕ) (w : Value) → length d ≤ i → set d i w ≡ d
set-past [] i w past = refl
set-past (v ∷ d) zero w past = absurd (omega (arith, past))
set-past (v ∷ d) (suc i) w past = ap (λ e. v ∷ e) (set-past d i w (omega (arith, past)))

pub with_value-past : (l : Layout) (name : Symbol) (w : Value) (d : Desc) (i : ℕ) → place_of l name ≡ Some i → length d ≤ i → with_value l name w d ≡ d
with_value-past l name w d i is past = with_value-at l name w d i is ∙ set-past d i w past

-- ---- a cost that was set

set_first : (b : Bool) (p : Property) (ps : Layout) (name : Symbol) (c : ℕ) (v : Value) (d : Desc) → bytes_eq p.name name ≡ b → number_in (value_of ps name (with_value ps name (value.Num c) d)) ≤ c
    → number_in (value_of (p ∷ ps) name (with_value (p ∷ ps) name (value.Num c) (v ∷ d))) ≤ c
set_first true p ps name c v d e rest =
    subst (λ b. number_in (value_of (p ∷ ps) name (cond b (value.Num c ∷ d) (v ∷ with_value ps name (value.Num c) d))) ≤ c) (sym e)
    (subst (λ b. number_in (cond b (value.Num c) (value_of ps name d)) ≤ c) (sym e) (omega arith))
set_first false p ps name c v d e rest =
    subst (λ b. number_in (value_of (p ∷ ps) name (cond b (value.Num c ∷ d) (v ∷ with_value ps name (value.Num c) d))) ≤ c) (sym e)
    (subst (λ b. number_in (cond b v (value_of ps name (with_value ps name (value.Num c) d))) ≤ c) (sym e) rest)

-- what is read is at most what was set
pub set_reads : (l : Layout) (name : Symbol) (c : ℕ) (d : Desc) → number_in (value_of l name (with_value l name (value.Num c) d)) ≤ c
set_reads [] name c d = omega arith
set_reads (p ∷ ps) name c [] = omega arith
set_reads (p ∷ ps) name c (v ∷ d) = set_first (bytes_eq p.name name) p ps name c v d refl (set_reads ps name c d)

-- ---- the place of the cost

pub cost_placed : (l ps : Layout) (name : Symbol) (o : Option ℕ) → ps ≡ l → name ≡ cost_name ps → o ≡ position (λ p. bytes_eq p.name name) ps → o ≡ place_of l (cost_name l)
cost_placed l ps name o same named is =
    is ∙ (sym (place_of-position ps name) ∙ (ap (place_of ps) named ∙ ap (λ (qs : Layout). place_of qs (cost_name qs)) same))
