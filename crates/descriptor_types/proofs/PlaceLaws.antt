-- The place of a property by its name, and what stands there.
use Rattle.std.proofs.Common.{◌≡◌, ℕ, suc, ◌+◌, Bool, true, false, cond, List, [], ◌∷◌, length, Option, Some, None, slice_get, set, ◌⊎◌, inl, inr, refl, ap, sym, ◌∙◌, add-one, arith}
use Rattle.std.specs.Cmp.Lexicographic.{bytes_decides}
use Rattle.std.specs.List.{position_from, position}
use Rattle.std.specs.Option.{option_map}
use Rattle.std.specs.Str.{bytes_eq}
use Rattle.std.proofs.lemmas.Iterator.Adapters.{position_from-zero}
use Rattle.pr_value.proofs.Shelf.{cond_place-none}
use Rattle.pr_value.specs.Symbols.{Symbol}
use Rattle.pr_value.specs.Values.{has_kind}
use Rattle.pr_value.specs.declared.value.Value.{Value}
use Rattle.descriptor_types.specs.Descriptors.{Layout, Desc, place_of, value_of, with_value, fits}
use Rattle.pr_value.specs.declared.property.Property.{Property}
use Rattle.descriptor_types.proofs.FitLaws.{length-fits, fits-set, has_kind-at}

-- ---- as the code looks for it

position_from-suc : {X : Type 0} (p : X → Bool) (i : ℕ) (xs : List X) → position_from p (suc i) xs ≡ option_map suc (position_from p i xs)
position_from-suc p i [] = refl
position_from-suc p i (x ∷ xs) =
    elim (p x) as (λ b. cond b (Some (suc i)) (position_from p (suc i + 1) xs) ≡ option_map suc (cond b (Some i) (position_from p (i + 1) xs))) [
      | true ↦ refl
      | false ↦ simp add-one (position_from-suc p (suc i) xs)
    ]

place_of-from : (l : Layout) (name : Symbol) → place_of l name ≡ position_from (λ p. bytes_eq p.name name) 0 l
place_of-from [] name = refl
place_of-from (p ∷ ps) name = ap (λ o. cond (bytes_eq p.name name) (Some 0) o) (ap (λ o. option_map suc o) (place_of-from ps name) ∙ sym (position_from-suc (λ q. bytes_eq q.name name) 0 ps))

pub place_of-position : (l : Layout) (name : Symbol) → place_of l name ≡ position (λ p. bytes_eq p.name name) l
place_of-position l name = place_of-from l name ∙ sym (position_from-zero (λ p. bytes_eq p.name name) l)

-- ---- what stands there

-- the first is the one, or one of the rest
either_place : (b : Bool) (o : Option ℕ) (i : ℕ) → cond b (Some 0) (option_map suc o) ≡ Some i → ((b ≡ true) × (i ≡ 0)) ⊎ ((b ≡ false) × ((k : ℕ) × (o ≡ Some k) × (i ≡ suc k)))
either_place true o i is = inl (refl, cc)
either_place false None i is = cc
either_place false (Some k) i is = inr (refl, (k, refl, cc))

pub place_of-at : (l : Layout) (name : Symbol) (i : ℕ) → place_of l name ≡ Some i → (p : Property) × (slice_get l i ≡ Some p) × (p.name ≡ name)
place_of-at [] name i is = cc
place_of-at (p ∷ ps) name i is =
    elim (either_place (bytes_eq p.name name) (place_of ps name) i is) [
      | inl here ↦ (p, ap (slice_get (p ∷ ps)) here.1, (bytes_decides p.name name).0 here.0)
      | inr later ↦ let there = place_of-at ps name later.1.0 later.1.1 in (there.0, ap (slice_get (p ∷ ps)) later.1.2 ∙ there.1, there.2)
    ]

pub value_of-at : (l : Layout) (name : Symbol) (d : Desc) (i : ℕ) → length d ≡ length l → place_of l name ≡ Some i → slice_get d i ≡ Some (value_of l name d)
value_of-at [] name d i long is = cc
value_of-at (p ∷ ps) name [] i long is = absurd (omega (arith, long))
value_of-at (p ∷ ps) name (v ∷ d) i long is =
    let choice : Bool → Option Value = λ b. Some (cond b v (value_of ps name d)) in
    elim (either_place (bytes_eq p.name name) (place_of ps name) i is) [
      | inl here ↦ ap (slice_get (v ∷ d)) here.1 ∙ ap choice (sym here.0)
      | inr later ↦ ap (slice_get (v ∷ d)) later.1.2 ∙ (value_of-at ps name d later.1.0 (omega (arith, long)) later.1.1 ∙ ap choice (sym later.0))
    ]

pub with_value-at : (l : Layout) (name : Symbol) (w : Value) (d : Desc) (i : ℕ) → place_of l name ≡ Some i → with_value l name w d ≡ set d i w
with_value-at [] name w d i is = cc
with_value-at (p ∷ ps) name w [] i is = refl
with_value-at (p ∷ ps) name w (v ∷ d) i is =
    let choice : Bool → Desc = λ b. cond b (w ∷ d) (v ∷ with_value ps name w d) in
    elim (either_place (bytes_eq p.name name) (place_of ps name) i is) [
      | inl here ↦ ap choice here.0 ∙ ap (λ k. set (v ∷ d) k w) (sym here.1)
      | inr later ↦ ap choice later.0 ∙ (ap (λ e. v ∷ e) (with_value-at ps name w d later.1.0 later.1.1) ∙ ap (λ k. set (v ∷ d) k w) (sym later.1.2))
    ]

pub value_of-with_value : (l : Layout) (name : Symbol) (w : Value) (d : Desc) (i : ℕ) → length d ≡ length l → place_of l name ≡ Some i → value_of l name (with_value l name w d) ≡ w
value_of-with_value [] name w d i long is = cc
value_of-with_value (p ∷ ps) name w [] i long is = absurd (omega (arith, long))
value_of-with_value (p ∷ ps) name w (v ∷ d) i long is =
    let choice : Bool → Value = λ b. value_of (p ∷ ps) name (cond b (w ∷ d) (v ∷ with_value ps name w d)) in
    elim (either_place (bytes_eq p.name name) (place_of ps name) i is) [
      | inl here ↦ ap choice here.0 ∙ ap (λ b. cond b w (value_of ps name d)) here.0
      | inr later ↦
          ap choice later.0
          ∙ (ap (λ b. cond b v (value_of ps name (with_value ps name w d))) later.0 ∙ value_of-with_value ps name w d later.1.0 (omega (arith, long)) later.1.1)
    ]

-- properties of other names stay as they are
pub value_of-with_other : (l : Layout) (name other : Symbol) (w : Value) (d : Desc) → bytes_eq name other ≡ false → value_of l other (with_value l name w d) ≡ value_of l other d
value_of-with_other [] name other w d differ = refl
value_of-with_other (p ∷ ps) name other w [] differ = refl
value_of-with_other (p ∷ ps) name other w (v ∷ d) differ =
    elim (bytes_eq p.name name) as (λ b. bytes_eq p.name name ≡ b → value_of (p ∷ ps) other (cond b (w ∷ d) (v ∷ with_value ps name w d)) ≡ cond (bytes_eq p.name other) v (value_of ps other d)) [
      | true ↦ λ e.
          let not_this : bytes_eq p.name other ≡ false = ap (λ s. bytes_eq s other) ((bytes_decides p.name name).0 e) ∙ differ in
          ap (λ b. cond b w (value_of ps other d)) not_this ∙ sym (ap (λ b. cond b v (value_of ps other d)) not_this)
      | false ↦ λ e. ap (λ u. cond (bytes_eq p.name other) v u) (value_of-with_other ps name other w d differ)
    ] refl

-- without a property of that name nothing changes
pub with_value-none : (l : Layout) (name : Symbol) (w : Value) (d : Desc) → place_of l name ≡ None → with_value l name w d ≡ d
with_value-none [] name w d is = refl
with_value-none (p ∷ ps) name w [] is = refl
with_value-none (p ∷ ps) name w (v ∷ d) is =
    let none = cond_place-none (bytes_eq p.name name) (place_of ps name) is in
    ap (λ b. cond b (w ∷ d) (v ∷ with_value ps name w d)) none.0 ∙ ap (λ e. v ∷ e) (with_value-none ps name w d none.1)

-- ---- kinds

pub has_kind-value_of : (l : Layout) (name : Symbol) (d : Desc) (i : ℕ) (q : Property) → fits l d ≡ true → place_of l name ≡ Some i → slice_get l i ≡ Some q → has_kind q.kind (value_of l name d) ≡ true
has_kind-value_of l name d i q fit is at = has_kind-at l d i (value_of l name d) q fit at (value_of-at l name d i (length-fits l d fit) is)

pub fits-with_value : (l : Layout) (name : Symbol) (w : Value) (d : Desc) (i : ℕ) (q : Property) → fits l d ≡ true → place_of l name ≡ Some i → slice_get l i ≡ Some q → has_kind q.kind w ≡ true → fits l (with_value l name w d) ≡ true
fits-with_value l name w d i q fit is at kind = ap (fits l) (with_value-at l name w d i is) ∙ fits-set l d i w q fit at kind
