-- Reads of a descriptor's properties and of parameters.
use Rattle.std.proofs.Common.{◌≡◌, ℕ, zero, suc, ◌<◌, true, false, cond, List, [], ◌∷◌, length, drop, get_or, Some, None, refl, ap, sym, ◌∙◌, arith}
use Rattle.std.specs.Prelude.{option_map}
use Rattle.std.specs.Str.{bytes_eq}
use Rattle.pr_value.specs.Symbols.{Symbol}
use Rattle.pr_value.specs.declared.value.Value.{Value}
use Rattle.pr_value.specs.declared.value.Value.TheVariants as value
use Rattle.descriptor_types.specs.Descriptors.{Layout, Desc, place_of, value_of}
use Rattle.rule_ast.specs.declared.parts.Param.{Param}
use Rattle.action_eval.specs.Builtins.{at}
use Rattle.action_eval.specs.Meaning.{bound, value_in}
use Rattle.action_eval.proofs.TypeLaws.{some-same}
use Rattle.pr_value.proofs.Shelf.{option_map-none, option_map-some}

-- ---- properties

-- the value of a property is what stands at its place
pub value_of-place : (ps : Layout) (p : Symbol) (d : Desc) (i : ℕ) → place_of ps p ≡ Some i → value_of ps p d ≡ at d i
value_of-place [] p d i is = cc
value_of-place (q ∷ ps) p [] i is = refl
value_of-place (q ∷ ps) p (w ∷ d) i is =
    elim (bytes_eq q.name p) as (λ b. cond b (Some 0) (option_map suc (place_of ps p)) ≡ Some i → cond b w (value_of ps p d) ≡ at (w ∷ d) i) [
      | true ↦ λ e. ap (at (w ∷ d)) (some-same e)
      | false ↦ λ e.
          let m = option_map-some suc (place_of ps p) i e in
          value_of-place ps p d m.0 m.1 ∙ ap (at (w ∷ d)) m.2
    ] is

pub value_of-nowhere : (ps : Layout) (p : Symbol) (d : Desc) → place_of ps p ≡ None → value_of ps p d ≡ value.Num 0
value_of-nowhere [] p d is = refl
value_of-nowhere (q ∷ ps) p [] is = refl
value_of-nowhere (q ∷ ps) p (w ∷ d) is =
    elim (bytes_eq q.name p) as (λ b. cond b (Some 0) (option_map suc (place_of ps p)) ≡ None → cond b w (value_of ps p d) ≡ value.Num 0) [
      | true ↦ λ e. cc
      | false ↦ λ e. value_of-nowhere ps p d (option_map-none suc (place_of ps p) e)
    ] is

pub value_of-nothing : (ps : Layout) (p : Symbol) → value_of ps p [] ≡ value.Num 0
value_of-nothing [] p = refl
value_of-nothing (q ∷ ps) p = refl

-- ---- parameters

bound-nothing : (ps : List Param) (x : Symbol) → value_in (bound ps []) x ≡ value.Num 0
bound-nothing [] x = refl
bound-nothing (p ∷ ps) x = refl

-- the parameter at a place has the name
pub bound-here : (ps : List Param) (vs : List Value) (i : ℕ) (d : Param) (x : Symbol) → i < length ps → bytes_eq (get_or ps i d).name x ≡ true → value_in (bound (drop i ps) (drop i vs)) x ≡ at vs i
bound-here [] vs i d x within is = absurd (omega (arith, within))
bound-here (p ∷ ps) [] zero d x within is = refl
bound-here (p ∷ ps) (v ∷ vs) zero d x within is = ap (λ b. cond b v (value_in (bound ps vs) x)) is
bound-here (p ∷ ps) [] (suc i) d x within is = bound-nothing (drop i ps) x
bound-here (p ∷ ps) (v ∷ vs) (suc i) d x within is = bound-here ps vs i d x (omega (arith, within)) is

-- it has another
pub bound-next : (ps : List Param) (vs : List Value) (i : ℕ) (d : Param) (x : Symbol) → i < length ps → bytes_eq (get_or ps i d).name x ≡ false
    → value_in (bound (drop i ps) (drop i vs)) x ≡ value_in (bound (drop (suc i) ps) (drop (suc i) vs)) x
bound-next [] vs i d x within is = absurd (omega (arith, within))
bound-next (p ∷ ps) [] zero d x within is = sym (bound-nothing ps x)
bound-next (p ∷ ps) (v ∷ vs) zero d x within is = ap (λ b. cond b v (value_in (bound ps vs) x)) is
bound-next (p ∷ ps) [] (suc i) d x within is = bound-nothing (drop i ps) x ∙ sym (bound-nothing (drop (suc i) ps) x)
bound-next (p ∷ ps) (v ∷ vs) (suc i) d x within is = bound-next ps vs i d x (omega (arith, within)) is
