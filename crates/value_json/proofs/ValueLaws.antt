-- Values of JSON as symbols and values.
use Rattle.std.proofs.Common.{◌≡◌, true, false, cond, List, [], ◌∷◌, Option, Some, None, option_map, Result, Ok, Err, Vec, Global, inl, inr, refl, ap, ◌∙◌}
use Rattle.std.specs.List.{AllZip, Any}
use Rattle.serde_json.specs.Data.{Data, null, boolean, number, string, array, object, Items, item}
use Rattle.serde_json.specs.View.{view, items_view}
use Rattle.serde_json.specs.declared.value.Value.{Value}
use Rattle.pr_value.specs.Symbols.{Symbol, is_symbol}
use Rattle.value_json.specs.Errors.{ReadsAs, ReadsEach}
use Rattle.value_json.specs.Parts.{symbol_in}
use Rattle.value_json.specs.Values.{symbols_in}
use Rattle.value_json.proofs.EachLaws.{Any-cases, Any-nil}
use Rattle.value_json.specs.declared.part_error.PartError.{PartError}
use Rattle.value_json.specs.declared.part_error.PartError.TheVariants as part_error

-- one more symbol in front
with_first : Option Symbol → Option (List Symbol) → Option (List Symbol)
with_first None rest = None
with_first (Some s) rest = option_map (λ ss. s ∷ ss) rest

with_first-None : (o : Option Symbol) → with_first o None ≡ None
unfolding with_first
with_first-None None = refl
with_first-None (Some s) = refl

symbols_in-item : (d : Data) (ds : Items) → symbols_in (item d ds) ≡ with_first (symbol_in d) (symbols_in ds)
unfolding with_first
symbols_in-item (string s) ds =
    elim (is_symbol s) as (λ b. cond b (option_map (λ ss. s ∷ ss) (symbols_in ds)) None ≡ with_first (cond b (Some s) None) (symbols_in ds)) [ true ↦ refl | false ↦ refl ]
symbols_in-item null ds = refl
symbols_in-item (boolean b) ds = refl
symbols_in-item (number n) ds = refl
symbols_in-item (array es) ds = refl
symbols_in-item (object ms) ds = refl

symbols_all : (vs : List Value) (ss : List Symbol) → AllZip (λ v s. symbol_in (view v) ≡ Some s) vs ss → symbols_in (items_view vs) ≡ Some ss
unfolding with_first
symbols_all [] [] all = refl
symbols_all [] (s ∷ ss) all = absurd all
symbols_all (v ∷ vs) [] all = absurd all
symbols_all (v ∷ vs) (s ∷ ss) all = symbols_in-item (view v) (items_view vs) ∙ (λ i. with_first (all.0 i) (symbols_all vs ss all.1 i))

symbols_none : (vs : List Value) → Any (λ v. symbol_in (view v) ≡ None) vs → symbols_in (items_view vs) ≡ None
unfolding with_first
symbols_none [] some = absurd (Any-nil (λ v. symbol_in (view v) ≡ None) some)
symbols_none (v ∷ vs) some =
    symbols_in-item (view v) (items_view vs) ∙ elim (Any-cases (λ v. symbol_in (view v) ≡ None) v vs some) [
      | inl none ↦ ap (λ o. with_first o (symbols_in (items_view vs))) none
      | inr later ↦ ap (with_first (symbol_in (view v))) (symbols_none vs later) ∙ with_first-None (symbol_in (view v))
    ]

pub symbols_each : (vs : List Value) (r : Result (Vec Symbol Global) PartError) → ReadsEach (λ v. v.items) (λ v o. symbol_in (view v) ≡ o) vs r → ReadsAs (λ v. v.items) r (symbols_in (items_view vs))
symbols_each vs (Ok ss) all = symbols_all vs ss.items all
symbols_each vs (Err part_error.Misshapen) some = symbols_none vs some
symbols_each vs (Err part_error.Memory) some = tt
