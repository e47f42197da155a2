-- Members, and the lists that are read from them.
use Rattle.std.proofs.Common.{◌≡◌, inl, inr, List, [], ◌∷◌, map, Option, Some, None, option_map, option_and_then, Result, Ok, Err, String, Global, string_bytes, refl, ap, ◌∙◌}
use Rattle.std.specs.declared.cmp.Ordering.TheVariants.{Less}
use Rattle.std.specs.List.{AllZip, Any, AllByRecursion}
use Rattle.std.specs.List.Sorted.{IsStrictlySortedBy}
use Rattle.std.specs.Map.{keys_of}
use Rattle.std.specs.String.{string_cmp}
use Rattle.serde_json.specs.Data.{Data, Members, no_members, member}
use Rattle.serde_json.specs.View.{view, members_view}
use Rattle.serde_json.proofs.Views.{Entry}
use Rattle.pr_value.specs.Symbols.{Symbol}
use Rattle.pr_value.specs.SymbolSets.{compare_symbols}
use Rattle.value_json.specs.Errors.{Reads, ReadsEach}
use Rattle.value_json.specs.declared.part_error.PartError.{PartError}
use Rattle.value_json.specs.declared.part_error.PartError.TheVariants as part_error
use Rattle.value_json.proofs.EachLaws.{Any-cases, Any-nil}

-- what is read of members has their names, which rise
module _ {X : Type 0} (name : X → Symbol) (gives : Symbol → Data → Option X → Type 0) (keeps_name : (n : Symbol) (d : Data) (x : X) → gives n d (Some x) → name x ≡ n) where
  rise_from : (k : String Global) (es : List Entry) (x : X) (xs : List X) → name x ≡ string_bytes k → AllZip (λ e x. gives (string_bytes e.0) (view e.1) (Some x)) es xs
      → AllByRecursion (λ y. string_cmp k y ≡ Less) (keys_of es) → AllByRecursion (λ y. compare_symbols (name x) y ≡ Less) (map name xs)
  rise_from k [] x [] is all up = tt
  rise_from k [] x (y ∷ xs) is all up = absurd all
  rise_from k (e ∷ es) x [] is all up = absurd all
  rise_from k (e ∷ es) x (y ∷ xs) is all up =
      ((λ i. compare_symbols (is i) (keeps_name _ _ y all.0 i)) ∙ up.0, rise_from k es x xs is all.1 up.1)

  pub names_rise : (es : List Entry) (xs : List X) → AllZip (λ e x. gives (string_bytes e.0) (view e.1) (Some x)) es xs → IsStrictlySortedBy string_cmp (keys_of es) → IsStrictlySortedBy compare_symbols (map name xs)
  unfolding IsStrictlySortedBy
  names_rise [] [] all up = tt
  names_rise [] (x ∷ xs) all up = absurd all
  names_rise (e ∷ es) [] all up = absurd all
  names_rise (e ∷ es) (x ∷ xs) all up = (rise_from e.0 es x xs (keeps_name _ _ x all.0) all.1 up.0, names_rise es xs all.1 up.1)

pub none_behind : {X : Type 0} (o : Option X) → option_and_then (λ x. option_map (λ (xs : List X). x ∷ xs) None) o ≡ None
none_behind None = refl
none_behind (Some x) = refl

-- members that say a list, one after another
module _ {X : Type 0} (part : Symbol → Data → Option X) (parts : Members → Option (List X)) (nil : parts no_members ≡ Some [])
    (cons : (n : Symbol) (d : Data) (ms : Members) → parts (member n d ms) ≡ option_and_then (λ x. option_map (λ xs. x ∷ xs) (parts ms)) (part n d)) where
  abbrev says : Entry → Option X → Type 0
  says e o = part (string_bytes e.0) (view e.1) ≡ o

  parts_all : (es : List Entry) (xs : List X) → AllZip (λ e x. says e (Some x)) es xs → parts (members_view es) ≡ Some xs
  parts_all [] [] all = nil
  parts_all [] (x ∷ xs) all = absurd all
  parts_all (e ∷ es) [] all = absurd all
  parts_all (e ∷ es) (x ∷ xs) all =
      cons (string_bytes e.0) (view e.1) (members_view es) ∙ (λ i. option_and_then (λ x. option_map (λ xs. x ∷ xs) (parts_all es xs all.1 i)) (all.0 i))

  parts_none : (es : List Entry) → Any (λ e. says e None) es → parts (members_view es) ≡ None
  parts_none [] some = absurd (Any-nil (λ e. says e None) some)
  parts_none (e ∷ es) some =
      cons (string_bytes e.0) (view e.1) (members_view es) ∙ elim (Any-cases (λ e. says e None) e es some) [
        | inl none ↦ ap (option_and_then (λ x. option_map (λ xs. x ∷ xs) (parts (members_view es)))) none
        | inr later ↦ ap (λ o. option_and_then (λ x. option_map (λ xs. x ∷ xs) o) (part (string_bytes e.0) (view e.1))) (parts_none es later) ∙ none_behind _
      ]

  pub parts_each : (es : List Entry) (r : Result (List X) PartError) → ReadsEach (λ v. v) says es r → Reads r (parts (members_view es))
  parts_each es (Ok xs) all = parts_all es xs all
  parts_each es (Err part_error.Misshapen) some = parts_none es some
  parts_each es (Err part_error.Memory) some = tt
