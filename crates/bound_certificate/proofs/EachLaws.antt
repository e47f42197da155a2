-- Lists that are read item by item, or member by member.
use Rattle.std.proofs.Common.{◌≡◌, inl, inr, ℕ, ◌+◌, ◌<◌, Bool, true, List, [], ◌∷◌, ◌++◌, length, get_or, take, map, Option, Some, None, option_map, option_and_then, Result, Ok, Err, Vec, Global, string_bytes, refl, sym, ap, ◌∙◌, subst}
use Rattle.std.specs.Cmp.{first_so, second_so}
use Rattle.std.specs.Cmp.Derive.{both_true}
use Rattle.std.specs.List.{AllByRecursion, AllZip, Any, list_all}
use Rattle.std.proofs.lemmas.List.{map-append, take_more}
use Rattle.serde_json.specs.Data.{Data}
use Rattle.serde_json.specs.View.{view, items_view, members_view}
use Rattle.serde_json.specs.declared.value.Value.{Value as Json}
use Rattle.serde_json.proofs.Views.{Entry}
use Rattle.value_json.specs.Errors.{ReadsAs, ReadsEach}
use Rattle.value_json.specs.declared.part_error.PartError.{PartError}
use Rattle.value_json.specs.declared.part_error.PartError.TheVariants as part_error
use Rattle.value_json.proofs.EachLaws.{Any-cases, Any-nil}
use Rattle.bound_certificate.specs.Fields.{Field}
use Rattle.bound_certificate.specs.Shape.{each, member_field, members_in}

none_behind : {X : Type 0} (o : Option X) → option_and_then (λ x. option_map (λ (xs : List X). x ∷ xs) None) o ≡ None
none_behind None = refl
none_behind (Some x) = refl

module _ {X : Type 0} (f : Data → Option X) where
  each_all : (vs : List Json) (xs : List X) → AllZip (λ v x. f (view v) ≡ Some x) vs xs → each f (items_view vs) ≡ Some xs
  each_all [] [] all = refl
  each_all [] (x ∷ xs) all = absurd all
  each_all (v ∷ vs) [] all = absurd all
  each_all (v ∷ vs) (x ∷ xs) all = λ i. option_and_then (λ y. option_map (λ ys. y ∷ ys) (each_all vs xs all.1 i)) (all.0 i)

  each_none : (vs : List Json) → Any (λ v. f (view v) ≡ None) vs → each f (items_view vs) ≡ None
  each_none [] some = absurd (Any-nil (λ v. f (view v) ≡ None) some)
  each_none (v ∷ vs) some =
      elim (Any-cases (λ v. f (view v) ≡ None) v vs some) [
        | inl none ↦ ap (option_and_then (λ x. option_map (λ xs. x ∷ xs) (each f (items_view vs)))) none
        | inr later ↦ ap (λ o. option_and_then (λ x. option_map (λ xs. x ∷ xs) o) (f (view v))) (each_none vs later) ∙ none_behind (f (view v))
      ]

  pub each_read : (vs : List Json) (r : Result (Vec X Global) PartError) → ReadsEach (λ v. v.items) (λ v o. f (view v) ≡ o) vs r → ReadsAs (λ v. v.items) r (each f (items_view vs))
  each_read vs (Ok xs) all = each_all vs xs.items all
  each_read vs (Err part_error.Misshapen) some = each_none vs some
  each_read vs (Err part_error.Memory) some = tt

members_all : (es : List Entry) (xs : List Field) → AllZip (λ e x. member_field (string_bytes e.0) (view e.1) ≡ Some x) es xs → members_in (members_view es) ≡ Some xs
members_all [] [] all = refl
members_all [] (x ∷ xs) all = absurd all
members_all (e ∷ es) [] all = absurd all
members_all (e ∷ es) (x ∷ xs) all = λ i. option_and_then (λ y. option_map (λ ys. y ∷ ys) (members_all es xs all.1 i)) (all.0 i)

members_none : (es : List Entry) → Any (λ e. member_field (string_bytes e.0) (view e.1) ≡ None) es → members_in (members_view es) ≡ None
members_none [] some = absurd (Any-nil (λ (e : Entry). member_field (string_bytes e.0) (view e.1) ≡ None) some)
members_none (e ∷ es) some =
    elim (Any-cases (λ (e : Entry). member_field (string_bytes e.0) (view e.1) ≡ None) e es some) [
      | inl none ↦ ap (option_and_then (λ x. option_map (λ xs. x ∷ xs) (members_in (members_view es)))) none
      | inr later ↦ ap (λ o. option_and_then (λ x. option_map (λ xs. x ∷ xs) o) (member_field (string_bytes e.0) (view e.1))) (members_none es later) ∙ none_behind (member_field (string_bytes e.0) (view e.1))
    ]

pub members_read : (es : List Entry) (r : Result (Vec Field Global) PartError) → ReadsEach (λ v. v.items) (λ e o. member_field (string_bytes e.0) (view e.1) ≡ o) es r → ReadsAs (λ v. v.items) r (members_in (members_view es))
members_read es (Ok xs) all = members_all es xs.items all
members_read es (Err part_error.Misshapen) some = members_none es some
members_read es (Err part_error.Memory) some = tt

-- ---- lists that grow

pub AllByRecursion-push : {A : Type 0} (P : A → Type 0) (xs : List A) (x : A) → AllByRecursion P xs → P x → AllByRecursion P (xs ++ x ∷ [])
AllByRecursion-push P [] x all one = (one, tt)
AllByRecursion-push P (y ∷ xs) x all one = (all.0, AllByRecursion-push P xs x all.1 one)

pub AllByRecursion-more : {A : Type 0} (P : A → Type 0) (xs : List A) (i : ℕ) (x : A) → i < length xs → x ≡ get_or xs i x → AllByRecursion P (take i xs) → P x → AllByRecursion P (take (i + 1) xs)
AllByRecursion-more P xs i x within is all one =
    subst (AllByRecursion P) (ap (λ z. take i xs ++ z ∷ []) is ∙ sym (take_more xs i x within)) (AllByRecursion-push P (take i xs) x all one)

pub list_all-push : {A : Type 0} (p : A → Bool) (xs : List A) (x : A) → list_all p xs ≡ true → p x ≡ true → list_all p (xs ++ x ∷ []) ≡ true
list_all-push p [] x all one = both_true one refl
list_all-push p (y ∷ xs) x all one = both_true (first_so (p y) (list_all p xs) all) (list_all-push p xs x (second_so (p y) (list_all p xs) all) one)

-- what was written of the first so many, and one more
pub map-more : {A B C : Type 0} (view : A → C) (of : B → C) (written : List A) (xs : List B) (i : ℕ) (v : A) (x : B) → i < length xs → x ≡ get_or xs i x → map view written ≡ map of (take i xs) → view v ≡ of x
    → map view (written ++ v ∷ []) ≡ map of (take (i + 1) xs)
map-more view of written xs i v x within is so_far one =
    map-append view written (v ∷ [])
    ∙ (λ j. so_far j ++ one j ∷ [])
    ∙ sym (map-append of (take i xs) (x ∷ []))
    ∙ ap (λ ys. map of ys) (ap (λ z. take i xs ++ z ∷ []) is ∙ sym (take_more xs i x within))
