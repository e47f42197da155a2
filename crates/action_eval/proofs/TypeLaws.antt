-- What a type that is there says of its parts, and tests of kinds.
use Rattle.std.proofs.Common.{◌≡◌, Bool, true, false, cond, List, [], ◌∷◌, Option, Some, None, refl, ap, sym, ◌∙◌}
use Rattle.pr_value.proofs.Shelf.{bytes_eq-same}
use Rattle.std.specs.Cmp.{first_so, second_so}
use Rattle.std.specs.Cmp.Lexicographic.{bytes_decides}
use Rattle.std.specs.Str.{bytes_eq}
use Rattle.pr_value.specs.Symbols.{Symbol}
use Rattle.pr_value.specs.declared.kind.Kind.{Kind}
use Rattle.pr_value.specs.declared.kind.Kind.TheVariants as kind
use Rattle.rule_ast.specs.Typing.{same_type, same_types, is_type}

pub some-same : {A : Type 0} {x y : A} → Some x ≡ Some y → x ≡ y
some-same e = cc

pub cond-some : {A : Type 0} (b : Bool) (x y : A) → cond b (Some x) None ≡ Some y → (b ≡ true) × (x ≡ y)
cond-some true x y is = (refl, some-same is)
cond-some false x y is = cc

pub same_type-is : (k l : Kind) → same_type k l ≡ true → k ≡ l
same_type-is kind.Num kind.Num is = refl
same_type-is kind.Truth kind.Truth is = refl
same_type-is kind.Symbol kind.Symbol is = refl
same_type-is kind.Set kind.Set is = refl
same_type-is kind.List kind.List is = refl
same_type-is kind.Cost kind.Cost is = refl
same_type-is _ _ is = cc

pub same_types-is : (ks ls : List Kind) → same_types ks ls ≡ true → ks ≡ ls
same_types-is [] [] is = refl
same_types-is [] (l ∷ ls) is = cc
same_types-is (k ∷ ks) [] is = cc
same_types-is (k ∷ ks) (l ∷ ls) is =
    ap (λ (j : Kind). j ∷ ks) (same_type-is k l (first_so (same_type k l) (same_types ks ls) is)) ∙ ap (λ (js : List Kind). l ∷ js) (same_types-is ks ls (second_so (same_type k l) (same_types ks ls) is))

pub is_type-is : (t : Kind) (o : Option Kind) → is_type t o ≡ true → o ≡ Some t
is_type-is t None is = cc
is_type-is t (Some u) is = ap Some (sym (same_type-is t u is))

pub bytes_eq-sym : (s t : Symbol) → bytes_eq s t ≡ bytes_eq t s
bytes_eq-sym s t =
    elim (bytes_eq s t) as (λ b. bytes_eq s t ≡ b → b ≡ bytes_eq t s) [
      | true ↦ λ e. sym ((bytes_decides t s).1 (sym (bytes_eq-same s t e)))
      | false ↦ λ e.
          elim (bytes_eq t s) as (λ c. bytes_eq t s ≡ c → false ≡ c) [
            | true ↦ λ f. sym e ∙ (bytes_decides s t).1 (sym (bytes_eq-same t s f))
            | false ↦ λ f. refl
          ] refl
    ] refl
