-- Lists of types, element by element.
use Rattle.std.proofs.Common.{◌≡◌, Bool, true, false, ◌&&◌, List, [], ◌∷◌, length, nat_eq, map, refl, ap, sym, ◌∙◌}
use Rattle.std.specs.List.{list_all, zip}
use Rattle.std.proofs.Math.Dec.{eqb-zero-suc, eqb-suc-zero, eqb-suc-suc}
use Rattle.pr_value.specs.declared.kind.Kind.{Kind}
use Rattle.rule_ast.specs.Typing.{same_type, same_types}

and_swap : (a b c : Bool) → (a && (b && c)) ≡ (b && (a && c))
and_swap true b c = refl
and_swap false true c = refl
and_swap false false c = refl

-- as many, and the same at each place
pub same_types-map : {X : Type 0} (f : X → Kind) (xs : List X) (ks : List Kind) → same_types (map f xs) ks ≡ (nat_eq (length xs) (length ks) && list_all (λ z. same_type (f z.0) z.1) (zip xs ks))
same_types-map f [] [] = refl
same_types-map f [] (k ∷ ks) = ap (λ b. b && true) (sym (eqb-zero-suc (length ks)))
same_types-map f (x ∷ xs) [] = ap (λ b. b && true) (sym (eqb-suc-zero (length xs)))
same_types-map {X} f (x ∷ xs) (k ∷ ks) =
    let rest = list_all (λ (z : X × Kind). same_type (f z.0) z.1) (zip xs ks) in
    ap (λ b. same_type (f x) k && b) (same_types-map f xs ks)
    ∙ and_swap (same_type (f x) k) (nat_eq (length xs) (length ks)) rest
    ∙ ap (λ b. b && (same_type (f x) k && rest)) (sym (eqb-suc-suc (length xs) (length ks)))

map_same : (ks : List Kind) → ks ≡ map (λ k. k) ks
map_same [] = refl
map_same (k ∷ ks) = ap (λ ls. k ∷ ls) (map_same ks)

pub same_types-zip : (ks ls : List Kind) → same_types ks ls ≡ (nat_eq (length ks) (length ls) && list_all (λ z. same_type z.0 z.1) (zip ks ls))
same_types-zip ks ls = ap (λ ms. same_types ms ls) (map_same ks) ∙ same_types-map (λ k. k) ks ls

pub ruleset kind_laws = (same_types-map, same_types-zip)
