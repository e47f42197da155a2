-- The places of a list where a question holds, and whether there are any.
use Rattle.std.proofs.Common.{◌≡◌, ℕ, suc, ◌+◌, ◌<◌, Bool, true, false, cond, ◌||◌, List, [], ◌∷◌, ◌++◌, length, map, take, get_or, refl, ap, sym, ◌∙◌, arith}
use Rattle.std.proofs.lemmas.List.{length-map, length-take-le, map_more}
use Rattle.std.specs.List.{list_any}
use Rattle.rule_ast.specs.Roles.{is_enforcer, leads_to_null}
use Rattle.rule_ast.specs.Seen.{seen_operator}
use Rattle.rule_ast.specs.Syntax.{IRule}
use Rattle.rule_ast.specs.declared.parts.Operator as rust
use Rattle.enforcer_find.specs.Enforcers.{has_any, has_null, places, places_from, rules_of}

joined : (b : Bool) (n : ℕ) (ns ms : List ℕ) → cond b (n ∷ (ns ++ ms)) (ns ++ ms) ≡ cond b (n ∷ ns) ns ++ ms
joined true n ns ms = refl
joined false n ns ms = refl

places_from-append : {A : Type 0} (n : ℕ) (p : A → Bool) (xs : List A) (x : A) → places_from n p (xs ++ x ∷ []) ≡ places_from n p xs ++ places_from (n + length xs) p (x ∷ [])
places_from-append n p [] x = ap (λ m. places_from m p (x ∷ [])) (omega arith)
places_from-append n p (y ∷ xs) x =
    ap (λ ms. cond (p y) (n ∷ ms) ms)
    (places_from-append (suc n) p xs x ∙ ap (λ m. places_from (suc n) p xs ++ places_from m p (x ∷ [])) (omega arith))
    ∙ joined (p y) n (places_from (suc n) p xs) (places_from (n + length (y ∷ xs)) p (x ∷ []))

-- one more place, where the question holds of the next one
pub places-pushed : {A B : Type 0} (p : B → Bool) (f : A → B) (xs : List A) (i : ℕ) (x : A) (old new : List ℕ) (on : Bool) → i < length xs → x ≡ get_or xs i x
    → old ≡ places p (map f (take i xs)) → on ≡ p (f x) → new ≡ old ++ cond on (i ∷ []) [] → new ≡ places p (map f (take (i + 1) xs))
places-pushed p f xs i x old new on within is so_far asked more =
    let count : length (map f (take i xs)) ≡ i = length-map (take i xs) f ∙ length-take-le i xs (omega arith) in
    let at_end : 0 + length (map f (take i xs)) ≡ i = omega arith in
    let before = places p (map f (take i xs)) in
    let next : places p (map f (take (i + 1) xs)) ≡ before ++ cond (p (f x)) (i ∷ []) [] =
    ap (places p) (map_more f xs i x within)
    ∙ (places_from-append 0 p (map f (take i xs)) (f (get_or xs i x))
    ∙ (ap (λ n. before ++ places_from n p (f (get_or xs i x) ∷ [])) at_end
    ∙ ap (λ y. before ++ cond (p (f y)) (i ∷ []) []) (sym is))) in
    more ∙ (ap (λ o. o ++ cond on (i ∷ []) []) so_far ∙ (ap (λ b. before ++ cond b (i ∷ []) []) asked ∙ sym next))

found : (b : Bool) (n : ℕ) (ns : List ℕ) (r : Bool) → has_any ns ≡ r → has_any (cond b (n ∷ ns) ns) ≡ (b || r)
found true n ns r e = refl
found false n ns r e = e

has_any-places : {A : Type 0} (n : ℕ) (p : A → Bool) (xs : List A) → has_any (places_from n p xs) ≡ list_any p xs
has_any-places n p [] = refl
has_any-places n p (x ∷ xs) = found (p x) n (places_from (suc n) p xs) (list_any p xs) (has_any-places (suc n) p xs)

-- an operator has a rule to `Null` where it is an enforcer
pub enforcers_each : (rules : List IRule) (os : List rust.Operator) → map has_null (map (rules_of rules) (map seen_operator os)) ≡ map (λ o. is_enforcer rules o.name) os
enforcers_each rules [] = refl
enforcers_each rules (o ∷ os) =
    ap (λ b. b ∷ map has_null (map (rules_of rules) (map seen_operator os))) (has_any-places 0 (leads_to_null o.name) rules)
    ∙ ap (λ bs. is_enforcer rules o.name ∷ bs) (enforcers_each rules os)
