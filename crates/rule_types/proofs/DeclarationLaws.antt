-- What holds in no declaration holds in none of a section.
use Rattle.std.proofs.Common.{◌≡◌, Bool, true, false, ◌||◌, List, [], ◌∷◌, ◌++◌, map, refl, ap, sym, ◌∙◌}
use Rattle.std.proofs.lemmas.Bool.{and_from, or_from, or_parts}
use Rattle.std.proofs.lemmas.List.Folds.{list_any-append}
use Rattle.std.specs.List.{list_all, list_any}
use Rattle.rule_ast.specs.declared.parts.Algorithm.{Algorithm}
use Rattle.rule_ast.specs.Syntax.{Operator, TRule, IRule, Rules}
use Rattle.rule_types.specs.Declarations.{Placed, Declaration, property, operator, algorithm, helper, trule, irule, declarations, placed, placed_behind}

abbrev pub at : {A : Type 0} → List A → A → Placed A
at before x = record { before = before; this = x }

-- neither of two holds
pub list_any-either : {A : Type 0} (a b : A → Bool) (xs : List A) → list_any a xs ≡ false → list_any b xs ≡ false → list_any (λ x. a x || b x) xs ≡ false
list_any-either a b [] g h = refl
list_any-either a b (x ∷ xs) g h =
    let p = or_parts (a x) (list_any a xs) g in
    let q = or_parts (b x) (list_any b xs) h in
    or_from (a x || b x) (list_any (λ y. a y || b y) xs) (or_from (a x) (b x) p.0 q.0) (list_any-either a b xs p.1 q.1)

-- what never holds where another does not
pub list_any-weaker : {A : Type 0} (a b : A → Bool) → ((x : A) → a x ≡ false → b x ≡ false) → (xs : List A) → list_any a xs ≡ false → list_any b xs ≡ false
list_any-weaker a b weaker [] h = refl
list_any-weaker a b weaker (x ∷ xs) h =
    let p = or_parts (a x) (list_any a xs) h in
    or_from (b x) (list_any b xs) (weaker x p.0) (list_any-weaker a b weaker xs p.1)

pub list_any-map : {A B : Type 0} (test : B → Bool) (f : A → B) (xs : List A) → list_any test (map f xs) ≡ list_any (λ x. test (f x)) xs
list_any-map test f [] = refl
list_any-map test f (x ∷ xs) = ap (λ b. test (f x) || b) (list_any-map test f xs)

-- what holds of each where nothing is found at its place
each-placed : {A : Type 0} (asked : Placed A → Bool) (good : A → Bool) → ((before : List A) (x : A) → asked (at before x) ≡ false → good x ≡ true)
    → (before xs : List A) → list_any asked (placed_behind before xs) ≡ false → list_all good xs ≡ true
each-placed asked good here before [] h = refl
each-placed asked good here before (x ∷ xs) h =
    let p = or_parts (asked (at before x)) (list_any asked (placed_behind (before ++ x ∷ []) xs)) h in
    and_from (good x) (list_all good xs) (here before x p.0) (each-placed asked good here (before ++ x ∷ []) xs p.1)

-- none of six lists, one behind the other
none_of_six : {A : Type 0} (test : A → Bool) (zs bs cs ds es fs : List A) → list_any test (zs ++ bs ++ cs ++ ds ++ es ++ fs) ≡ false
    → (list_any test zs ≡ false) × (list_any test bs ≡ false) × (list_any test cs ≡ false) × (list_any test ds ≡ false) × (list_any test es ≡ false) × (list_any test fs ≡ false)
none_of_six {A} test zs bs cs ds es fs h =
    let f = halves (zs ++ bs ++ cs ++ ds ++ es) fs h in
    let e = halves (zs ++ bs ++ cs ++ ds) es f.0 in
    let d = halves (zs ++ bs ++ cs) ds e.0 in
    let c = halves (zs ++ bs) cs d.0 in
    let b = halves zs bs c.0 in
    (b.0, b.1, c.1, d.1, e.1, f.1)
  where
    halves : (xs ys : List A) → list_any test (xs ++ ys) ≡ false → (list_any test xs ≡ false) × (list_any test ys ≡ false)
    halves xs ys none = or_parts (list_any test xs) (list_any test ys) (sym (list_any-append test xs ys) ∙ none)

in_section : {A B : Type 0} (test : B → Bool) (f : A → B) (xs : List A) → list_any test (map f xs) ≡ false → list_any (λ x. test (f x)) xs ≡ false
in_section test f xs none = sym (list_any-map test f xs) ∙ none

module _ (test : Declaration → Bool) (r : Rules) (none : list_any test (declarations r) ≡ false) where
  sections : (list_any test (map property (placed r.properties)) ≡ false) × (list_any test (map operator (placed r.operators)) ≡ false) × (list_any test (map algorithm (placed r.algorithms)) ≡ false) × (list_any test (map helper (placed r.helpers)) ≡ false) × (list_any test (map trule (placed r.trules)) ≡ false) × (list_any test (map irule (placed r.irules)) ≡ false)
  sections = none_of_six test _ _ _ _ _ _ none

  pub in_properties : list_any (λ p. test (property p)) (placed r.properties) ≡ false
  in_properties = in_section test property (placed r.properties) sections.0

  pub in_operators : list_any (λ o. test (operator o)) (placed r.operators) ≡ false
  in_operators = in_section test operator (placed r.operators) sections.1

  pub in_algorithms : list_any (λ a. test (algorithm a)) (placed r.algorithms) ≡ false
  in_algorithms = in_section test algorithm (placed r.algorithms) sections.2

  pub in_helpers : list_any (λ h. test (helper h)) (placed r.helpers) ≡ false
  in_helpers = in_section test helper (placed r.helpers) sections.3

  pub in_trules : list_any (λ t. test (trule t)) (placed r.trules) ≡ false
  in_trules = in_section test trule (placed r.trules) sections.4

  pub in_irules : list_any (λ i. test (irule i)) (placed r.irules) ≡ false
  in_irules = in_section test irule (placed r.irules) sections.5

  pub each_operator : (good : Operator → Bool) → ((before : List Operator) (o : Operator) → test (operator (at before o)) ≡ false → good o ≡ true) → list_all good r.operators ≡ true
  each_operator good here = each-placed (λ o. test (operator o)) good here [] r.operators in_operators

  pub each_algorithm : (good : Algorithm → Bool) → ((before : List Algorithm) (a : Algorithm) → test (algorithm (at before a)) ≡ false → good a ≡ true) → list_all good r.algorithms ≡ true
  each_algorithm good here = each-placed (λ a. test (algorithm a)) good here [] r.algorithms in_algorithms

  pub each_trule : (good : TRule → Bool) → ((before : List TRule) (t : TRule) → test (trule (at before t)) ≡ false → good t ≡ true) → list_all good r.trules ≡ true
  each_trule good here = each-placed (λ t. test (trule t)) good here [] r.trules in_trules

  pub each_irule : (good : IRule → Bool) → ((before : List IRule) (i : IRule) → test (irule (at before i)) ≡ false → good i ≡ true) → list_all good r.irules ≡ true
  each_irule good here = each-placed (λ i. test (irule i)) good here [] r.irules in_irules
