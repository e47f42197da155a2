-- Enforcers of accepted rule sets, and that they take one input.
use Rattle.std.proofs.Common.{◌≡◌, ℕ, zero, suc, ◌≤◌, Bool, true, false, not, List, [], ◌∷◌, length, map, Option, Some, None, option_map, refl, ap, sym, ◌∙◌, subst, arith, length-append}
use Rattle.std.specs.Prelude.{◌&&◌, ◌||◌, ◌==◌, slice_get}
use Rattle.std.specs.Cmp.{first_so, second_so}
use Rattle.std.specs.List.{list_all, list_any}
use Rattle.std.specs.Str.{bytes_eq}
use Rattle.std.proofs.lemmas.Bool.{false≢true}
use Rattle.std.proofs.lemmas.Bool.Decides.{Decides-eqb}
use Rattle.std.proofs.lemmas.List.{length-map}
use Rattle.std.proofs.lemmas.Option.{slice_get-map}
use Rattle.action_eval.proofs.PlainLaws.{or_first, or_second}
use Rattle.action_eval.proofs.TypeLaws.{some-same}
use Rattle.enforcer_find.specs.Enforcers.{has_null}
use Rattle.enforcer_find.specs.declared.enforcers.OperatorRules.{OperatorRules}
use Rattle.pr_value.proofs.Shelf.{bytes_eq-same}
use Rattle.pr_value.specs.Repeats.{are_distinct}
use Rattle.pr_value.specs.Symbols.{Symbol}
use Rattle.pr_value.specs.SymbolSets.{contains}
use Rattle.pr_value.specs.Trees.{Tree, Trees, node, nil, cons, label, list_of}
use Rattle.rule_ast.specs.Descs.{stream_numbers, streams_numbers}
use Rattle.rule_ast.specs.Roles.{has_root, is_enforcer, is_null, leads_to_null}
use Rattle.rule_ast.specs.Seen.{seen_operator}
use Rattle.rule_ast.specs.declared.parts.Operator as rust
use Rattle.rule_ast.specs.declared.sides.AlgName.{AlgName}
use Rattle.rule_ast.specs.declared.sides.AlgName.TheVariants as alg
use Rattle.rule_ast.specs.declared.parts.Algorithm.{Algorithm}
use Rattle.rule_ast.specs.Syntax.{LeftLabel, Operator, IRule, Rules}
use Rattle.rule_types.specs.AcceptedLaws.{HasArities, HasSoundSides, is_flat, is_sound_irule, is_stream}
use Rattle.rule_types.specs.Conditions.{algorithm_takes, are_numbers_distinct, operator_names, same_numbers, takes, wrong_in_irule, wrong_left}
use Rattle.rule_types.specs.Uses.{any_node, any_nodes}
use Rattle.std.proofs.lemmas.Bool.{not-false}
use Rattle.rule_runs.proofs.AskedLaws.{contains-this}
use Rattle.tree_terms.specs.Equality as spec

-- ---- as the code knows them

past-none : {X : Type 0} (xs : List X) (n : ℕ) → length xs ≤ n → slice_get xs n ≡ None
past-none [] n h = refl
past-none (x ∷ xs) zero h = absurd (omega (arith, h))
past-none (x ∷ xs) (suc n) h = past-none xs n (omega (arith, h))

pub enforces-past : (r : Rules) (op : ℕ) → length r.operators ≤ op → false ≡ spec.enforces r op
enforces-past r op h = sym (ap (spec.leads_to_null r) (past-none r.operators op h))

by_operator : (r : Rules) (o : Option rust.Operator) (b : Bool) → Some b ≡ option_map (λ p. is_enforcer r.irules p.name) o → b ≡ spec.leads_to_null r (option_map seen_operator o)
by_operator r None b e = cc
by_operator r (Some o) b e = some-same e

pub enforces-told : (r : Rules) (os : List rust.Operator) (es : List OperatorRules) (op : ℕ) (b : Bool) → r.operators ≡ map seen_operator os → map has_null es ≡ map (λ (o : rust.Operator). is_enforcer r.irules o.name) os → option_map has_null (slice_get es op) ≡ Some b
    → b ≡ spec.enforces r op
enforces-told r os es op b are found told =
    let same : Some b ≡ option_map (λ (o : rust.Operator). is_enforcer r.irules o.name) (slice_get os op) =
    sym told ∙ (sym (slice_get-map has_null es op) ∙ (ap (λ (bs : List Bool). slice_get bs op) found ∙ slice_get-map (λ (o : rust.Operator). is_enforcer r.irules o.name) os op)) in
    by_operator r (slice_get os op) b same ∙ ap (spec.leads_to_null r) (sym (slice_get-map seen_operator os op) ∙ ap (λ (ps : List Operator). slice_get ps op) (sym are))

-- ---- they take one input

either_true : (a b : Bool) → (P : Type 0) → (a ≡ true → P) → (b ≡ true → P) → (a || b) ≡ true → P
either_true true b P one other e = one refl
either_true false b P one other e = other e

takes-known : (os : List Operator) (o : Symbol) (n : ℕ) → takes os o n ≡ true → contains (operator_names os) o ≡ true
takes-known [] o n e = absurd (false≢true e)
takes-known (p ∷ ps) o n e =
    either_true (bytes_eq p.name o && (length p.views == n)) (takes ps o n) (contains (operator_names (p ∷ ps)) o ≡ true)
    (λ here. subst (λ (s : Symbol). contains (operator_names (p ∷ ps)) s ≡ true) (bytes_eq-same p.name o (first_so _ _ here)) (contains-this p.name (operator_names ps)))
    (λ later. or-right (bytes_eq o p.name) (takes-known ps o n later))
    e where
      or-right : (a : Bool) {b : Bool} → b ≡ true → (a || b) ≡ true
      or-right true e = refl
      or-right false e = e

at-known : (os : List Operator) (n : ℕ) (o : Operator) → slice_get os n ≡ Some o → contains (operator_names os) o.name ≡ true
at-known [] n o e = cc
at-known (p ∷ ps) zero o e = subst (λ (q : Operator). contains (operator_names (p ∷ ps)) q.name ≡ true) (some-same e) (contains-this p.name (operator_names ps))
at-known (p ∷ ps) (suc n) o e = or-right (bytes_eq o.name p.name) (at-known ps n o e) where
  or-right : (a : Bool) {b : Bool} → b ≡ true → (a || b) ≡ true
  or-right true e = refl
  or-right false e = e

-- the operator at a place takes as many inputs as one of its name
takes-at : (os : List Operator) (n : ℕ) (o : Operator) (k : ℕ) → are_distinct (operator_names os) ≡ true → slice_get os n ≡ Some o → takes os o.name k ≡ true → length o.views ≡ k
takes-at [] n o k distinct at e = cc
takes-at (p ∷ ps) zero o k distinct at e =
    let same : p ≡ o = some-same at in
    either_true (bytes_eq p.name o.name && (length p.views == k)) (takes ps o.name k) (length o.views ≡ k)
    (λ here. subst (λ (q : Operator). length q.views ≡ k) same ((Decides-eqb (length p.views) k).0 (second_so _ _ here)))
    (λ later. absurd (false≢true (ap not (sym (ap (λ (q : Operator). contains (operator_names ps) q.name) same ∙ takes-known ps o.name k later)) ∙ first_so _ _ distinct)))
    e
takes-at (p ∷ ps) (suc n) o k distinct at e =
    either_true (bytes_eq p.name o.name && (length p.views == k)) (takes ps o.name k) (length o.views ≡ k)
    (λ here. absurd (false≢true (ap not (sym (ap (contains (operator_names ps)) (bytes_eq-same p.name o.name (first_so _ _ here)) ∙ at-known ps n o at)) ∙ first_so _ _ distinct)))
    (λ later. takes-at ps n o k (second_so _ _ distinct) at later)
    e

-- what some element of a list meets
pub record IsAmong {X : Type 0} (p : X → Bool) (xs : List X) : Type 0 where
  pub one : X
  pub place : ℕ
  pub at : slice_get xs place ≡ Some one
  pub meets : p one ≡ true

among : {X : Type 0} (p : X → Bool) (xs : List X) → list_any p xs ≡ true → IsAmong p xs
among p [] e = absurd (false≢true e)
among p (x ∷ xs) e = either_true (p x) (list_any p xs) (IsAmong p (x ∷ xs)) (λ here. record { one = x; place = 0; at = refl; meets = here })
    (λ later. let h = among p xs later in record { one = h.one; place = suc h.place; at = h.at; meets = h.meets }) e

passes-at : {X : Type 0} (p : X → Bool) (xs : List X) (n : ℕ) (x : X) → list_all p xs ≡ true → slice_get xs n ≡ Some x → p x ≡ true
passes-at p [] n x all at = cc
passes-at p (y ∷ ys) zero x all at = subst (λ z. p z ≡ true) (some-same at) (first_so _ _ all)
passes-at p (y ∷ ys) (suc n) x all at = passes-at p ys n x (second_so _ _ all) at

same-long : (ms ns : List ℕ) → same_numbers ms ns ≡ true → length ms ≡ length ns
same-long [] [] e = refl
same-long [] (n ∷ ns) e = absurd (false≢true e)
same-long (m ∷ ms) [] e = absurd (false≢true e)
same-long (m ∷ ms) (n ∷ ns) e = ap suc (same-long ms ns (second_so _ _ e))

-- flat inputs have a stream each
flat-long : (ls : Trees LeftLabel) → list_all is_stream (list_of ls) ≡ true → length (streams_numbers ls) ≡ length (list_of ls)
flat-long nil flat = refl
flat-long (cons (node (LeftLabel.operator o d) ks) ls) flat = absurd (false≢true (first_so false (list_all is_stream (list_of ls)) flat))
flat-long (cons (node (LeftLabel.stream n d) ks) ls) flat = ap suc (flat-long ls (second_so true (list_all is_stream (list_of ls)) flat))

null-one : (algorithms : List Algorithm) (a : AlgName) (n : ℕ) → is_null a ≡ true → algorithm_takes algorithms a n ≡ true → n ≡ 1
null-one algorithms alg.Null n null e = (Decides-eqb n 1).0 e
null-one algorithms (alg.Named a) n null e = absurd (false≢true null)

-- the operator at the root of a flat side takes as many inputs as there are streams
root-takes : (r : Rules) (l : Tree LeftLabel) (name : Symbol) → is_flat l ≡ true → has_root name (label l) ≡ true → any_node (wrong_left r) l ≡ false → takes r.operators name (length (stream_numbers l)) ≡ true
root-takes r (node (LeftLabel.operator o d) ls) name flat root right =
    subst (λ k. takes r.operators name k ≡ true) (sym (flat-long ls flat))
    (subst (λ (s : Symbol). takes r.operators s (length (list_of ls)) ≡ true) (bytes_eq-same o name root) (not-false _ (or_first _ (any_nodes (wrong_left r) ls) right)))
root-takes r (node (LeftLabel.stream n d) ls) name flat root right = absurd (false≢true root)

not_wrong : (b : Bool) → not b ≡ true → b ≡ false
not_wrong true e = absurd (false≢true e)
not_wrong false e = refl

flat-parts : (a b c : Bool) → (a && b && c) ≡ true → (a ≡ true) × (c ≡ true)
flat-parts true true c e = (refl, e)
flat-parts true false c e = absurd (false≢true e)
flat-parts false b c e = absurd (false≢true e)

pub enforcer-one : (r : Rules) → are_distinct (operator_names r.operators) ≡ true → HasArities r → HasSoundSides r → (op : ℕ) (o : Operator) → slice_get r.operators op ≡ Some o → spec.enforces r op ≡ true → length o.views ≡ 1
enforcer-one r distinct arities sides op o at enforces =
    let enforcing : is_enforcer r.irules o.name ≡ true = ap (spec.leads_to_null r) (sym at) ∙ enforces in
    let found = among (leads_to_null o.name) r.irules enforcing in
    let i : IRule = found.one in
    let null : is_null i.right.alg ≡ true = first_so _ _ found.meets in
    let root : has_root o.name (label i.left) ≡ true = second_so (is_null i.right.alg) _ found.meets in
    let right : wrong_in_irule r i ≡ false = not_wrong (wrong_in_irule r i) (passes-at (λ (x : IRule). not (wrong_in_irule r x)) r.irules found.place i arities.irules found.at) in
    let sound = flat-parts (is_flat i.left) (are_numbers_distinct (stream_numbers i.left)) (same_numbers (map (λ s. s.number) i.right.inputs) (stream_numbers i.left)) (passes-at is_sound_irule r.irules found.place i sides.irules found.at) in
    let one : length i.right.inputs ≡ 1 = null-one r.algorithms i.right.alg (length i.right.inputs) null (not-false _ (or_second (any_node (wrong_left r) i.left) _ right)) in
    let long : length (map (λ s. s.number) i.right.inputs) ≡ length (stream_numbers i.left) = same-long _ (stream_numbers i.left) sound.1 in
    let mapped : length (map (λ s. s.number) i.right.inputs) ≡ length i.right.inputs = length-map i.right.inputs (λ s. s.number) in
    let count : length (stream_numbers i.left) ≡ 1 = omega (arith, one, long, mapped) in
    takes-at r.operators op o 1 distinct at
    (subst (λ k. takes r.operators o.name k ≡ true) count (root-takes r i.left o.name sound.0 root (or_first (any_node (wrong_left r) i.left) _ right)))
