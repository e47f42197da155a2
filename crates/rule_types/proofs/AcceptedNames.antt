-- The limits and the distinct names of an accepted rule set.
use Rattle.std.proofs.Common.{◌≡◌, ℕ, suc, ◌+◌, ◌≤◌, ◌<◌, Bool, true, false, cond, not, ◌||◌, List, [], ◌∷◌, ◌++◌, length, map, nat_le, Some, None, is_some, option_map, refl, ap, sym, ◌∙◌, arith, append-nil, length-append}
use Rattle.std.proofs.lemmas.Bool.{leb-false, not-false, or_parts}
use Rattle.std.proofs.lemmas.List.{map-append}
use Rattle.std.proofs.lemmas.List.Folds.{list_any-append}
use Rattle.std.specs.List.{list_any}
use Rattle.pr_value.specs.Repeats.{are_distinct, repeated_after}
use Rattle.pr_value.specs.Symbols.{Symbol}
use Rattle.pr_value.specs.SymbolSets.{contains}
use Rattle.pr_value.proofs.RepeatLaws.{are_distinct-first_repeated}
use Rattle.rule_ast.specs.Descs.{impl_descs, irule_descs, left_descs, names_of, operator_descs, trule_descs}
use Rattle.rule_ast.specs.Syntax.{IRule, Rules}
use Rattle.std.specs.Str.{bytes_eq}
use Rattle.rule_types.specs.AcceptedLaws.{HasDistinctDescs, HasDistinctNames, IsWithinLimits}
use Rattle.rule_types.specs.Conditions.{earlier_names, has_builtin_name, is_past, is_taken, most_declared, most_properties, operator_names, refused_by, scope_names, too_many, trule_names, two_names}
use Rattle.rule_types.specs.Declarations.{Placed, Declaration, property, operator, algorithm, helper, trule, irule, declarations, declared_name, placed, placed_behind}
use Rattle.rule_types.specs.Uses.{uses}
use Rattle.rule_types.proofs.DeclarationLaws.{at, each_irule, each_operator, each_trule, in_algorithms, in_helpers, in_irules, in_operators, in_properties, in_trules, list_any-weaker}
use Rattle.rule_types.proofs.DistinctParts.{distinct-before, distinct-behind}
use Rattle.rule_types.proofs.RefusalLaws.{nowhere-too_many, nowhere-two_names}

-- ---- limits

within-behind : {A : Type 0} (most : ℕ) (before xs : List A) → length before ≤ most → list_any (is_past most) (placed_behind before xs) ≡ false → length before + length xs ≤ most
within-behind most before [] le h = omega (arith, le)
within-behind most before (x ∷ xs) le h =
    let p = or_parts (nat_le most (length before)) (list_any (is_past most) (placed_behind (before ++ x ∷ []) xs)) h in
    let below : length before < most = leb-false most (length before) p.0 in
    let longer : length (before ++ x ∷ []) ≡ length before + 1 = length-append before (x ∷ []) in
    let rest = within-behind most (before ++ x ∷ []) xs (omega (arith, below, longer)) p.1 in
    omega (arith, rest, longer)

within : {A : Type 0} (most : ℕ) (xs : List A) → list_any (is_past most) (placed xs) ≡ false → length xs ≤ most
within {A} most xs h = let none : List A = [] in omega (arith, within-behind most none xs (omega arith) h)

pub accepted-limits : (r : Rules) → refused_by r ≡ None → IsWithinLimits r
accepted-limits r accepted =
    let none : list_any too_many (declarations r) ≡ false = nowhere-too_many r accepted in
    record {
      properties = within most_properties r.properties (in_properties too_many r none);
      operators = within most_declared r.operators (in_operators too_many r none);
      algorithms = within most_declared r.algorithms (in_algorithms too_many r none);
      helpers = within most_declared r.helpers (in_helpers too_many r none);
      trules = within most_declared r.trules (in_trules too_many r none);
      irules = within most_declared r.irules (in_irules too_many r none);
    }

-- ---- names

new_name : (r : Rules) (d : Declaration) → two_names r d ≡ false → contains (earlier_names r d) (declared_name d) ≡ false
new_name r d e =
    let rest = or_parts (has_builtin_name d || contains (earlier_names r d) (declared_name d) || not (are_distinct (scope_names d))) (uses (is_taken (scope_names d)) d) e in
    let first = or_parts (has_builtin_name d || contains (earlier_names r d) (declared_name d)) (not (are_distinct (scope_names d))) rest.0 in
    (or_parts (has_builtin_name d) (contains (earlier_names r d) (declared_name d)) first.0).1

distinct_scope : (r : Rules) (d : Declaration) → two_names r d ≡ false → are_distinct (scope_names d) ≡ true
distinct_scope r d e =
    let rest = or_parts (has_builtin_name d || contains (earlier_names r d) (declared_name d) || not (are_distinct (scope_names d))) (uses (is_taken (scope_names d)) d) e in
    not-false (are_distinct (scope_names d))
    (or_parts (has_builtin_name d || contains (earlier_names r d) (declared_name d)) (not (are_distinct (scope_names d))) rest.0).1

-- the name is that of none before it
abbrev is_again : {A : Type 0} → (A → Symbol) → Placed A → Bool
is_again name p = contains (map name p.before) (name p.this)

or_swap : (a b : Bool) → (a || b) ≡ (b || (a || false))
or_swap true true = refl
or_swap true false = refl
or_swap false true = refl
or_swap false false = refl

module _ {A : Type 0} (name : A → Symbol) where
  more_names : (earlier : List Symbol) (before : List A) (x : A) → ((s : Symbol) → contains earlier s ≡ contains (map name before) s)
      → (s : Symbol) → contains (name x ∷ earlier) s ≡ contains (map name (before ++ x ∷ [])) s
  more_names earlier before x same s =
      or_swap (bytes_eq s (name x)) (contains earlier s)
      ∙ ap (λ b. b || (bytes_eq s (name x) || false)) (same s)
      ∙ sym (ap (λ ns. contains ns s) (map-append name before (x ∷ [])) ∙ list_any-append (bytes_eq s) (map name before) (name x ∷ []))

  none_repeated : (earlier : List Symbol) (before xs : List A) → ((s : Symbol) → contains earlier s ≡ contains (map name before) s) → list_any (is_again name) (placed_behind before xs) ≡ false
      → repeated_after earlier (map name xs) ≡ None
  none_repeated earlier before [] same h = refl
  none_repeated earlier before (x ∷ xs) same h =
      let p = or_parts (is_again name (at before x)) (list_any (is_again name) (placed_behind (before ++ x ∷ []) xs)) h in
      ap (λ b. cond b (Some 0) (option_map suc (repeated_after (name x ∷ earlier) (map name xs)))) (same (name x) ∙ p.0)
      ∙ ap (option_map suc) (none_repeated (name x ∷ earlier) (before ++ x ∷ []) xs (more_names earlier before x same) p.1)

  distinct-placed : (xs : List A) → list_any (is_again name) (placed xs) ≡ false → are_distinct (map name xs) ≡ true
  distinct-placed xs h = are_distinct-first_repeated (map name xs) ∙ ap (λ o. not (is_some o)) (none_repeated [] [] xs (λ s. refl) h)

  -- and that of none of others
  distinct-beside : (others : List Symbol) (xs : List A) → list_any (λ p. contains (others ++ map name p.before) (name p.this)) (placed xs) ≡ false → are_distinct (map name xs) ≡ true
  distinct-beside others xs h =
      distinct-placed xs (
      list_any-weaker (λ p. contains (others ++ map name p.before) (name p.this)) (is_again name)
      (λ p e. (or_parts (contains others (name p.this)) (is_again name p) (sym (list_any-append (bytes_eq (name p.this)) others (map name p.before)) ∙ e)).1) (placed xs) h
      )

-- the test of a section, by what each declaration of it is
abbrev asked_of : {A : Type 0} → Rules → (Placed A → Declaration) → Placed A → Bool
asked_of r f p = contains (earlier_names r (f p)) (declared_name (f p))

new_names : {A : Type 0} (r : Rules) (f : Placed A → Declaration) (xs : List A) → list_any (λ p. two_names r (f p)) (placed xs) ≡ false → list_any (asked_of r f) (placed xs) ≡ false
new_names r f xs h = list_any-weaker (λ p. two_names r (f p)) (asked_of r f) (λ p e. new_name r (f p) e) (placed xs) h

pub accepted-names : (r : Rules) → refused_by r ≡ None → HasDistinctNames r
accepted-names r accepted =
    let none : list_any (two_names r) (declarations r) ≡ false = nowhere-two_names r accepted in
    record {
      properties = distinct-placed (λ p. p.name) r.properties (new_names r property r.properties (in_properties (two_names r) r none));
      operators = distinct-placed (λ o. o.name) r.operators (new_names r operator r.operators (in_operators (two_names r) r none));
      algorithms = distinct-beside (λ a. a.name) (operator_names r.operators) r.algorithms (new_names r algorithm r.algorithms (in_algorithms (two_names r) r none));
      helpers = distinct-placed (λ h. h.name) r.helpers (new_names r helper r.helpers (in_helpers (two_names r) r none));
      trules = distinct-placed (λ t. t.name) r.trules (new_names r trule r.trules (in_trules (two_names r) r none));
      irules = distinct-beside (λ i. i.name) (trule_names r.trules) r.irules (new_names r irule r.irules (in_irules (two_names r) r none));
    }

-- ---- descriptors

-- without parameters
apart : (r : Rules) (d : Declaration) (ds : List Symbol) → scope_names d ≡ ds ++ [] → two_names r d ≡ false → are_distinct ds ≡ true
apart r d ds is e = ap are_distinct (sym (is ∙ append-nil ds)) ∙ distinct_scope r d e

distinct_inputs : (r : Rules) (before : List IRule) (i : IRule) → two_names r (irule (at before i)) ≡ false → are_distinct (names_of i.right.inputs) ≡ true
distinct_inputs r before i e =
    distinct-before (names_of i.right.inputs) (i.right.desc ∷ [])
    (distinct-behind (left_descs i.left) (impl_descs i.right) (apart r (irule (at before i)) (irule_descs i) refl e))

pub accepted-descs : (r : Rules) → refused_by r ≡ None → HasDistinctDescs r
accepted-descs r accepted =
    let none : list_any (two_names r) (declarations r) ≡ false = nowhere-two_names r accepted in
    record {
      operators = each_operator (two_names r) r none (λ o. are_distinct (operator_descs o)) (λ before o e. apart r (operator (at before o)) (operator_descs o) refl e);
      trules = each_trule (two_names r) r none (λ t. are_distinct (trule_descs t)) (λ before t e. apart r (trule (at before t)) (trule_descs t) refl e);
      irules = each_irule (two_names r) r none (λ i. are_distinct (irule_descs i)) (λ before i e. apart r (irule (at before i)) (irule_descs i) refl e);
      inputs = each_irule (two_names r) r none (λ i. are_distinct (names_of i.right.inputs)) (distinct_inputs r);
    }
