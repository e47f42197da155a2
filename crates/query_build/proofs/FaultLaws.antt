-- A query that is not refused has no fault at any node.
use Rattle.std.proofs.Common.{◌≡◌, ℕ, zero, suc, ◌<◌, Bool, true, false, cond, List, [], ◌∷◌, ◌++◌, get_or, length, map, Option, Some, None, option_map, refl, ap, sym, ◌∙◌, subst, arith}
use Rattle.std.specs.Prelude.{nat_lt}
use Rattle.std.specs.Option.{option_or}
use Rattle.pr_value.specs.Symbols.{Symbol}
use Rattle.pr_value.specs.Trees.{node, Trees, nil, cons, list_of, trees_of}
use Rattle.catalog.specs.Contents.{Catalog}
use Rattle.query_build.specs.Faultless.{IsRight, IsFaultless, AreFaultless}
use Rattle.query_build.specs.Refusals.{Part, parts, parts_of, Condition, first_named, most_nodes, unknown_operator, unknown_file, wrong_arity, unknown_property, wrong_type, told, refusal_of}
use Rattle.query_build.specs.declared.refusal.QueryRefusal.TheVariants as refusal
use Rattle.rule_ast.specs.Syntax.{QueryLabel, Rules, Query}
use Rattle.rule_ast.specs.Seen.{seen_query}
use Rattle.rule_ast.specs.declared.query.QueryText as query

or_none : {A : Type 0} (o p : Option A) → option_or o p ≡ None → (o ≡ None) × (p ≡ None)
or_none None p is = (refl, is)
or_none (Some x) p is = cc

map_none : {A B : Type 0} (f : A → B) (o : Option A) → option_map f o ≡ None → o ≡ None
map_none f None is = refl
map_none f (Some x) is = cc

else_none : {A : Type 0} (b : Bool) (x : A) (o : Option A) → cond b (Some x) o ≡ None → o ≡ None
else_none true x o is = cc
else_none false x o is = is

-- none of the conditions holds at any of these
record Quiet (r : Rules) (c : Catalog) (ps : List Part) : Type 0 where
  operator : first_named (unknown_operator r) ps ≡ None
  file : first_named (unknown_file c) ps ≡ None
  arity : first_named (wrong_arity r) ps ≡ None
  property : first_named (unknown_property r) ps ≡ None
  types : first_named (wrong_type r c) ps ≡ None

quiet-refusal_of : (r : Rules) (c : Catalog) (q : Query) → refusal_of r c q ≡ None → Quiet r c (parts q)
quiet-refusal_of r c q is =
    let types = told refusal.WrongType (wrong_type r c) q in
    let property = option_or (told refusal.UnknownProperty (unknown_property r) q) types in
    let arity = option_or (told refusal.Arity (wrong_arity r) q) property in
    let file = option_or (told refusal.UnknownFile (unknown_file c) q) arity in
    let all = or_none (told refusal.UnknownOperator (unknown_operator r) q) file (else_none (nat_lt most_nodes (length (parts q))) refusal.TooManyNodes _ is) in
    let files = or_none (told refusal.UnknownFile (unknown_file c) q) arity all.1 in
    let arities = or_none (told refusal.Arity (wrong_arity r) q) property files.1 in
    let properties = or_none (told refusal.UnknownProperty (unknown_property r) q) types arities.1 in
    record {
      operator = map_none refusal.UnknownOperator (first_named (unknown_operator r) (parts q)) all.0;
      file = map_none refusal.UnknownFile (first_named (unknown_file c) (parts q)) files.0;
      arity = map_none refusal.Arity (first_named (wrong_arity r) (parts q)) arities.0;
      property = map_none refusal.UnknownProperty (first_named (unknown_property r) (parts q)) properties.0;
      types = map_none refusal.WrongType (first_named (wrong_type r c) (parts q)) properties.1;
    }

quiet_first : (r : Rules) (c : Catalog) (p : Part) (ps : List Part) → Quiet r c (p ∷ ps) → IsRight r c p.label p.inputs
quiet_first r c p ps quiet = record {
  operator = (or_none (unknown_operator r p.label p.inputs) (first_named (unknown_operator r) ps) quiet.operator).0;
  file = (or_none (unknown_file c p.label p.inputs) (first_named (unknown_file c) ps) quiet.file).0;
  arity = (or_none (wrong_arity r p.label p.inputs) (first_named (wrong_arity r) ps) quiet.arity).0;
  property = (or_none (unknown_property r p.label p.inputs) (first_named (unknown_property r) ps) quiet.property).0;
  types = (or_none (wrong_type r c p.label p.inputs) (first_named (wrong_type r c) ps) quiet.types).0;
}

quiet_rest : (r : Rules) (c : Catalog) (p : Part) (ps : List Part) → Quiet r c (p ∷ ps) → Quiet r c ps
quiet_rest r c p ps quiet = record {
  operator = (or_none (unknown_operator r p.label p.inputs) (first_named (unknown_operator r) ps) quiet.operator).1;
  file = (or_none (unknown_file c p.label p.inputs) (first_named (unknown_file c) ps) quiet.file).1;
  arity = (or_none (wrong_arity r p.label p.inputs) (first_named (wrong_arity r) ps) quiet.arity).1;
  property = (or_none (unknown_property r p.label p.inputs) (first_named (unknown_property r) ps) quiet.property).1;
  types = (or_none (wrong_type r c p.label p.inputs) (first_named (wrong_type r c) ps) quiet.types).1;
}

first_named-append : (condition : Condition) (ps qs : List Part) → first_named condition (ps ++ qs) ≡ option_or (first_named condition ps) (first_named condition qs)
first_named-append condition [] qs = refl
first_named-append condition (p ∷ ps) qs =
    ap (option_or (condition p.label p.inputs)) (first_named-append condition ps qs)
    ∙ or_assoc (condition p.label p.inputs) (first_named condition ps) (first_named condition qs) where
      or_assoc : (a b d : Option Symbol) → option_or a (option_or b d) ≡ option_or (option_or a b) d
      or_assoc None b d = refl
      or_assoc (Some x) b d = refl

both_none : (condition : Condition) (ps qs : List Part) → first_named condition (ps ++ qs) ≡ None → (first_named condition ps ≡ None) × (first_named condition qs ≡ None)
both_none condition ps qs is = or_none (first_named condition ps) (first_named condition qs) (sym (first_named-append condition ps qs) ∙ is)

quiet_left : (r : Rules) (c : Catalog) (ps qs : List Part) → Quiet r c (ps ++ qs) → Quiet r c ps
quiet_left r c ps qs quiet = record {
  operator = (both_none (unknown_operator r) ps qs quiet.operator).0;
  file = (both_none (unknown_file c) ps qs quiet.file).0;
  arity = (both_none (wrong_arity r) ps qs quiet.arity).0;
  property = (both_none (unknown_property r) ps qs quiet.property).0;
  types = (both_none (wrong_type r c) ps qs quiet.types).0;
}

quiet_right : (r : Rules) (c : Catalog) (ps qs : List Part) → Quiet r c (ps ++ qs) → Quiet r c qs
quiet_right r c ps qs quiet = record {
  operator = (both_none (unknown_operator r) ps qs quiet.operator).1;
  file = (both_none (unknown_file c) ps qs quiet.file).1;
  arity = (both_none (wrong_arity r) ps qs quiet.arity).1;
  property = (both_none (unknown_property r) ps qs quiet.property).1;
  types = (both_none (wrong_type r c) ps qs quiet.types).1;
}

mutual
  faultless-quiet : (r : Rules) (c : Catalog) (q : Query) → Quiet r c (parts q) → IsFaultless r c q
  faultless-quiet r c (node l qs) quiet = (
    quiet_first r c (record { label = l; inputs = length (list_of qs) }) (parts_of qs) quiet,
    all-quiet r c qs (quiet_rest r c (record { label = l; inputs = length (list_of qs) }) (parts_of qs) quiet),
  )

  all-quiet : (r : Rules) (c : Catalog) (qs : Trees QueryLabel) → Quiet r c (parts_of qs) → AreFaultless r c qs
  all-quiet r c nil quiet = tt
  all-quiet r c (cons q qs) quiet =
      (faultless-quiet r c q (quiet_left r c (parts q) (parts_of qs) quiet), all-quiet r c qs (quiet_right r c (parts q) (parts_of qs) quiet))

pub faultless : (r : Rules) (c : Catalog) (q : Query) → refusal_of r c q ≡ None → IsFaultless r c q
faultless r c q is = faultless-quiet r c q (quiet-refusal_of r c q is)

pub faultless-at : (r : Rules) (c : Catalog) (qs : List query.QueryText) (i : ℕ) (q : query.QueryText) → i < length qs → q ≡ get_or qs i q → AreFaultless r c (trees_of (map seen_query qs)) → IsFaultless r c (seen_query q)
faultless-at r c [] i q within at all = absurd (omega (arith, within))
faultless-at r c (p ∷ qs) zero q within at all = subst (λ (x : query.QueryText). IsFaultless r c (seen_query x)) (sym at) all.0
faultless-at r c (p ∷ qs) (suc i) q within at all = faultless-at r c qs i q (omega (arith, within)) at all.1
