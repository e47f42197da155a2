-- In a rule set that is not refused no condition holds in any declaration.
use Rattle.std.proofs.Common.{◌≡◌, ℕ, zero, suc, Bool, true, false, cond, ◌||◌, List, [], ◌∷◌, codes, drop, Option, Some, None, refl, ap, sym, ◌∙◌}
use Rattle.std.specs.List.{list_any, find}
use Rattle.std.specs.Option.{option_map, option_or}
use Rattle.pr_value.specs.Symbols.{Symbol}
use Rattle.rule_ast.specs.Syntax.{Rules}
use Rattle.rule_types.specs.Conditions.{conditions, first_name, first_refused, has_cost, holds, left_not_flat, left_stream_twice, named_by, refused_by, stream_order, too_many, too_many_nodes, two_costs, two_names, unknown_name, wrong_arity, wrong_type}
use Rattle.rule_types.specs.Declarations.{declarations, declared_name}
use Rattle.rule_types.specs.LaterConditions.{assign_target, copy_place, cost_assigned, cost_form, cost_missing, cost_read, enforcer_left, enforcer_root, input_in_post, input_not_physical, null_form, physical_in_trule}
use Rattle.rule_types.specs.declared.refusal.RefusalKind.{RefusalKind}
use Rattle.rule_types.specs.declared.refusal.RefusalKind.TheVariants as kind

neither : {A B : Type 0} (f : A → B) (o : Option A) (p : Option B) → option_or (option_map f o) p ≡ None → (o ≡ None) × (p ≡ None)
neither f None p h = (refl, h)
neither f (Some x) p h = absurd (cc h)

mapped_none : {A B : Type 0} (f : A → B) (o : Option A) → option_map f o ≡ None → o ≡ None
mapped_none f None h = refl
mapped_none f (Some x) h = absurd (cc h)

found_none : {A : Type 0} (test : A → Bool) (xs : List A) → find test xs ≡ None → list_any test xs ≡ false
found_none test [] h = refl
found_none {A} test (x ∷ xs) h = by (test x) h (found_none test xs)
  where
    by : (b : Bool) → cond b (Some x) (find test xs) ≡ None → (find test xs ≡ None → list_any test xs ≡ false) → (b || list_any test xs) ≡ false
    by true e rest = absurd (cc e)
    by false e rest = rest e

dropped : (n : ℕ) (ks : List RefusalKind) (r : Rules) → first_refused ks r ≡ None → first_refused (drop n ks) r ≡ None
dropped zero ks r h = h
dropped (suc n) [] r h = h
dropped (suc n) (k ∷ ks) r h = dropped n ks r (neither _ (named_by k r) (first_refused ks r) h).1

-- the condition at this place names nothing
named_none : (r : Rules) (n : ℕ) (k : RefusalKind) → refused_by r ≡ None → drop n conditions ≡ k ∷ drop (suc n) conditions → named_by k r ≡ None
named_none r n k h at =
    (neither _ (named_by k r) (first_refused (drop (suc n) conditions) r)
    (ap (λ ks. first_refused ks r) (sym at) ∙ dropped n conditions r h)).0

nowhere : (r : Rules) (n : ℕ) (k : RefusalKind) → refused_by r ≡ None → drop n conditions ≡ k ∷ drop (suc n) conditions → named_by k r ≡ first_name k r
    → list_any (holds k r) (declarations r) ≡ false
nowhere r n k h at is =
    found_none (holds k r) (declarations r)
    (mapped_none declared_name (find (holds k r) (declarations r)) (sym is ∙ named_none r n k h at))

module _ (r : Rules) (accepted : refused_by r ≡ None) where
  pub nowhere-too_many : list_any too_many (declarations r) ≡ false
  nowhere-too_many = nowhere r 0 kind.TooMany accepted refl refl

  pub nowhere-two_names : list_any (two_names r) (declarations r) ≡ false
  nowhere-two_names = nowhere r 1 kind.TwoNames accepted refl refl

  pub has_a_cost : has_cost r.properties ≡ true
  has_a_cost = by (has_cost r.properties) (codes "-") (named_none r 2 kind.NoCost accepted refl)
    where
      by : (b : Bool) (s : Symbol) → cond b None (Some s) ≡ None → b ≡ true
      by true s e = refl
      by false s e = absurd (cc e)

  pub nowhere-two_costs : list_any two_costs (declarations r) ≡ false
  nowhere-two_costs = nowhere r 3 kind.TwoCosts accepted refl refl

  pub nowhere-unknown_name : list_any (unknown_name r) (declarations r) ≡ false
  nowhere-unknown_name = nowhere r 4 kind.UnknownName accepted refl refl

  pub nowhere-wrong_arity : list_any (wrong_arity r) (declarations r) ≡ false
  nowhere-wrong_arity = nowhere r 5 kind.WrongArity accepted refl refl

  pub nowhere-wrong_type : list_any (wrong_type r) (declarations r) ≡ false
  nowhere-wrong_type = nowhere r 7 kind.WrongType accepted refl refl

  pub nowhere-left_stream_twice : list_any left_stream_twice (declarations r) ≡ false
  nowhere-left_stream_twice = nowhere r 8 kind.LeftStreamTwice accepted refl refl

  pub nowhere-stream_order : list_any stream_order (declarations r) ≡ false
  nowhere-stream_order = nowhere r 9 kind.StreamOrder accepted refl refl

  pub nowhere-too_many_nodes : list_any too_many_nodes (declarations r) ≡ false
  nowhere-too_many_nodes = nowhere r 10 kind.TooManyNodes accepted refl refl

  pub nowhere-left_not_flat : list_any left_not_flat (declarations r) ≡ false
  nowhere-left_not_flat = nowhere r 11 kind.LeftNotFlat accepted refl refl

  pub nowhere-copy_place : list_any copy_place (declarations r) ≡ false
  nowhere-copy_place = nowhere r 12 kind.CopyPlace accepted refl refl

  pub nowhere-assign_target : list_any assign_target (declarations r) ≡ false
  nowhere-assign_target = nowhere r 13 kind.AssignTarget accepted refl refl

  pub nowhere-input_in_post : list_any input_in_post (declarations r) ≡ false
  nowhere-input_in_post = nowhere r 14 kind.InputInPost accepted refl refl

  pub nowhere-cost_assigned : list_any (cost_assigned r) (declarations r) ≡ false
  nowhere-cost_assigned = nowhere r 15 kind.CostAssigned accepted refl refl

  pub nowhere-cost_missing : list_any (cost_missing r) (declarations r) ≡ false
  nowhere-cost_missing = nowhere r 16 kind.CostMissing accepted refl refl

  pub nowhere-cost_read : list_any (cost_read r) (declarations r) ≡ false
  nowhere-cost_read = nowhere r 17 kind.CostRead accepted refl refl

  pub nowhere-cost_form : list_any (cost_form r) (declarations r) ≡ false
  nowhere-cost_form = nowhere r 18 kind.CostForm accepted refl refl

  pub nowhere-null_form : list_any (null_form r) (declarations r) ≡ false
  nowhere-null_form = nowhere r 19 kind.NullForm accepted refl refl

  pub nowhere-enforcer_left : list_any (enforcer_left r) (declarations r) ≡ false
  nowhere-enforcer_left = nowhere r 20 kind.EnforcerLeft accepted refl refl

  pub nowhere-enforcer_root : list_any (enforcer_root r) (declarations r) ≡ false
  nowhere-enforcer_root = nowhere r 21 kind.EnforcerRoot accepted refl refl

  pub nowhere-physical_in_trule : list_any (physical_in_trule r) (declarations r) ≡ false
  nowhere-physical_in_trule = nowhere r 22 kind.PhysicalInTRule accepted refl refl

  pub nowhere-input_not_physical : list_any (input_not_physical r) (declarations r) ≡ false
  nowhere-input_not_physical = nowhere r 23 kind.InputNotPhysical accepted refl refl
