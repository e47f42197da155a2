-- The types of the expressions of a list, from the first on.
use Rattle.std.proofs.Common.{◌≡◌, ℕ, suc, ◌+◌, ◌<◌, ◌≤◌, List, [], ◌∷◌, ◌++◌, length, map, drop, drop-cons, get_or, Option, Some, None, refl, ap, sym, ◌∙◌, append_assoc, append-nil, arith}
use Rattle.std.proofs.lemmas.List.{drop_all}
use Rattle.std.specs.Option.{option_map, option_and_then}
use Rattle.pr_value.specs.declared.kind.Kind.{Kind}
use Rattle.rule_ast.specs.Seen.{seen_expr, exprs_of}
use Rattle.rule_ast.specs.declared.expr.Expr as rust
use Rattle.rule_types.specs.Scopes.{type_in, types_in}
use Rattle.rule_types.specs.declared.context.Scope.{Scope}
use Rattle.rule_types.specs.declared.folds.Folds.{Folds}

-- the types of these expressions
abbrev pub types_at : Scope → Folds → List rust.Expr → Option (List Kind)
types_at scope folds es = types_in scope folds (exprs_of (map seen_expr es))

-- the types so far, before those of the rest
abbrev pub with_rest : List Kind → Option (List Kind) → Option (List Kind)
with_rest ts rest = option_map (λ us. ts ++ us) rest

pub with_rest-cons : (ts : List Kind) (t : Kind) (rest : Option (List Kind)) → with_rest ts (option_map (λ us. t ∷ us) rest) ≡ with_rest (ts ++ t ∷ []) rest
with_rest-cons ts t None = refl
with_rest-cons ts t (Some us) = ap Some (sym (append_assoc ts (t ∷ []) us))

-- none is left
pub types-all : (scope : Scope) (folds : Folds) (es : List rust.Expr) (i : ℕ) (ts : List Kind) → length es ≤ i → types_at scope folds es ≡ with_rest ts (types_at scope folds (drop i es)) → Some ts ≡ types_at scope folds es
types-all scope folds es i ts past so_far =
    sym (so_far ∙ ap (λ rest. with_rest ts (types_at scope folds rest)) (drop_all i es past) ∙ ap Some (append-nil ts))

module _ (scope : Scope) (folds : Folds) (es : List rust.Expr) (i : ℕ) (e : rust.Expr) (found : Option Kind) (ts : List Kind) (within : i < length es) (here : e ≡ get_or es i e) (is : found ≡ type_in scope folds (seen_expr e))
    (so_far : types_at scope folds es ≡ with_rest ts (types_at scope folds (drop i es))) where
  behind : drop i es ≡ e ∷ drop (i + 1) es
  behind =
      let next : suc i ≡ i + 1 = omega arith in
      drop-cons es i e within ∙ ap (λ x. x ∷ drop (suc i) es) (sym here) ∙ ap (λ n. e ∷ drop n es) next

  types_from : {o : Option Kind} → found ≡ o → types_at scope folds (drop i es) ≡ option_and_then (λ t. option_map (λ us. t ∷ us) (types_at scope folds (drop (i + 1) es))) o
  types_from known =
      ap (types_at scope folds) behind
      ∙ ap (λ p. option_and_then (λ t. option_map (λ us. t ∷ us) (types_at scope folds (drop (i + 1) es))) p) (sym is ∙ known)

  -- one expression more has a type
  pub types-more : {t : Kind} {new : List Kind} → found ≡ Some t → new ≡ ts ++ t ∷ [] → types_at scope folds es ≡ with_rest new (types_at scope folds (drop (i + 1) es))
  types-more {t} {new} known pushed =
      so_far ∙ ap (with_rest ts) (types_from known) ∙ with_rest-cons ts t (types_at scope folds (drop (i + 1) es))
      ∙ ap (λ us. with_rest us (types_at scope folds (drop (i + 1) es))) (sym pushed)

  -- or none, and so they all have none
  pub types-none : found ≡ None → None ≡ types_at scope folds es
  types-none known = sym (so_far ∙ ap (with_rest ts) (types_from known))
