-- What an expression and its parts may use, as the definitions see it, and their types there.
use Rattle.std.specs.Prelude.{List, ◌∷◌, map, Option}
use Rattle.pr_value.specs.Symbols.{Symbol}
use Rattle.pr_value.specs.declared.kind.Kind.{Kind}
use Rattle.pr_value.specs.declared.kind.Kind.TheVariants as kind
use Rattle.rule_ast.specs.Seen.{seen_helper}
use Rattle.rule_ast.specs.Syntax.{Expr, Exprs}
use Rattle.rule_ast.specs.Typing.{Context, params_context, signatures_of, type_of, types_of}
use Rattle.rule_types.specs.declared.context.Scope.{Scope}
use Rattle.rule_types.specs.declared.folds.Folds.{Folds}
use Rattle.rule_types.specs.declared.folds.Folds.TheOpen.{Folds-F}
use Rattle.rule_types.specs.declared.folds.Folds.TheFolds.{fold-Folds}

-- one level, with the folds around it already seen
abbrev pub vars_level : List (Symbol × Kind) → Folds-F (List (Symbol × Kind)) → List (Symbol × Kind)
vars_level params Folds-F.Outside = params
vars_level params (Folds-F.Within x others) = (x.now, kind.Symbol) ∷ others.now

-- the names of folds, whose members are symbols, before parameters
abbrev pub vars_of : List (Symbol × Kind) → Folds → List (Symbol × Kind)
vars_of params = fold-Folds (List (Symbol × Kind)) (vars_level params)

abbrev pub scope_context : Scope → Folds → Context
scope_context scope folds = record {
  descs = scope.context.now.descs.now;
  vars = vars_of (params_context scope.context.now.vars.now).vars folds;
}

abbrev pub type_in : Scope → Folds → Expr → Option Kind
type_in scope folds e =
    type_of scope.properties.now (signatures_of (map seen_helper scope.helpers.now))
    (scope_context scope folds) e

abbrev pub types_in : Scope → Folds → Exprs → Option (List Kind)
types_in scope folds es =
    types_of scope.properties.now (signatures_of (map seen_helper scope.helpers.now))
    (scope_context scope folds) es
