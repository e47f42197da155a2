-- The types of values, and of what stands in a scope.
use Rattle.std.specs.Prelude.{map}
use Rattle.pr_value.specs.declared.kind.Kind.{Kind}
use Rattle.pr_value.specs.declared.kind.Kind.TheVariants as kind
use Rattle.pr_value.specs.declared.value.Value.{Value}
use Rattle.pr_value.specs.declared.value.Value.TheVariants as value
use Rattle.rule_ast.specs.Typing.{Context}
use Rattle.action_eval.specs.Meaning.{Scope}

-- the type of a value
abbrev pub kind_of : Value → Kind
kind_of (value.Num n) = kind.Num
kind_of (value.Truth b) = kind.Truth
kind_of (value.Sym s) = kind.Symbol
kind_of (value.Set ss) = kind.Set
kind_of (value.List ss) = kind.List

-- the names of a scope, with the types of the values
abbrev pub context_in : Scope → Context
context_in scope = record { descs = map (λ d. d.0) scope.descs; vars = map (λ v. (v.0, kind_of v.1)) scope.values }
