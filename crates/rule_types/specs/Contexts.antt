-- The names that an expression may use, as the definitions see them.
use Rattle.std.specs.Prelude.{List}
use Rattle.pr_value.specs.Symbols.{Symbol}
use Rattle.rule_ast.specs.Typing.{Context, params_context}
use Rattle.rule_ast.specs.declared.parts.Param.{Param}
use Rattle.rule_types.specs.declared.context.Context as context

-- these descriptors and parameters
abbrev pub context_over : List Symbol → List Param → Context
context_over descs params = record { descs = descs; vars = (params_context params).vars }

abbrev pub seen_context : context.Context → Context
seen_context c = context_over c.descs.now c.vars.now
