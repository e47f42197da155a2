use Rattle.std.proofs.Common.{sym, ap, ◌∙◌}
use Rattle.rule_ast.specs.Typing.{builtin_of}
use Rattle.rule_types.specs.BuiltinCounts.{takes_if}
use Rattle.rule_types.proofs.BuiltinCountLaws.{has_signature-builtins}
use Rattle.rule_types.proofs.builtin_counts.builtin_takes.Goals as goal

pub returns-in-Some : goal.returns-in-Some
returns-in-Some c =
    c.takes.ensures ∙ ap (λ f. takes_if f c.args.arguments) (c.in-Some.ensures ∙ ap builtin_of c.as_slice.ensures.same) ∙ sym (has_signature-builtins c.args.name.now c.args.arguments)

pub returns-in-None : goal.returns-in-None
returns-in-None c =
    ap (λ f. takes_if f c.args.arguments) (c.in-None.ensures ∙ ap builtin_of c.as_slice.ensures.same) ∙ sym (has_signature-builtins c.args.name.now c.args.arguments)
