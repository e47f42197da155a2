use Rattle.std.proofs.Common.{◌≡◌, [], ◌∷◌, true, sym, ap, ◌∙◌, subst}
use Rattle.descriptor_types.specs.Descriptors.{with_value}
use Rattle.rule_ast.specs.Seen.{seen_stmt, seen_expr}
use Rattle.rule_ast.specs.declared.expr.Stmt.{Stmt}
use Rattle.action_eval.specs.Environments.{Env, IsSound, are_typed_here, context_of}
use Rattle.action_eval.specs.Meaning.{desc_in}
use Rattle.action_eval.specs.SeenEnv.{seen_env}
use Rattle.action_eval.proofs.StatementLaws.{sound-set, sound-copy, context-with_desc_in}
use Rattle.action_eval.proofs.statements.run_statement.Goals as goal

pub returns-in_ok-value-in-Set-clause-sound : goal.returns-in_ok-value-in-Set-clause-sound
returns-in_ok-value-in-Set-clause-sound c =
    let env = seen_env c.args.env.now in
    subst (λ (e : Env). IsSound e) (sym c.set_property.ensures)
    (sound-set env c.in-Set.desc c.in-Set.property (seen_expr c.in-Set.value) c.in_ok-value-in-Set.value c.requires.sound
    (subst (λ (s : Stmt). are_typed_here env (seen_stmt s ∷ []) ≡ true) c.in-Set.is c.requires.typed) (λ t typed. c.in_ok-value-in-Set.ensures.kind t c.requires.sound typed))

pub returns-in_ok-value-in-Set-clause-context : goal.returns-in_ok-value-in-Set-clause-context
returns-in_ok-value-in-Set-clause-context c =
    let env = seen_env c.args.env.now in
    ap context_of c.set_property.ensures ∙ context-with_desc_in env c.in-Set.desc (with_value env.layout c.in-Set.property c.in_ok-value-in-Set.value (desc_in env.descs c.in-Set.desc))

pub returns-in_ok-copy_desc-in-Copy-clause-sound : goal.returns-in_ok-copy_desc-in-Copy-clause-sound
returns-in_ok-copy_desc-in-Copy-clause-sound c =
    let env = seen_env c.args.env.now in
    subst (λ (e : Env). IsSound e) (sym c.in_ok-copy_desc-in-Copy.ensures.ok)
    (sound-copy env c.in-Copy.to c.in-Copy.from c.requires.sound (subst (λ (s : Stmt). are_typed_here env (seen_stmt s ∷ []) ≡ true) c.in-Copy.is c.requires.typed))

pub returns-in_ok-copy_desc-in-Copy-clause-context : goal.returns-in_ok-copy_desc-in-Copy-clause-context
returns-in_ok-copy_desc-in-Copy-clause-context c =
    let env = seen_env c.args.env.now in
    ap context_of c.in_ok-copy_desc-in-Copy.ensures.ok ∙ context-with_desc_in env c.in-Copy.to (desc_in env.descs c.in-Copy.from)
