use Rattle.std.proofs.Common.{◌≡◌, List, length, map, ap, sym, ◌∙◌, subst}
use Rattle.std.proofs.lemmas.List.{length-map}
use Rattle.action_eval.specs.Environments.{Env, after, are_typed_here}
use Rattle.action_eval.specs.Meaning.{desc_in}
use Rattle.action_eval.specs.SeenEnv.{seen_env}
use Rattle.descriptor_types.specs.Descriptors.{Desc, fits, plain}
use Rattle.descriptor_types.specs.Labels.{seen_tree}
use Rattle.query_build.specs.Query.{initial_desc, with_settings}
use Rattle.rule_trees.specs.Trees.{IsFree}
use Rattle.rule_trees.specs.Views.{view_in}
use Rattle.query_build.proofs.BuildLaws.{initial-fits, initial-free, typed-init}
use Rattle.query_build.proofs.SoundLaws.{settings-sound}
use Rattle.rule_trees.proofs.PlainLaws.{plain-sound}
use Rattle.rule_ast.specs.Seen.{seen_operator, seen_stmt}
use Rattle.rule_ast.specs.SeenRules.{seen_rules}
use Rattle.rule_ast.specs.declared.expr.Stmt as rust
use Rattle.rule_types.proofs.AcceptedCosts.{accepted-one_cost}
use Rattle.query_build.proofs.building.initial_desc.Goals as goal

pub run_statements-requires-clause-typed : goal.run_statements-requires-clause-typed
run_statements-requires-clause-typed c =
    let under = c.args.under.now in
    let r = seen_rules under.rules.now in
    let o = seen_operator c.args.operator.now in
    let ts = map seen_tree c.args.inputs.now in
    let views = map (view_in r) ts in
    let d = with_settings r.properties c.args.settings.now (plain r.properties) in
    let as_many : length o.views ≡ length views = c.requires.as_many ∙ (sym (length-map c.args.inputs.now seen_tree) ∙ sym (length-map ts (view_in r))) in
    ap (λ (ss : List rust.Stmt). are_typed_here (seen_env c.in_ok-env.env) (map seen_stmt ss)) c.as_slice.ensures
    ∙ typed-init r c.requires.declared.0 o views d (seen_env c.in_ok-env.env) under.accepted c.requires.declared.1 as_many c.in_ok-env.ensures.env

pub returns-clause-sound : goal.returns-clause-sound
returns-clause-sound c =
    let under = c.args.under.now in
    let r = seen_rules under.rules.now in
    let catalog = under.catalog.now in
    let o = seen_operator c.args.operator.now in
    let ts = map seen_tree c.args.inputs.now in
    let views = map (view_in r) ts in
    let d = with_settings r.properties c.args.settings.now (plain r.properties) in
    let old = seen_env c.in_ok-env.env in
    let new = seen_env c.run_statements.new.env in
    let as_many : length o.views ≡ length views = c.requires.as_many ∙ (sym (length-map c.args.inputs.now seen_tree) ∙ sym (length-map ts (view_in r))) in
    let one = accepted-one_cost r under.accepted in
    let own = settings-sound r one c.args.settings.now (plain r.properties) c.requires.right (plain-sound r one) in
    let ran : new ≡ after old catalog o.init =
    c.in_ok-run_statements.ensures.ok ∙ ap (λ (ss : List rust.Stmt). after old catalog (map seen_stmt ss)) c.as_slice.ensures in
    let this : c.in_ok-desc.desc ≡ desc_in new.descs o.own = c.in_ok-desc.ensures in
    let whole : c.in_ok-desc.desc ≡ initial_desc r catalog o c.args.settings.now views =
    this ∙ ap (λ (e : Env). desc_in e.descs o.own) (ran ∙ ap (λ (e : Env). after e catalog o.init) c.in_ok-env.ensures.env) in (
      ap (fits r.properties) this
          ∙ initial-fits r o views d old new as_many c.in_ok-env.ensures.env (ap (λ (e : Env). e.layout) ran) c.run_statements.ensures.sound c.run_statements.ensures.context,
      subst (λ (f : Desc). IsFree r f) (sym whole) (initial-free r catalog c.requires.declared.0 o c.args.settings.now ts under.accepted c.requires.declared.1 c.requires.sound own),
    )
