use Rattle.std.proofs.Common.{◌≡◌, length, map, ap, sym, ◌∙◌}
use Rattle.std.proofs.lemmas.List.{length-map}
use Rattle.descriptor_types.specs.Descriptors.{plain}
use Rattle.descriptor_types.specs.Labels.{seen_tree}
use Rattle.pr_value.specs.Repeats.{are_distinct}
use Rattle.query_build.specs.Query.{with_settings}
use Rattle.rule_runs.specs.Runs.{Scope, env_over}
use Rattle.rule_trees.specs.Views.{view_in}
use Rattle.query_build.proofs.BuildLaws.{distinct-descs, fits-scope, zip-scope}
use Rattle.query_build.proofs.SoundLaws.{settings-sound}
use Rattle.rule_trees.proofs.PlainLaws.{plain-sound}
use Rattle.rule_ast.specs.Seen.{seen_operator}
use Rattle.rule_ast.specs.SeenRules.{seen_rules}
use Rattle.rule_types.proofs.AcceptedCosts.{accepted-one_cost}
use Rattle.rule_types.proofs.AcceptedTypes.{accepted-types}
use Rattle.query_build.proofs.building.initial_env.Goals as goal

pub env_over-requires-clause-different : goal.env_over-requires-clause-different
env_over-requires-clause-different c =
    let under = c.args.under.now in
    let r = seen_rules under.rules.now in
    ap are_distinct (c.as_slice.ensures ∙ c.in_ok-names.ensures)
    ∙ distinct-descs r c.requires.declared.0 (seen_operator c.args.operator.now) under.accepted c.requires.declared.1

pub env_over-requires-clause-fit : goal.env_over-requires-clause-fit
env_over-requires-clause-fit c =
    let under = c.args.under.now in
    let r = seen_rules under.rules.now in
    let one = accepted-one_cost r under.accepted in
    let own = settings-sound r one c.args.settings.now (plain r.properties) c.requires.right (plain-sound r one) in
    fits-scope r under.catalog.now (map seen_tree c.args.inputs.now) (with_settings r.properties c.args.settings.now (plain r.properties)) c.as_slice-2.result.now
    under.accepted c.requires.sound own (c.as_slice-2.ensures ∙ c.in_ok-descs.ensures)

pub returns-clause-env : goal.returns-clause-env
returns-clause-env c =
    let under = c.args.under.now in
    let r = seen_rules under.rules.now in
    let ts = map seen_tree c.args.inputs.now in
    let views = map (view_in r) ts in
    let d = with_settings r.properties c.args.settings.now (plain r.properties) in
    let as_many : length c.args.operator.now.views ≡ length views =
    c.requires.as_many ∙ (sym (length-map c.args.inputs.now seen_tree) ∙ sym (length-map ts (view_in r))) in
    c.in_ok-env.ensures.env
    ∙ ap (λ (s : Scope). env_over r s)
    (zip-scope (seen_operator c.args.operator.now) views d c.as_slice.result.now c.as_slice-2.result.now as_many
    (c.as_slice.ensures ∙ c.in_ok-names.ensures) (c.as_slice-2.ensures ∙ c.in_ok-descs.ensures))

pub env_over-requires-clause-helpers : goal.env_over-requires-clause-helpers
env_over-requires-clause-helpers c = (accepted-types (seen_rules c.args.under.now.rules.now) c.args.under.now.accepted).helpers
