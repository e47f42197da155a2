use Rattle.std.proofs.Common.{◌≡◌, List, [], ◌∷◌, ◌++◌, map, ap, ◌∙◌}
use Rattle.descriptor_types.specs.Descriptors.{Desc, Layout, plain}
use Rattle.descriptor_types.specs.Labels.{seen_tree}
use Rattle.property_classes.specs.Classes.{is_seen}
use Rattle.query_build.specs.Query.{with_settings}
use Rattle.rule_trees.specs.Views.{seen, view_in}
use Rattle.query_build.proofs.BuildLaws.{views-pushed}
use Rattle.rule_ast.specs.SeenRules.{seen_rules}
use Rattle.query_build.proofs.building.seen_descs.Goals as goal

pub returns : goal.returns
returns c =
    let under = c.args.under.now in
    let r = seen_rules under.rules.now in
    let mask : c.seen.result.now ≡ seen r = c.seen.ensures ∙ ap (map is_seen) under.classed in
    let views = views-pushed r under.layout.now c.seen.result.now c.args.inputs.now c.new-descs.result c.push_views.new.out under.laid_out mask c.new-descs.ensures c.in_ok-push_views.ensures.pushed in
    let own = c.in_ok-own.ensures ∙ ap (λ (l : Layout). with_settings l c.args.settings.now (plain l)) under.laid_out in
    c.in_ok-push.ensures.ok
    ∙ (ap (λ (ds : List Desc). ds ++ c.in_ok-own.own ∷ []) views
    ∙ ap (λ (d : Desc). map (view_in r) (map seen_tree c.args.inputs.now) ++ d ∷ []) own)
