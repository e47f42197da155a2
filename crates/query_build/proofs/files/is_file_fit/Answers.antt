use Rattle.std.proofs.Common.{true, false, not, ap, sym, ◌∙◌}
use Rattle.std.proofs.lemmas.Bool.{not-true}
use Rattle.catalog.specs.Contents.{entry}
use Rattle.rule_ast.specs.SeenRules.{seen_rules}
use Rattle.rule_ast.specs.declared.rule_set.Rules as rules
use Rattle.rule_types.proofs.AcceptedCosts.{accepted-one_cost}
use Rattle.query_build.proofs.SoundLaws.{file-sound}
use Rattle.query_build.specs.Query.{fields_in}
use Rattle.query_build.specs.Refusals.{is_wrong_file}
use Rattle.query_build.proofs.files.is_file_fit.Goals as goal

pub returns-clause-desc : goal.returns-clause-desc
returns-clause-desc c holds =
    let r = seen_rules c.args.a.now.rules in
    let fields = fields_in (entry c.args.catalog.now c.args.name.now) in
    let says = c.is_wrong_file.ensures ∙ ap (λ (rs : rules.Rules). is_wrong_file (seen_rules rs) fields) c.rules.ensures.same in
    file-sound r fields (accepted-one_cost r c.rules.ensures.accepted) (sym says ∙ not-true c.is_wrong_file.result holds)
