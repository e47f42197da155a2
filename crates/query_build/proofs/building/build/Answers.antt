use Rattle.std.proofs.Common.{◌≡◌, None, ap, sym, ◌∙◌}
use Rattle.query_build.specs.Refusals.{refusal_of}
use Rattle.query_build.proofs.BuildLaws.{told-some}
use Rattle.query_build.proofs.FaultLaws.{faultless}
use Rattle.rule_ast.specs.Seen.{seen_query}
use Rattle.rule_ast.specs.SeenRules.{seen_rules}
use Rattle.rule_ast.specs.declared.rule_set.Rules.{Rules}
use Rattle.query_build.proofs.building.build.Goals as goal

pub returns-in-Some-clause-refused : goal.returns-in-Some-clause-refused
returns-in-Some-clause-refused c =
    let why : Rules → _ = λ r. refusal_of (seen_rules r) c.args.catalog.now (seen_query c.args.q.now) in
    told-some (why c.args.a.now.rules) c.in-Some.refusal (sym (ap why c.rules.ensures.same) ∙ (sym c.in_ok-refusal.ensures ∙ c.in-Some.is))

pub tree_of-requires : goal.tree_of-requires
tree_of-requires c =
    let why : Rules → _ = λ r. refusal_of (seen_rules r) c.args.catalog.now (seen_query c.args.q.now) in
    let none : c.in_ok-refusal.field-0 ≡ None = cc in
    record {
      right = faultless (seen_rules c.rules-2.result.now) c.args.catalog.now (seen_query c.args.q.now)
          (ap why (c.rules-2.ensures.same ∙ sym c.rules.ensures.same) ∙ (sym c.in_ok-refusal.ensures ∙ none));
    }

pub returns-clause-built : goal.returns-clause-built
returns-clause-built c =
    let why : Rules → _ = λ r. refusal_of (seen_rules r) c.args.catalog.now (seen_query c.args.q.now) in
    let none : c.in_ok-refusal.field-0 ≡ None = cc in
    sym (ap why c.rules.ensures.same) ∙ (sym c.in_ok-refusal.ensures ∙ none)
