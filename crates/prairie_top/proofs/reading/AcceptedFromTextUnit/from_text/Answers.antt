use Rattle.rule_ast.specs.SeenRules.{seen_rules}
use Rattle.rule_types.specs.declared.accepted.Accepted.{Accepted}
use Rattle.prairie_top.specs.Reading.{rules_grammar}
use Rattle.prairie_top.proofs.ReadingLaws.{read_tokens}
use Rattle.prairie_top.proofs.reading.AcceptedFromTextUnit.from_text.Goals as goal

pub returns-in-Ok-clause-read : goal.returns-in-Ok-clause-read
returns-in-Ok-clause-read c =
    read_tokens rules_grammar (λ (a : Accepted). seen_rules a.rules) c.args.text.now c.in-Ok.ts c.rules_of.result c.in-Ok.ensures c.rules_of.ensures
