use Rattle.rule_ast.specs.Seen.{seen_query}
use Rattle.rule_ast.specs.SeenRules.{seen_rules}
use Rattle.prairie_top.specs.declared.reading.Built.{Built}
use Rattle.prairie_top.specs.Reading.{query_grammar}
use Rattle.prairie_top.proofs.ReadingLaws.{read_tokens}
use Rattle.prairie_top.proofs.reading.BuiltFromTextUnder.from_text.Goals as goal

pub returns-in-Ok-clause-read : goal.returns-in-Ok-clause-read
returns-in-Ok-clause-read c =
    read_tokens (query_grammar (seen_rules c.args.under.now.accepted.now.rules) c.args.under.now.catalog.now) (λ (b : Built). seen_query b.query) c.args.text.now c.in-Ok.ts c.query_of.result c.in-Ok.ensures c.query_of.ensures.read
