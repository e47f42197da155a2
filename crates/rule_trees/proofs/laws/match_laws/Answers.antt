use Rattle.rule_ast.specs.SeenRules.{seen_rules}
use Rattle.rule_trees.proofs.RootedLaws.{seen_trules-rooted}
use Rattle.rule_trees.proofs.AskedMatches.{asked-matches, irules-rooted, trule-rooted}
use Rattle.rule_trees.proofs.laws.match_laws.Goals as goal

pub returns-clause-rooted : goal.returns-clause-rooted
returns-clause-rooted c =
    let r = seen_rules c.args.a.now.rules in
    record {
      trules = λ n t at. trule-rooted r.operators t (seen_trules-rooted c.args.a.now.rules.trules n t at);
      irules = irules-rooted r.operators c.args.a.now.rules.irules;
    }

pub returns-clause-asked : goal.returns-clause-asked
returns-clause-asked c s physical wanted t rooted = asked-matches (seen_rules c.args.a.now.rules) s physical wanted t rooted
