use Rattle.rule_ast.specs.Seen.{seen_operator}
use Rattle.rule_trees.proofs.AcceptedFacts.{slice_get-map}
use Rattle.query_build.proofs.operators.declared_at.Goals as goal

pub returns : goal.returns
returns c = slice_get-map seen_operator c.args.operators.now c.args.place c.index-operators-place.result c.requires c.index-operators-place.is
