-- How the definitions see a node of a query of the code.
use Rattle.query_build.specs.Refusals.{Part}
use Rattle.query_build.specs.declared.parts.Part as rust
use Rattle.query_build.specs.declared.parts.Part.TheVariants as part
use Rattle.rule_ast.specs.Syntax.{QueryLabel}

abbrev pub seen_part : rust.Part → Part
seen_part (part.File name) = record { label = QueryLabel.file name.now; inputs = 0 }
seen_part (part.Operator name settings inputs) =
    record { label = QueryLabel.operator name.now settings.now; inputs = inputs }
