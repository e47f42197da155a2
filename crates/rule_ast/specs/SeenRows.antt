-- A row of the table of built-in functions, as the definitions see it.
use Rattle.rule_ast.specs.Typing.{Row, row}
use Rattle.rule_ast.specs.declared.table.Row as table

abbrev pub seen_row : table.Row → Row
seen_row r = row r.0.now r.1 r.2.now r.3
