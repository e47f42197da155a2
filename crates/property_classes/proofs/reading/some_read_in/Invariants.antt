use Rattle.std.proofs.Common.{◌≡◌, drop, map}
use Rattle.std.specs.List.{list_any}
use Rattle.rule_ast.specs.Roles.{any_read_in, of_these}
use Rattle.rule_ast.specs.Seen.{seen_stmt}
use Rattle.property_classes.proofs.reading.some_read_in.Given as goal

-- the rest decides
abbrev pub invariant-loop-s : goal.invariant-loop-s
invariant-loop-s l =
    let test = any_read_in (of_these l.question.descs.now l.question.property.now) in
    list_any test (map seen_stmt (drop l.s-index l.ss)) ≡ list_any test (map seen_stmt l.ss)
