use Rattle.std.proofs.Common.{◌≡◌, ◌++◌, flat_map, map, take}
use Rattle.query_build.specs.Refusals.{parts}
use Rattle.query_build.specs.SeenParts.{seen_part}
use Rattle.rule_ast.specs.Seen.{seen_query}
use Rattle.query_build.proofs.parts.+push_parts.Given as goal

abbrev pub invariant-push_parts_of-loop-query : goal.invariant-push_parts_of-loop-query
invariant-push_parts_of-loop-query l =
    map seen_part l.out.items
    ≡ map seen_part l.initial.out.items
    ++ flat_map (λ q. parts (seen_query q)) (take l.query-index l.queries)
