-- All statements but the last, as they are seen.
use Rattle.std.proofs.Common.{◌≡◌, ◌-◌, List, length, map, take, ap, ◌∙◌}
use Rattle.std.proofs.lemmas.List.{length-map, take-map}
use Rattle.rule_ast.specs.Seen.{seen_stmt}
use Rattle.rule_ast.specs.declared.expr.Stmt as stmt
use Rattle.rule_ast.specs.CostGiven.{but_last}

pub but_last-seen : (ss : List stmt.Stmt) → but_last (map seen_stmt ss) ≡ map seen_stmt (take (length ss - 1) ss)
but_last-seen ss =
    ap (λ n. take (n - 1) (map seen_stmt ss)) (length-map ss seen_stmt) ∙ take-map seen_stmt (length ss - 1) ss

pub ruleset last_laws = (but_last-seen)
