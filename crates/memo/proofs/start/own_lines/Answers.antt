use Rattle.std.proofs.Common.{rules, ◌≡◌, ◌++◌, ◌∙◌, ◌↔◌, ℕ, suc, List, Option, length, take, drop, ap, sym, subst}
use Rattle.memo.specs.Forest.{HasLine}
use Rattle.memo.specs.Start.{IsNode, IsOwned, AreOwnLines, IsOwning}
use Rattle.memo.proofs.SettleLaws.{written}
use Rattle.memo.proofs.StartLaws.{owning_first, owning_last, lines_first}
use Rattle.memo.proofs.start.own_lines.Goals as goal

pub own_nodes-requires-clause-lines : goal.own_nodes-requires-clause-lines
own_nodes-requires-clause-lines g c =
    subst (AreOwnLines c.args.log.now.lines) (sym c.as_mut_slice.ensures.value)
    (lines_first c.args.log.now.lines c.query-query.result c.in_ok-line.line c.in_ok-own.own.items (subst (λ q. HasLine c.args.log.now.lines c.in_ok-line.line q q) (sym c.query-query.ensures) c.in_ok-line.ensures) c.in_ok-own.ensures.only)

pub own_nodes-requires-clause-owning : goal.own_nodes-requires-clause-owning
own_nodes-requires-clause-owning g c =
    subst (λ own. IsOwning c.args.log.now.terms c.args.log.now.query own 0) (sym c.as_mut_slice.ensures.value)
    (subst (λ q. IsOwning c.args.log.now.terms q c.in_ok-own.own.items 0) c.query-query.ensures
    (owning_first c.args.log.now.terms c.query-query.result c.in_ok-line.line c.in_ok-own.own.items c.in_ok-own.ensures.long c.in_ok-own.ensures.last c.in_ok-own.ensures.only))

pub returns-clause-lines : goal.returns-clause-lines
returns-clause-lines g c =
    let long : length c.own_nodes.new.own ≡ length c.in_ok-own.own.items = c.in_ok-own_nodes.ensures.owning.long ∙ sym (c.in_ok-own.ensures.long ∙ ap suc c.query-query.ensures) in
    let whole : take c.in_ok-own.own.len (c.own_nodes.new.own ++ drop (length c.own_nodes.new.own) c.in_ok-own.own.items) ≡ c.own_nodes.new.own =
    written c.in_ok-own.own.len c.own_nodes.new.own c.in_ok-own.own.items long (let h = c.as_mut_slice.ensures.len in let v = c.as_mut_slice.ensures.value in search rules)
    in
    subst (AreOwnLines c.own_nodes.new.log.lines) (sym whole) c.in_ok-own_nodes.ensures.lines

pub returns-clause-nodes : goal.returns-clause-nodes
returns-clause-nodes g c =
    let long : length c.own_nodes.new.own ≡ length c.in_ok-own.own.items = c.in_ok-own_nodes.ensures.owning.long ∙ sym (c.in_ok-own.ensures.long ∙ ap suc c.query-query.ensures) in
    let whole : take c.in_ok-own.own.len (c.own_nodes.new.own ++ drop (length c.own_nodes.new.own) c.in_ok-own.own.items) ≡ c.own_nodes.new.own =
    written c.in_ok-own.own.len c.own_nodes.new.own c.in_ok-own.own.items long (let h = c.as_mut_slice.ensures.len in let v = c.as_mut_slice.ensures.value in search rules)
    in
    subst (λ (own : List (Option ℕ)). (n : ℕ) → IsOwned own n ↔ IsNode c.args.log.now.terms c.args.log.now.query n) (sym whole)
    (owning_last c.args.log.now.terms c.args.log.now.query c.own_nodes.new.own c.in_ok-own_nodes.ensures.owning)
