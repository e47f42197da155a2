use Rattle.std.proofs.Common.{[], List, Option, ℕ, length, sym, subst}
use Rattle.memo.specs.Kept.{IsMemo}
use Rattle.memo.specs.Start.{AreOwnLines, IsStarted}
use Rattle.memo.proofs.GrewLaws.{grew_trans}
use Rattle.memo.proofs.StartLaws.{memo_none, fresh_of}
use Rattle.memo.proofs.start.start.Goals as goal

pub add_nodes-requires-clause-kept : goal.add_nodes-requires-clause-kept
add_nodes-requires-clause-kept g c =
    let log = c.own_lines.new.log in
    subst (λ es. IsMemo log.terms log.lines es c.args.known.now.items c.args.index.now.entries []) (sym c.requires.exprs)
    (subst (λ ks. IsMemo log.terms log.lines [] ks c.args.index.now.entries []) (sym c.requires.known)
    (subst (λ is. IsMemo log.terms log.lines [] [] is []) (sym c.requires.index) (memo_none log.terms log.lines)))

pub add_nodes-requires-clause-lines : goal.add_nodes-requires-clause-lines
add_nodes-requires-clause-lines g c = subst (AreOwnLines c.own_lines.new.log.lines) (sym c.as_slice.ensures.value) c.in_ok-own.ensures.lines

pub returns-clause-grew : goal.returns-clause-grew
returns-clause-grew g c = grew_trans c.args.log.now c.own_lines.new.log c.add_nodes.new.log c.in_ok-own.ensures.grew c.in_ok-add_nodes.ensures.grew

pub returns-clause-fresh : goal.returns-clause-fresh
returns-clause-fresh g c =
    let new = c.add_nodes.new in
    fresh_of c.args.log.now.terms new.log.terms c.args.log.now.query new.log.lines new.known.items c.in_ok-own.own.items new.exprs.items c.in_ok-own.ensures.nodes c.in_ok-add_nodes.ensures.kept.forest
    (subst (λ (own : List (Option ℕ)). IsStarted own new.exprs.items (length own)) c.as_slice.ensures.value c.in_ok-add_nodes.ensures.started)
