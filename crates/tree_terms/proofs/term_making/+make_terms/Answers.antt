use Rattle.std.proofs.Common.{rules, ◌<◌, List, length, map, ap, sym, ◌∙◌, subst}
use Rattle.std.specs.Prelude.{All}
use Rattle.std.proofs.lemmas.List.{get_or_default}
use Rattle.pr_value.specs.Trees.{tree, trees_of}
use Rattle.rule_ast.specs.SeenRules.{seen_rules}
use Rattle.rule_runs.proofs.FindLaws.{seen-at}
use Rattle.rule_runs.proofs.MakeLaws.{suffice-first}
use Rattle.rule_runs.proofs.SideLaws.{seen-Operator, seen-Stream}
use Rattle.rule_runs.specs.SeenSides.{seen_side}
use Rattle.rule_runs.specs.Sides as side
use Rattle.rule_runs.specs.declared.sides.Side as rust
use Rattle.rule_runs.specs.declared.sides.Side.{the_lemmas}
use Rattle.tree_terms.proofs.AddLaws.{kept_itself, kept_trans, stand_within}
use Rattle.rule_trees.proofs.MadeLaws.{stream-within}
use Rattle.tree_terms.proofs.TermMadeLaws.{enough-rest, made-next, made-node, made-none, made-stream, nothing, numbers-many, over, rest-right, side_over_one, split-first, stand-later}
use Rattle.tree_terms.specs.Dressed.{all_dressed_with}
use Rattle.tree_terms.proofs.term_making.+make_terms.Goals as goal

pub make_term-add-requires-clause-below : goal.make_term-add-requires-clause-below
make_term-add-requires-clause-below t c =
    let r = seen_rules c.args.dressing.now.rules.now in
    let us = c.requires.stand.0 in
    subst (All (λ n. n < length c.make_terms.new.terms)) (sym c.as_slice-in-Operator.ensures.value)
    (stand_within c.make_terms.new.terms c.in_ok-numbers-in-Operator.numbers.items (all_dressed_with r us (trees_of (map seen_side c.as_slice.result.now)) _).0 (c.in_ok-numbers-in-Operator.ensures.made us c.requires.stand.1).0)

pub make_term-add-requires-clause-over_one : goal.make_term-add-requires-clause-over_one
make_term-add-requires-clause-over_one t c =
    let r = seen_rules c.args.dressing.now.rules.now in
    let ss = map seen_side c.as_slice.result.now in
    let is = ap seen_side c.in-Operator.is ∙ (seen-Operator c.in-Operator.op c.in-Operator.inputs ∙ ap (λ (xs : List rust.Side). tree (side.operator c.in-Operator.op) (map seen_side xs)) (sym c.as_slice.ensures)) in
    side_over_one r (seen_side c.args.side.now) c.in-Operator.op ss c.in_ok-desc-in-Operator.desc c.in_ok-label-in-Operator.label c.as_slice-in-Operator.result.now c.args.dressing.now.accepted is c.requires.arities c.in_ok-label-in-Operator.ensures
    (ap length c.as_slice-in-Operator.ensures.value ∙ numbers-many r c.args.streams.now c.args.terms.now c.requires.stand.0 (trees_of ss) _ c.in_ok-numbers-in-Operator.rest.now c.make_terms.new.terms c.in_ok-numbers-in-Operator.numbers.items c.requires.stand.1 c.in_ok-numbers-in-Operator.ensures.made)

pub make_term-returns-in_ok-number-in-Operator-clause-made :
    goal.make_term-returns-in_ok-number-in-Operator-clause-made
make_term-returns-in_ok-number-in-Operator-clause-made t c =
    let r = seen_rules c.args.dressing.now.rules.now in
    let ss = map seen_side c.as_slice.result.now in
    let is = ap seen_side c.in-Operator.is ∙ (seen-Operator c.in-Operator.op c.in-Operator.inputs ∙ ap (λ (xs : List rust.Side). tree (side.operator c.in-Operator.op) (map seen_side xs)) (sym c.as_slice.ensures)) in
    made-node r c.args.streams.now c.args.terms.now c.make_terms.new.terms c.add.new.self (seen_side c.args.side.now) c.in-Operator.op ss c.in_ok-desc-in-Operator.desc c.args.descs.now _ c.in_ok-numbers-in-Operator.rest.now c.in_ok-label-in-Operator.label
    c.in_ok-numbers-in-Operator.numbers.items c.as_slice-in-Operator.result.now c.in_ok-number-in-Operator.number is
    (split-first (seen_side c.args.side.now) c.in-Operator.op (length c.args.streams.now) ss c.args.descs.now c.in_ok-desc-in-Operator.desc c.index-descs-0.result is c.requires.enough c.index-descs-0.is c.in_ok-desc-in-Operator.ensures) c.in_ok-label-in-Operator.ensures c.as_slice-in-Operator.ensures.value
    c.in_ok-number-in-Operator.ensures.kept c.in_ok-number-in-Operator.ensures.at c.in_ok-numbers-in-Operator.ensures.made

pub make_term-returns-in-Stream-clause-made : goal.make_term-returns-in-Stream-clause-made
make_term-returns-in-Stream-clause-made t c =
    let r = seen_rules c.args.dressing.now.rules.now in
    let is = ap seen_side c.in-Stream.is ∙ seen-Stream c.in-Stream.place in
    let within = stream-within (length c.args.streams.now) (seen_side c.args.side.now) c.in-Stream.place is c.requires.enough.within in
    made-stream r c.args.streams.now c.args.terms.now (seen_side c.args.side.now) c.in-Stream.place _ c.args.descs.now is within (get_or_default c.args.streams.now c.in-Stream.place 0 _ within)

pub make_terms-loop-side-init : goal.make_terms-loop-side-init
make_terms-loop-side-init t c =
    record {
      kept = kept_itself c.args.terms.now;
      made = made-none (seen_rules c.args.dressing.now.rules.now) c.args.streams.now c.args.terms.now (map seen_side c.args.sides.now) c.args.descs.now c.new-numbers.result.items c.new-numbers.ensures.items;
      right = c.requires.arities;
      enough = c.requires.enough;
    }

pub make_terms-make_term-requires : goal.make_terms-make_term-requires
make_terms-make_term-requires t c =
    let r = seen_rules c.args.dressing.now.rules.now in
    let us = c.requires.stand.0 in
    let ss = map seen_side c.args.sides.now in
    let i = c.loop-side.side-index in
    let s = seen_side c.side-item.result in
    let sides = seen-at seen_side c.args.sides.now i c.side-item.result c.loop-side-test.true c.side-item.is in (
      search (rules, the_lemmas),
      (
        (us, stand-later c.args.terms.now c.loop-side.terms c.args.streams.now us c.loop-side.invariant.kept c.requires.stand.1),
        ((rest-right r i ss s sides c.loop-side.invariant.right).0, suffice-first (over r) (nothing r) us (length c.args.streams.now) (length c.loop-side.rest.now) i ss s sides c.loop-side.invariant.enough),
      ),
    )

pub make_terms-loop-side-preserved : goal.make_terms-loop-side-preserved
make_terms-loop-side-preserved t c =
    let r = seen_rules c.args.dressing.now.rules.now in
    let ss = map seen_side c.args.sides.now in
    let i = c.loop-side.side-index in
    let s = seen_side c.side-item.result in
    let sides = seen-at seen_side c.args.sides.now i c.side-item.result c.loop-side-test.true c.side-item.is in
    record {
      kept = kept_trans c.args.terms.now c.loop-side.terms c.make_term.new.terms c.loop-side.invariant.kept c.in_ok-number.ensures.kept;
      made =
          made-next r c.args.streams.now c.args.terms.now ss c.args.descs.now c.loop-side.rest.now c.in_ok-number.left.now i s c.loop-side.terms c.make_term.new.terms c.loop-side.numbers.items c.push.new.self.items c.in_ok-number.number sides
          c.loop-side.invariant.kept c.in_ok-number.ensures.kept c.loop-side.invariant.made c.in_ok-number.ensures.made (search rules);
      right = (rest-right r i ss s sides c.loop-side.invariant.right).1;
      enough =
          enough-rest r c.args.streams.now c.args.terms.now c.loop-side.terms c.make_term.new.terms c.requires.stand.0 (length c.args.streams.now) i c.in_ok-number.number ss s c.loop-side.rest.now c.in_ok-number.left.now sides
          c.loop-side.invariant.kept c.requires.stand.1 c.in_ok-number.ensures.made c.loop-side.invariant.enough;
    }
