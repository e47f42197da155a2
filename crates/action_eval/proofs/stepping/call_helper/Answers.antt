use Rattle.std.proofs.Common.{List, map, reverse, take, length, ap, sym, ◌∙◌, arith}
use Rattle.rule_ast.specs.declared.parts.Helper.{Helper}
use Rattle.action_eval.specs.Machine.{helpers_in}
use Rattle.action_eval.specs.SeenMachine.{seen_frame, seen_machine, seen_within}
use Rattle.action_eval.specs.declared.machine.Frame.{Frame}
use Rattle.action_eval.proofs.StepLaws.{on-ok, helper-entered, nothing-called, take-within}
use Rattle.action_eval.proofs.stepping.call_helper.Goals as goal

pub returns-in-Some : goal.returns-in-Some
returns-in-Some c =
    let w = seen_within c.args.within.now in
    let seen = c.split_at.result.0.now in
    let k = c.seen_count.result in
    let i = c.in-Some.place in
    let latest = c.in-Some.ensures.found in
    let cut = c.split_at.ensures.front ∙ ap (λ (hs : List Helper). take k hs) c.as_slice-all.ensures in
    let long = ap (λ (hs : List Helper). length hs) cut in
    let all = cut ∙ sym (c.seen_count.ensures.seen w (ap (λ (hs : List Helper). length hs) (sym c.as_slice-all.ensures)))
    ∙ ap (λ (fs : List Frame). helpers_in w (map seen_frame (reverse fs))) c.as_slice.ensures.value in
    on-ok c.enter.result c.enter.ensures
    (helper-entered w (seen_machine c.args.machine.now) (seen_machine c.enter.new.self) c.args.name.now c.args.args.items seen i c.index-seen-place.result c.as_slice-in-Some.result.now
    all (ap (λ (hs : List Helper). take i hs) cut ∙ take-within w.helpers i k (omega (arith, latest.within, long))) latest c.index-seen-place.is c.as_slice-in-Some.ensures)

pub returns-in-None : goal.returns-in-None
returns-in-None c =
    let w = seen_within c.args.within.now in
    let all = c.split_at.ensures.front ∙ ap (λ (hs : List Helper). take c.seen_count.result hs) c.as_slice-all.ensures
    ∙ sym (c.seen_count.ensures.seen w (ap (λ (hs : List Helper). length hs) (sym c.as_slice-all.ensures)))
    ∙ ap (λ (fs : List Frame). helpers_in w (map seen_frame (reverse fs))) c.as_slice.ensures.value in
    on-ok c.push_value.result c.push_value.ensures
    (nothing-called w (seen_machine c.args.machine.now) (seen_machine c.push_value.new.self) c.args.name.now c.args.args.items c.split_at.result.0.now all c.in-None.ensures.none)
