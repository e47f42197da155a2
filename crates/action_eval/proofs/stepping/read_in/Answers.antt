use Rattle.std.proofs.Common.{List, map, reverse, ap, sym, ◌∙◌}
use Rattle.pr_value.specs.Symbols.{Symbol}
use Rattle.descriptor_types.specs.Descriptors.{Desc, value_of}
use Rattle.action_eval.specs.Meaning.{desc_in}
use Rattle.action_eval.specs.SeenMachine.{seen_frame, seen_within}
use Rattle.action_eval.proofs.MachineLaws.{descs-in_body, descs-outside}
use Rattle.action_eval.proofs.ReadLaws.{value_of-nothing}
use Rattle.action_eval.proofs.stepping.read_in.Goals as goal

pub returns-then-is_in_body : goal.returns-then-is_in_body
returns-then-is_in_body c =
    let w = seen_within c.args.within.now in
    let inside = descs-in_body w (map seen_frame (reverse c.args.frames.now)) (sym c.is_in_body.ensures ∙ c.if-is_in_body.true) in
    c.own.ensures ∙ sym (ap (λ (ds : List (Symbol × Desc)). value_of w.layout c.args.property.now (desc_in ds c.args.desc.now)) inside ∙ value_of-nothing w.layout c.args.property.now)

pub returns : goal.returns
returns c =
    let w = seen_within c.args.within.now in
    let outside = descs-outside w (map seen_frame (reverse c.args.frames.now)) (sym c.is_in_body.ensures ∙ c.if-is_in_body.false) in
    c.read.ensures ∙ sym (ap (λ (ds : List (Symbol × Desc)). value_of w.layout c.args.property.now (desc_in ds c.args.desc.now)) outside)
