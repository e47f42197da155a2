use Rattle.std.proofs.Common.{ℕ, List, ap, ◌∙◌}
use Rattle.query_build.specs.Refusals.{Part}
use Rattle.query_build.proofs.PartLaws.{node_pushed}
use Rattle.rule_ast.specs.Syntax.{QueryLabel}
use Rattle.rule_ast.specs.declared.query.Setting.{Setting}
use Rattle.query_build.proofs.parts.+push_parts.Goals as goal

pub push_parts-returns-in_ok-push_parts_of-in-Node :
    goal.push_parts-returns-in_ok-push_parts_of-in-Node
push_parts-returns-in_ok-push_parts_of-in-Node t c =
    let node : List Setting → ℕ → Part = λ ss n. record { label = QueryLabel.operator c.in-Node.op ss; inputs = n } in
    node_pushed c.args.query.now c.in-Node.op c.in-Node.settings c.in-Node.inputs c.as_slice-in-Node.result.now c.args.out.now.items c.push-in-Node.new.self.items c.push_parts_of.new.out.items _
    c.in-Node.is c.in_ok-push-in-Node.ensures.items
    (ap (λ (ss : List Setting). node ss c.len.result) c.as_slice.ensures ∙ ap (λ (n : ℕ). node c.in-Node.settings n) c.len.ensures)
    c.as_slice-in-Node.ensures c.in_ok-push_parts_of-in-Node.ensures
