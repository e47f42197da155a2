use Rattle.std.proofs.Common.{map, ap, sym, ◌∙◌}
use Rattle.pr_value.specs.Trees.{inputs}
use Rattle.descriptor_types.specs.Labels.{seen_tree}
use Rattle.descriptor_types.specs.declared.tree.Tree as rust
use Rattle.descriptor_types.proofs.SeenLaws.{inputs-seen_node}
use Rattle.descriptor_types.proofs.tree.Tree.inputs.Goals as goal

pub returns-in-Node : goal.returns-in-Node
returns-in-Node c =
    ap (map seen_tree) c.as_slice.ensures
    ∙ sym (inputs-seen_node c.in-Node.op c.in-Node.desc c.in-Node.inputs)
    ∙ ap (λ (t : rust.Tree). inputs (seen_tree t)) (sym c.in-Node.is)
