use Rattle.std.proofs.Common.{◌≡◌, IsTrue, sym, subst}
use Rattle.tree_terms.specs.TreeLabelLaws.{same_label-Decides}
use Rattle.tree_terms.proofs.labels.TreeLabelLabel.same.Goals as goal

pub returns : goal.returns
returns c =
    subst (λ b. (IsTrue b → c.args.self.now ≡ c.args.other.now) × (c.args.self.now ≡ c.args.other.now → IsTrue b)) (sym c.eq.ensures) (same_label-Decides c.args.self.now c.args.other.now)
