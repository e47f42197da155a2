-- The form that the type of certificates keeps: names are names, and no cost is past the cap.
use Rattle.std.specs.Prelude.{⊤, Bool, true, ◌&&◌, nat_le, List}
use Rattle.std.specs.List.{AllByRecursion, list_all}
use Rattle.pr_value.specs.Capped.{cap}
use Rattle.pr_value.specs.Symbols.{is_name}
use Rattle.bound_certificate.specs.Fields.{desc_fine}
use Rattle.bound_certificate.specs.declared.cost.CertCost.{CertCost}
use Rattle.bound_certificate.specs.declared.cost.CertCost.TheVariants as cost
use Rattle.bound_certificate.specs.declared.goal.CertGoal.{CertGoal}
use Rattle.bound_certificate.specs.declared.line.CertLine.{CertLine}
use Rattle.bound_certificate.specs.declared.line.CertReason.{CertReason}
use Rattle.bound_certificate.specs.declared.line.CertReason.TheVariants as reason
use Rattle.bound_certificate.specs.declared.node.CertNode.{CertNode}
use Rattle.bound_certificate.specs.declared.node.CertNode.TheVariants as node
use Rattle.bound_certificate.specs.declared.step.CertStep.{CertStep}
use Rattle.bound_certificate.specs.declared.step.CertStep.TheVariants as step

abbrev pub cost_formed : CertCost → Bool
cost_formed (cost.Number n) = nat_le n cap
cost_formed cost.NoPlan = true

abbrev pub node_formed : CertNode → Bool
node_formed (node.File name) = is_name name
node_formed (node.Op op set ins) = is_name op

abbrev pub reason_formed : CertReason → Bool
reason_formed (reason.Rule of rule) = is_name rule
reason_formed _ = true

abbrev pub line_formed : CertLine → Bool
line_formed l = reason_formed l.why

abbrev pub step_formed : CertStep → Bool
step_formed (step.File name) = is_name name
step_formed (step.Rule rule ins) = is_name rule

abbrev pub goal_formed : CertGoal → Bool
goal_formed g = cost_formed g.bound

-- the parts of a certificate are formed
abbrev pub parts_formed : CertCost → List CertNode → List CertLine → List CertStep
    → List (List CertNode) → List CertGoal → Bool
parts_formed verdict nodes lines plan classes goals =
    cost_formed verdict && list_all node_formed nodes && list_all line_formed lines
    && list_all step_formed plan && list_all (list_all node_formed) classes
    && list_all goal_formed goals

-- ---- what the types of the parts keep besides

abbrev pub node_fine : CertNode → Type 0
node_fine (node.File name) = ⊤
node_fine (node.Op op set ins) = desc_fine set

abbrev pub class_fine : List CertNode → Type 0
class_fine rows = AllByRecursion node_fine rows

abbrev pub goal_fine : CertGoal → Type 0
goal_fine g = desc_fine g.ask

-- each part is fine
pub record AreFine (ns : List CertNode) (cs : List (List CertNode)) (gs : List CertGoal) : Type 0 where
  pub nodes : AllByRecursion node_fine ns
  pub classes : AllByRecursion class_fine cs
  pub goals : AllByRecursion goal_fine gs
