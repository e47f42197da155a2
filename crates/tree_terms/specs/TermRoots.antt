-- Terms as a matcher sees them, by their numbers.
use Rattle.std.specs.Prelude.{ℕ, List, [], Option, Some, None, slice_get}
use Rattle.derivation.specs.declared.terms.Term.{Term}
use Rattle.descriptor_types.specs.Descriptors.{Desc, only}
use Rattle.descriptor_types.specs.Labels.{desc_in}
use Rattle.rule_ast.specs.Syntax.{Rules}
use Rattle.rule_runs.specs.Matching.{Rooted}
use Rattle.rule_trees.specs.Steps.{op_in}
use Rattle.tree_terms.specs.TreeLabels.{plain_label}
use Rattle.rule_trees.specs.Views.{seen}
use Rattle.tree_terms.specs.declared.labels.TreeLabel.{TreeLabel}

-- what stands at a number, where a term does
abbrev pub op_at : Option (Term TreeLabel) → Option ℕ
op_at None = None
op_at (Some t) = op_in (plain_label t.label)

abbrev pub whole_at : Option (Term TreeLabel) → Desc
whole_at None = []
whole_at (Some t) = desc_in (plain_label t.label)

abbrev pub inputs_at : Option (Term TreeLabel) → List ℕ
inputs_at None = []
inputs_at (Some t) = t.inputs

abbrev pub term_roots : Rules → List (Term TreeLabel) → Rooted ℕ
term_roots r terms = record {
  op = λ n. op_at (slice_get terms n);
  whole = λ n. whole_at (slice_get terms n);
  view = λ n. only r.properties (seen r) (whole_at (slice_get terms n));
  inputs = λ n. inputs_at (slice_get terms n);
}
