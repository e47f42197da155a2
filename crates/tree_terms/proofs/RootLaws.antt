-- Terms look like the trees that they stand for.
use Rattle.std.proofs.Common.{◌≡◌, ℕ, List, Some, slice_get, Option, Result, Ok, Err, IfOk, option_map, ap, sym, ◌∙◌, subst}
use Rattle.std.specs.List.{AllZip}
use Rattle.derivation.specs.Stands.{Stands}
use Rattle.derivation.specs.declared.terms.Term.{Term}
use Rattle.descriptor_types.specs.Descriptors.{only}
use Rattle.descriptor_types.specs.Labels.{desc_in}
use Rattle.pr_value.specs.Trees.{Tree, node, label, inputs, list_of}
use Rattle.pr_value.specs.declared.memory.Memory.{Memory}
use Rattle.rule_ast.specs.Syntax.{Rules}
use Rattle.rule_runs.proofs.MatchLaws.{matched_alike}
use Rattle.rule_runs.specs.Laws.{LookAlike, MatchAlike}
use Rattle.rule_runs.specs.Matching.{Matched, matched}
use Rattle.rule_runs.specs.SeenMatches.{seen_matched}
use Rattle.rule_runs.specs.Sides.{Side}
use Rattle.rule_runs.specs.declared.matching.Matched as rust
use Rattle.tree_terms.proofs.StandLaws.{stand_each, term_of}
use Rattle.tree_terms.specs.Dressed.{dressed_roots}
use Rattle.rule_trees.specs.Steps.{op_in}
use Rattle.tree_terms.specs.TermRoots.{inputs_at, op_at, term_roots, whole_at}
use Rattle.tree_terms.specs.TreeLabels.{plain_label}
use Rattle.rule_trees.specs.Views.{seen}
use Rattle.tree_terms.specs.declared.labels.TreeLabel.{TreeLabel}

module _ (r : Rules) (terms : List (Term TreeLabel)) where
  same-op : (n : ℕ) (u : Tree TreeLabel) → Stands terms n u → op_at (slice_get terms n) ≡ op_in (plain_label (label u))
  same-op n (node l us) h = let t = term_of terms n l us h in ap op_at t.1 ∙ ap (λ k. op_in (plain_label k)) t.2

  same-whole : (n : ℕ) (u : Tree TreeLabel) → Stands terms n u → whole_at (slice_get terms n) ≡ desc_in (plain_label (label u))
  same-whole n (node l us) h = let t = term_of terms n l us h in ap whole_at t.1 ∙ ap (λ k. desc_in (plain_label k)) t.2

  same-inputs : (n : ℕ) (u : Tree TreeLabel) → Stands terms n u → AllZip (Stands terms) (inputs_at (slice_get terms n)) (inputs u)
  same-inputs n (node l us) h = let t = term_of terms n l us h in subst (λ ns. AllZip (Stands terms) ns (list_of us)) (sym (ap inputs_at t.1)) (stand_each terms t.0.inputs us t.3)

  pub term-alike : LookAlike (term_roots r terms) (dressed_roots r) (Stands terms)
  term-alike = record {
    op = same-op;
    whole = same-whole;
    view = λ n u h. ap (only r.properties (seen r)) (same-whole n u h);
    inputs = same-inputs;
  }

  -- what a search over the terms finds is what matches in the trees that they stand for
  pub found-alike : (p : Side) (n : ℕ) (o : Result (Option (rust.Matched ℕ)) Memory) → IfOk o (λ x. option_map (seen_matched (λ k. k)) x ≡ matched (term_roots r terms) p n)
      → IfOk o (λ x. (u : Tree TreeLabel) → Stands terms n u → MatchAlike (Stands terms) (option_map (seen_matched (λ k. k)) x) (matched (dressed_roots r) p u))
  found-alike p n (Ok x) is = λ u h.
      subst (λ (m : Option (Matched ℕ)). MatchAlike (Stands terms) m (matched (dressed_roots r) p u)) (sym is) (matched_alike (Stands terms) (term_roots r terms) (dressed_roots r) term-alike p n u h)
  found-alike p n (Err e) is = tt
