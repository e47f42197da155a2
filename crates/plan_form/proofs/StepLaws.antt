-- The trees that an I-rule's streams stand for, and how many of them it asks something.
use Rattle.std.proofs.Common.{◌≡◌, ℕ, zero, suc, Bool, true, List, [], ◌∷◌, length, map, Option, Some, None, option_map, unwrap_or, ap, sym, ◌∙◌}
use Rattle.std.specs.Prelude.{slice_get, option_and_then}
use Rattle.std.specs.Cmp.{first_so, second_so}
use Rattle.std.specs.List.{list_all}
use Rattle.std.proofs.lemmas.List.{length-map}
use Rattle.std.proofs.lemmas.Option.{same_Some}
use Rattle.pr_value.proofs.Shelf.{option_and_then-some, option_map-some}
use Rattle.pr_value.specs.Trees.{Tree, inputs}
use Rattle.catalog.specs.Contents.{Catalog}
use Rattle.descriptor_types.specs.Labels.{Label}
use Rattle.rule_ast.specs.Descs.{names_of, stream_numbers}
use Rattle.rule_ast.specs.Spelled.{spells, spells_irule, spells_left}
use Rattle.rule_ast.specs.Syntax.{IRule, Rules}
use Rattle.rule_ast.specs.declared.sides.ImplIn.{ImplIn}
use Rattle.rule_types.proofs.AcceptedSides.{accepted-sides}
use Rattle.rule_types.specs.AcceptedLaws.{is_flat, is_sound_irule}
use Rattle.rule_types.specs.Conditions.{refused_by, same_numbers}
use Rattle.action_eval.specs.Cost.{IStep}
use Rattle.rule_trees.specs.Steps.{i_step, irule_match}
use Rattle.rule_trees.specs.Views.{physical}
use Rattle.rule_runs.specs.Matching.{Matched}
use Rattle.rule_runs.specs.Runs.{env_over, implemented, irule_run, irule_scope, tested}
use Rattle.plan_form.proofs.SideLaws.{matched-streams, same_numbers-long, streams-long}
use Rattle.plan_form.specs.Plans.{matched_streams}

all-at : {X : Type 0} (p : X → Bool) (xs : List X) (i : ℕ) (x : X) → list_all p xs ≡ true → slice_get xs i ≡ Some x → p x ≡ true
all-at p [] i x all at = cc
all-at p (y ∷ xs) zero x all at = ap p (sym (same_Some y x at)) ∙ first_so _ _ all
all-at p (y ∷ xs) (suc i) x all at = all-at p xs i x (second_so _ _ all) at

-- a rule that applies, and what its left side matched
pub record IsStep (r : Rules) (c : Catalog) (n : ℕ) (t : Tree Label) (s : IStep) : Type 0 where
  pub rule : IRule
  pub found : Matched (Tree Label)
  pub at : slice_get r.irules n ≡ Some rule
  pub matches : irule_match r rule t ≡ Some found
  pub asked : length s.asked ≡ length rule.right.inputs

pub step-IsStep : (r : Rules) (c : Catalog) (n : ℕ) (t : Tree Label) (s : IStep) → i_step r c n t ≡ Some s → IsStep r c n t s
step-IsStep r c n t s e =
    let one = option_and_then-some (λ (i : IRule). option_and_then (λ (m : Matched (Tree Label)). irule_run r (physical r) c i m.slots) (irule_match r i t)) (slice_get r.irules n) s e in
    let i : IRule = one.0 in
    let two = option_and_then-some (λ (m : Matched (Tree Label)). irule_run r (physical r) c i m.slots) (irule_match r i t) s one.2 in
    let m : Matched (Tree Label) = two.0 in
    let three = option_map-some (implemented r (physical r) c i) (tested c i.body (env_over r (irule_scope i m.slots))) s two.2 in
    record {
      rule = i;
      found = m;
      at = one.1;
      matches = two.1;
      asked = ap (λ (k : IStep). length k.asked) (sym three.2) ∙ (length-map (names_of i.right.inputs) _ ∙ length-map i.right.inputs _);
    }

-- a rule of an accepted rule set that the grammar spells
record IsFlat (i : IRule) : Type 0 where
  spelled : spells_left i.left ≡ true
  flat : is_flat i.left ≡ true
  numbers : same_numbers (map (λ (x : ImplIn). x.number) i.right.inputs) (stream_numbers i.left) ≡ true

irule-IsFlat : (r : Rules) (n : ℕ) (i : IRule) → spells r ≡ true → refused_by r ≡ None → slice_get r.irules n ≡ Some i → IsFlat i
irule-IsFlat r n i spelled accepted at =
    let rules : list_all spells_irule r.irules ≡ true = second_so _ _ spelled in
    let text : spells_irule i ≡ true = all-at spells_irule r.irules n i rules at in
    let sound : is_sound_irule i ≡ true = all-at is_sound_irule r.irules n i (accepted-sides r accepted).irules at in
    record {
      spelled = second_so _ _ (first_so _ _ (first_so _ _ text));
      flat = first_so _ _ (first_so _ _ sound);
      numbers = second_so _ _ sound;
    }

-- the streams stand for the inputs
pub streams-inputs : (r : Rules) (c : Catalog) (n : ℕ) (t : Tree Label) (s : IStep) → spells r ≡ true → refused_by r ≡ None → i_step r c n t ≡ Some s → matched_streams r n t ≡ inputs t
streams-inputs r c n t s spelled accepted e =
    let step = step-IsStep r c n t s e in
    let flat = irule-IsFlat r n step.rule spelled accepted step.at in
    ap (λ (o : Option IRule). unwrap_or (option_and_then (λ (i : IRule). option_map (λ (m : Matched (Tree Label)). m.streams) (irule_match r i t)) o) []) step.at ∙ (ap (λ (o : Option (Matched (Tree Label))). unwrap_or (option_map (λ (m : Matched (Tree Label)). m.streams) o) []) step.matches ∙ matched-streams r step.rule.left t step.found flat.spelled flat.flat step.matches)

-- something is asked of each
pub asked-long : (r : Rules) (c : Catalog) (n : ℕ) (t : Tree Label) (s : IStep) → spells r ≡ true → refused_by r ≡ None → i_step r c n t ≡ Some s → length s.asked ≡ length (inputs t)
asked-long r c n t s spelled accepted e =
    let step = step-IsStep r c n t s e in
    let flat = irule-IsFlat r n step.rule spelled accepted step.at in
    step.asked ∙ (same_numbers-long (λ (x : ImplIn). x.number) step.rule.right.inputs (stream_numbers step.rule.left) flat.numbers ∙ streams-long r step.rule.left t step.found flat.spelled flat.flat step.matches)
