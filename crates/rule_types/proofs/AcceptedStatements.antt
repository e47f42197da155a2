-- What the statements of an accepted rule set change.
use Rattle.std.proofs.Common.{◌≡◌, Bool, true, false, not, ◌&&◌, ◌||◌, None, refl, ap, sym}
use Rattle.std.specs.List.{list_any}
use Rattle.std.specs.Str.{bytes_eq}
use Rattle.rule_ast.specs.CostForms.{cost_name}
use Rattle.rule_ast.specs.Roles.{is_null}
use Rattle.rule_ast.specs.Syntax.{Rules}
use Rattle.rule_types.specs.AcceptedLaws.{AssignsPhysical, ChangesItsOwn, HasSoundNulls, changes_but, is_of_algorithm, is_right_node, is_sound_null, no_use_in, no_use_of}
use Rattle.rule_types.specs.Conditions.{refused_by}
use Rattle.rule_types.specs.Declarations.{declarations}
use Rattle.rule_types.specs.LaterConditions.{assign_target, assigns_physical, assigns_unphysical, changes_input, input_in_post, input_not_physical, null_form, passes_cost, physical_in_trule}
use Rattle.rule_types.proofs.DeclarationLaws.{each_irule, each_operator, each_trule}
use Rattle.rule_types.proofs.RefusalLaws.{nowhere-assign_target, nowhere-input_in_post, nowhere-input_not_physical, nowhere-null_form, nowhere-physical_in_trule}

pub accepted-own : (r : Rules) → refused_by r ≡ None → ChangesItsOwn r
accepted-own r accepted =
    let none : list_any assign_target (declarations r) ≡ false = nowhere-assign_target r accepted in
    record {
      inits = each_operator assign_target r none (λ o. no_use_in (changes_but (bytes_eq o.own)) o.init) (λ before o e. ap not e);
      trules = each_trule assign_target r none (λ t. no_use_of (changes_but (is_right_node t)) t.body) (λ before t e. ap not e);
      irules = each_irule assign_target r none (λ i. no_use_of (changes_but (is_of_algorithm i)) i.body) (λ before i e. ap not e);
      posts = each_irule input_in_post r (nowhere-input_in_post r accepted) (λ i. no_use_in (changes_input i.right.inputs) i.body.post) (λ before i e. ap not e);
    }

pub accepted-physical : (r : Rules) → refused_by r ≡ None → AssignsPhysical r
accepted-physical r accepted = record {
  trules = each_trule (physical_in_trule r) r (nowhere-physical_in_trule r accepted) (λ t. no_use_of (assigns_physical r.irules t.right) t.body) (λ before t e. ap not e);
  irules = each_irule (input_not_physical r) r (nowhere-input_not_physical r accepted) (λ i. no_use_of (assigns_unphysical r.irules i.right.inputs) i.body) (λ before i e. ap not e);
}

if_null : (n p : Bool) → (n && not p) ≡ false → (not n || p) ≡ true
if_null false p e = refl
if_null true true e = refl
if_null true false e = sym e

pub accepted-nulls : (r : Rules) → refused_by r ≡ None → HasSoundNulls r
accepted-nulls r accepted =
    let cost = cost_name r.properties in
    each_irule (null_form r) r (nowhere-null_form r accepted) (is_sound_null cost)
    (λ before i e. if_null (is_null i.right.alg) (passes_cost cost i.right.desc i.right.inputs i.body.post) e)
