-- What the toy rule gives at the number of a term.
use Rattle.std.proofs.Common.{◌≡◌, ℕ, zero, suc, ◌<◌, Bool, true, false, cond, List, length, take, Some, None, slice_get, refl, ap, sym, ◌∙◌, subst}
use Rattle.std.specs.Prelude.{◌≢◌, ◌==◌}
use Rattle.std.proofs.lemmas.Bool.Decides.{Decides-eqb}
use Rattle.pr_value.specs.Trees.{Tree, node}
use Rattle.derivation.specs.declared.terms.Term.{Term}
use Rattle.derivation.specs.Table.{term, AreEarlier}
use Rattle.derivation.specs.Stands.{Stands, StandAll}
use Rattle.derivation.specs.Terms.{NoStep, GivesStep}
use Rattle.derivation.proofs.StandsLaws.{stands_for, keeps_of_take, stand_still}
use Rattle.prairie_tests.specs.Toy.{toy_step}

pub some_is : {A : Type 0} (a b : A) → Some a ≡ Some b → a ≡ b
some_is a b e = cc

pub no_rule : (ts : List (Term ℕ)) (n rule : ℕ) → rule ≢ 0 → NoStep toy_step rule n ts
no_rule ts n zero other t stands = absurd (other refl)
no_rule ts n (suc rule) other t stands = refl

not_one : (l : ℕ) (us : _) → l ≢ 1 → toy_step 0 (node l us) ≡ None
not_one l us other = by (l == 1) refl
  where
    by : (b : Bool) → (l == 1) ≡ b → cond b (Some (node 2 us)) None ≡ None
    by true e = absurd (other ((Decides-eqb l 1).0 e))
    by false e = refl

is_one : (l : ℕ) (us : _) → l ≡ 1 → toy_step 0 (node l us) ≡ Some (node 2 us)
is_one l us is = ap (λ b. cond b (Some (node 2 us)) None) ((Decides-eqb l 1).1 is)

pub no_step : (ts : List (Term ℕ)) (n rule : ℕ) (t : Term ℕ) → slice_get ts n ≡ Some t → t.label ≢ 1 → NoStep toy_step rule n ts
unfolding Stands
no_step ts n zero t at other (node l us) stands =
    let same : stands.0 ≡ t = some_is stands.0 t (sym stands.1 ∙ at) in
    not_one l us (λ e. other (ap (λ (x : Term ℕ). x.label) (sym same) ∙ stands.2 ∙ e))
no_step ts n (suc rule) t at other u stands = refl

pub gives : (old new : List (Term ℕ)) (n m : ℕ) (t : Term ℕ) → AreEarlier old → n < length old → slice_get old n ≡ Some t → t.label ≡ 1 → take (length old) new ≡ old → slice_get new m ≡ Some (term 2 t.inputs) → GivesStep toy_step 0 n old m new
unfolding Stands
gives old new n m t earlier there at one kept made = by (stands_for old earlier n there)
  where
    by : (u : Tree ℕ) × Stands old n u → GivesStep toy_step 0 n old m new
    by (node l us, stands) =
        let same : stands.0 ≡ t = some_is stands.0 t (sym stands.1 ∙ at) in
        let row : StandAll new t.inputs us = subst (λ (x : Term ℕ). StandAll new x.inputs us) same (stand_still old new (keeps_of_take old new kept) stands.0.inputs us stands.3) in
        let is : l ≡ 1 = sym stands.2 ∙ ap (λ (x : Term ℕ). x.label) same ∙ one in
        (node l us, node 2 us, stands, (term 2 t.inputs, made, refl, row), is_one l us is)
