-- What the rules that make labels without a copy give at the number of a term.
use Rattle.std.proofs.Common.{◌≡◌, ℕ, zero, suc, ◌<◌, Bool, true, false, cond, List, length, take, Option, Some, None, slice_get, refl, ap, sym, ◌∙◌, subst, arith}
use Rattle.std.specs.Prelude.{◌≢◌, ◌==◌, All}
use Rattle.std.proofs.lemmas.Bool.Decides.{Decides-eqb}
use Rattle.pr_value.specs.Trees.{Tree, node}
use Rattle.derivation.specs.declared.terms.Term.{Term}
use Rattle.derivation.specs.Table.{term, AreEarlier}
use Rattle.derivation.specs.Stands.{Stands, StandAll}
use Rattle.derivation.specs.Terms.{NoStep, GivesStep}
use Rattle.derivation.proofs.StandsLaws.{stands_for, stands_still, keeps_of_take, stand_still}
use Rattle.prairie_tests.specs.declared.fragile.Fragile.{Fragile}
use Rattle.prairie_tests.specs.Fragile.{fragile_step, labelled}

pub some_is : {A : Type 0} (a b : A) → Some a ≡ Some b → a ≡ b
some_is a b e = cc

not_one : (k : ℕ) (l : Fragile) (us : _) → l.value ≢ 1 → fragile_step k (node l us) ≡ None
not_one k l us other = by (l.value == 1) refl
  where
    by : (b : Bool) → (l.value == 1) ≡ b → cond b (Some (node (labelled 100) us)) None ≡ None
    by true e = absurd (other ((Decides-eqb l.value 1).0 e))
    by false e = refl

is_one : (k : ℕ) (l : Fragile) (us : _) → l.value ≡ 1 → fragile_step k (node l us) ≡ Some (node (labelled 100) us)
is_one k l us is = ap (λ b. cond b (Some (node (labelled 100) us)) None) ((Decides-eqb l.value 1).1 is)

pub no_step : (ts : List (Term Fragile)) (n rule : ℕ) (t : Term Fragile) → slice_get ts n ≡ Some t → t.label.value ≢ 1 → NoStep fragile_step rule n ts
unfolding Stands
no_step ts n k t at other (node l us) stands =
    let same : stands.0 ≡ t = some_is stands.0 t (sym stands.1 ∙ at) in
    not_one k l us (λ e. other (ap (λ (x : Term Fragile). x.label.value) (sym same) ∙ (ap (λ (y : Fragile). y.value) stands.2 ∙ e)))

pub gives : (k : ℕ) (old new : List (Term Fragile)) (n m : ℕ) (t : Term Fragile) → AreEarlier old → n < length old → slice_get old n ≡ Some t → t.label.value ≡ 1 → take (length old) new ≡ old → slice_get new m ≡ Some (term (labelled 100) t.inputs) → GivesStep fragile_step k n old m new
unfolding Stands
gives k old new n m t earlier there at one kept made = by (stands_for old earlier n there)
  where
    by : (u : Tree Fragile) × Stands old n u → GivesStep fragile_step k n old m new
    by (node l us, stands) =
        let same : stands.0 ≡ t = some_is stands.0 t (sym stands.1 ∙ at) in
        let row : StandAll new t.inputs us = subst (λ (x : Term Fragile). StandAll new x.inputs us) same (stand_still old new (keeps_of_take old new kept) stands.0.inputs us stands.3) in
        let is : l.value ≡ 1 = ap (λ (y : Fragile). y.value) (sym stands.2 ∙ ap (λ (x : Term Fragile). x.label) same) ∙ one in
        (node l us, node (labelled 100) us, stands, (term (labelled 100) t.inputs, made, refl, row), is_one k l us is)
