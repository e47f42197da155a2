-- Declared operators by name.
use Rattle.std.proofs.Common.{◌≡◌, ℕ, suc, Bool, true, false, cond, not, ◌||◌, ◌&&◌, List, [], ◌∷◌, length, Some, refl, ap, sym, ◌∙◌}
use Rattle.std.specs.Prelude.{◌==◌, slice_get}
use Rattle.std.specs.Cmp.{first_so, second_so, unsigned_Decides}
use Rattle.std.specs.Cmp.Lexicographic.{bytes_decides}
use Rattle.std.specs.Str.{bytes_eq}
use Rattle.std.proofs.lemmas.Bool.{false≢true}
use Rattle.action_eval.proofs.TypeLaws.{bytes_eq-sym}
use Rattle.pr_value.specs.Repeats.{are_distinct}
use Rattle.pr_value.specs.Symbols.{Symbol}
use Rattle.pr_value.specs.SymbolSets.{contains}
use Rattle.rule_trees.specs.Arities.{operator_named}
use Rattle.rule_ast.specs.Syntax.{Operator}
use Rattle.rule_runs.specs.Sides.{operator_at}
use Rattle.rule_types.specs.Conditions.{operator_names, takes}

contains-takes : (os : List Operator) (o : Symbol) (n : ℕ) → takes os o n ≡ true → contains (operator_names os) o ≡ true
contains-takes [] o n known = known
contains-takes (p ∷ os) o n known =
    ap (λ b. b || contains (operator_names os) o) (bytes_eq-sym o p.name)
    ∙ (elim (bytes_eq p.name o) as (λ b. (b && length p.views == n || takes os o n) ≡ true → (b || contains (operator_names os) o) ≡ true) [
      | true ↦ λ e. refl
      | false ↦ λ e. contains-takes os o n e
    ] known)

is_number : (m n : ℕ) → (m == n) ≡ true → m ≡ n
is_number m n e = (unsigned_Decides m n).0 e

-- an operator that takes so many inputs stands at its place, with as many views
pub record Stands (os : List Operator) (o : Symbol) (n : ℕ) : Type 0 where
  pub at : slice_get os (operator_at os o) ≡ Some (operator_named os o)
  pub views : length (operator_named os o).views ≡ n

first_takes : (p : Operator) (os : List Operator) (o : Symbol) (n : ℕ) → are_distinct (operator_names (p ∷ os)) ≡ true → p.name ≡ o → (length p.views == n || takes os o n) ≡ true → length p.views ≡ n
first_takes p os o n distinct same known =
    elim (length p.views == n) as (λ b. (length p.views == n) ≡ b → (b || takes os o n) ≡ true → length p.views ≡ n) [
      | true ↦ λ e k. is_number (length p.views) n e
      | false ↦ λ e k.
          let there : contains (operator_names os) p.name ≡ true = ap (λ (s : Symbol). contains (operator_names os) s) same ∙ contains-takes os o n k in
          absurd (false≢true (ap not (sym there) ∙ first_so (not (contains (operator_names os) p.name)) _ distinct))
    ] refl known

pub stands-takes : (os : List Operator) (o : Symbol) (n : ℕ) → are_distinct (operator_names os) ≡ true → takes os o n ≡ true → Stands os o n
stands-takes [] o n distinct known = absurd (false≢true known)
stands-takes (p ∷ os) o n distinct known =
    elim (bytes_eq p.name o) as (λ b. bytes_eq p.name o ≡ b → (b && length p.views == n || takes os o n) ≡ true → Stands (p ∷ os) o n) [
      | true ↦ λ e k. record {
        at = ap (λ b. slice_get (p ∷ os) (cond b 0 (suc (operator_at os o)))) e ∙ sym (ap (λ b. Some (cond b p (operator_named os o))) e);
        views = ap (λ b. length (cond b p (operator_named os o)).views) e ∙ first_takes p os o n distinct ((bytes_decides p.name o).0 e) k;
      }
      | false ↦ λ e k.
          let rest = stands-takes os o n (second_so (not (contains (operator_names os) p.name)) _ distinct) k in
          record {
            at = ap (λ b. slice_get (p ∷ os) (cond b 0 (suc (operator_at os o)))) e ∙ (rest.at ∙ sym (ap (λ b. Some (cond b p (operator_named os o))) e));
            views = ap (λ b. length (cond b p (operator_named os o)).views) e ∙ rest.views;
          }
    ] refl known
