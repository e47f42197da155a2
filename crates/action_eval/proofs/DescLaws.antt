-- Descriptors by their names and places.
use Rattle.std.proofs.Common.{◌≡◌, ℕ, zero, suc, ◌<◌, true, false, cond, List, [], ◌∷◌, ◌++◌, length, take, get_or, map, Some, None, refl, ap, sym, ◌∙◌, subst, arith}
use Rattle.std.specs.Prelude.{option_map, slice_set, ◌||◌}
use Rattle.std.specs.Str.{bytes_eq}
use Rattle.pr_value.specs.Symbols.{Symbol}
use Rattle.pr_value.specs.SymbolSets.{contains}
use Rattle.descriptor_types.specs.Descriptors.{Desc}
use Rattle.action_eval.specs.Environments.{bound_desc}
use Rattle.action_eval.specs.Meaning.{desc_in, with_desc_in}
use Rattle.action_eval.specs.Names.{desc_place}
use Rattle.action_eval.proofs.TypeLaws.{some-same, bytes_eq-sym}
use Rattle.pr_value.proofs.Shelf.{option_map-none, option_map-some}

abbrev Descs : Type 0
Descs = List (Symbol × Desc)

pub place-found : (ds : Descs) (name : Symbol) (i : ℕ) (d : Symbol × Desc) → desc_place (take i ds) name ≡ None → i < length ds → bytes_eq (get_or ds i d).0 name ≡ true → desc_place ds name ≡ Some i
place-found [] name i d none within is = absurd (omega (arith, within))
place-found (e ∷ ds) name zero d none within is = ap (λ b. cond b (Some 0) (option_map suc (desc_place ds name))) is
place-found (e ∷ ds) name (suc i) d none within is =
    elim (bytes_eq e.0 name) as (λ b. cond b (Some 0) (option_map suc (desc_place (take i ds) name)) ≡ None → cond b (Some 0) (option_map suc (desc_place ds name)) ≡ Some (suc i)) [
      | true ↦ λ n. cc
      | false ↦ λ n. ap (λ o. option_map suc o) (place-found ds name i d (option_map-none suc (desc_place (take i ds) name) n) (omega (arith, within)) is)
    ] none

pub place-passed : (ds : Descs) (name : Symbol) (i : ℕ) (d : Symbol × Desc) → desc_place (take i ds) name ≡ None → i < length ds → bytes_eq (get_or ds i d).0 name ≡ false → desc_place (take (suc i) ds) name ≡ None
place-passed [] name i d none within is = absurd (omega (arith, within))
place-passed (e ∷ ds) name zero d none within is = ap (λ b. cond b (Some 0) (option_map suc None)) is
place-passed (e ∷ ds) name (suc i) d none within is =
    elim (bytes_eq e.0 name) as (λ b. cond b (Some 0) (option_map suc (desc_place (take i ds) name)) ≡ None → cond b (Some 0) (option_map suc (desc_place (take (suc i) ds) name)) ≡ None) [
      | true ↦ λ n. cc
      | false ↦ λ n. ap (λ o. option_map suc o) (place-passed ds name i d (option_map-none suc (desc_place (take i ds) name) n) (omega (arith, within)) is)
    ] none

-- ---- at the place of a name

-- what stands there is the descriptor, and writes to it are those of the definitions
pub record AtPlace (ds : Descs) (name : Symbol) (i : ℕ) : Type 0 where
  pub within : i < length ds
  pub known : contains (map (λ d. d.0) ds) name ≡ true
  pub value : (d : Symbol × Desc) → (get_or ds i d).1 ≡ desc_in ds name
  pub bound : (e : Desc) (d : Symbol × Desc) → bound_desc name e ds ≡ slice_set ds i ((get_or ds i d).0, e)
  pub written : (e : Desc) (d : Symbol × Desc) → with_desc_in ds name e ≡ slice_set ds i ((get_or ds i d).0, e)

pub at_place : (ds : Descs) (name : Symbol) (i : ℕ) → desc_place ds name ≡ Some i → AtPlace ds name i
at_place [] name i is = cc
at_place (d ∷ ds) name i is =
    elim (bytes_eq d.0 name) as (λ b. bytes_eq d.0 name ≡ b → cond b (Some 0) (option_map suc (desc_place ds name)) ≡ Some i → AtPlace (d ∷ ds) name i) [
      | true ↦ λ e s. subst (λ (k : ℕ). AtPlace (d ∷ ds) name k) (some-same s) (first d ds name e)
      | false ↦ λ e s.
          let m = option_map-some suc (desc_place ds name) i s in
          subst (λ (k : ℕ). AtPlace (d ∷ ds) name k) m.2 (behind d ds name m.0 e (at_place ds name m.0 m.1))
    ] refl is where
      first : (d : Symbol × Desc) (ds : Descs) (name : Symbol) → bytes_eq d.0 name ≡ true → AtPlace (d ∷ ds) name 0
      first d ds name e =
          record {
            within = omega arith;
            known = ap (λ b. b || contains (map (λ d. d.0) ds) name) (bytes_eq-sym name d.0 ∙ e);
            value = λ x. sym (ap (λ b. cond b d.1 (desc_in ds name)) e);
            bound = λ w x. ap (λ b. cond b ((d.0, w) ∷ ds) (d ∷ bound_desc name w ds)) e;
            written = λ w x. ap (λ b. cond b ((d.0, w) ∷ ds) (d ∷ with_desc_in ds name w)) e;
          }

      behind : (d : Symbol × Desc) (ds : Descs) (name : Symbol) (k : ℕ) → bytes_eq d.0 name ≡ false → AtPlace ds name k → AtPlace (d ∷ ds) name (suc k)
      behind d ds name k e at =
          record {
            within = omega (arith, at.within);
            known = ap (λ b. b || contains (map (λ d. d.0) ds) name) (bytes_eq-sym name d.0 ∙ e) ∙ at.known;
            value = λ x. at.value x ∙ sym (ap (λ b. cond b d.1 (desc_in ds name)) e);
            bound = λ w x. ap (λ b. cond b ((d.0, w) ∷ ds) (d ∷ bound_desc name w ds)) e ∙ ap (λ (es : Descs). d ∷ es) (at.bound w x);
            written = λ w x. ap (λ b. cond b ((d.0, w) ∷ ds) (d ∷ with_desc_in ds name w)) e ∙ ap (λ (es : Descs). d ∷ es) (at.written w x);
          }

-- no descriptor has the name
pub record Nowhere (ds : Descs) (name : Symbol) : Type 0 where
  pub unknown : contains (map (λ d. d.0) ds) name ≡ false
  pub value : desc_in ds name ≡ []
  pub bound : (e : Desc) → bound_desc name e ds ≡ ds ++ (name, e) ∷ []
  pub written : (e : Desc) → with_desc_in ds name e ≡ ds

pub nowhere : (ds : Descs) (name : Symbol) → desc_place ds name ≡ None → Nowhere ds name
nowhere [] name is = record { unknown = refl; value = refl; bound = λ e. refl; written = λ e. refl }
nowhere (d ∷ ds) name is =
    elim (bytes_eq d.0 name) as (λ b. bytes_eq d.0 name ≡ b → cond b (Some 0) (option_map suc (desc_place ds name)) ≡ None → Nowhere (d ∷ ds) name) [
      | true ↦ λ e s. cc
      | false ↦ λ e s. behind d ds name e (nowhere ds name (option_map-none suc (desc_place ds name) s))
    ] refl is where
      behind : (d : Symbol × Desc) (ds : Descs) (name : Symbol) → bytes_eq d.0 name ≡ false → Nowhere ds name → Nowhere (d ∷ ds) name
      behind d ds name e at =
          record {
            unknown = ap (λ b. b || contains (map (λ d. d.0) ds) name) (bytes_eq-sym name d.0 ∙ e) ∙ at.unknown;
            value = ap (λ b. cond b d.1 (desc_in ds name)) e ∙ at.value;
            bound = λ w. ap (λ b. cond b ((d.0, w) ∷ ds) (d ∷ bound_desc name w ds)) e ∙ ap (λ (es : Descs). d ∷ es) (at.bound w);
            written = λ w. ap (λ b. cond b ((d.0, w) ∷ ds) (d ∷ with_desc_in ds name w)) e ∙ ap (λ (es : Descs). d ∷ es) (at.written w);
          }

-- ---- as the code meets them

pub placed : (ds slice : Descs) (name : Symbol) (i : ℕ) → slice ≡ ds → Some i ≡ desc_place slice name → AtPlace ds name i
placed ds slice name i same is = at_place ds name i (ap (λ (es : Descs). desc_place es name) (sym same) ∙ sym is)

pub missing : (ds slice : Descs) (name : Symbol) → slice ≡ ds → None ≡ desc_place slice name → Nowhere ds name
missing ds slice name same is = nowhere ds name (ap (λ (es : Descs). desc_place es name) (sym same) ∙ sym is)
