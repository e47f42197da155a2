-- Descriptors where some have other costs.
use Rattle.std.proofs.Common.{◌≡◌, ℕ, suc, Bool, true, false, ◌||◌, List, [], ◌∷◌, length, map, slice_index, Some, refl, sym, ap, ◌∙◌, subst, arith}
use Rattle.std.specs.Prelude.{if◌then◌else◌}
use Rattle.std.specs.Cmp.{first_so, second_so}
use Rattle.std.specs.Cmp.Lexicographic.{bytes_decides}
use Rattle.std.specs.List.{list_all}
use Rattle.std.specs.Str.{bytes_eq}
use Rattle.std.proofs.lemmas.Bool.{false≢true, not-true}
use Rattle.pr_value.specs.Symbols.{Symbol}
use Rattle.pr_value.specs.SymbolSets.{contains}
use Rattle.pr_value.specs.declared.kind.Kind.{Kind}
use Rattle.pr_value.specs.declared.value.Value.{Value}
use Rattle.pr_value.specs.declared.value.Value.TheVariants as value
use Rattle.descriptor_types.specs.Descriptors.{Desc, Layout, value_of, with_value, fits}
use Rattle.pr_value.specs.declared.property.Property.{Property}
use Rattle.rule_ast.specs.Typing.{property_kind}
use Rattle.action_eval.specs.Meaning.{desc_in, with_desc_in}
use Rattle.pr_value.specs.Repeats.{are_distinct}
use Rattle.action_eval.specs.Forms.{place, with_cost, descs_with_costs}
use Rattle.action_eval.proofs.PlainLaws.{SameBut, or_first, or_second}

-- equal symbols pass the test, and so both ways round
pub same_symbol : (s t : Symbol) → bytes_eq s t ≡ true → s ≡ t
same_symbol s t e = (bytes_decides s t).0 e

pub bytes_eq-itself : (s : Symbol) → bytes_eq s s ≡ true
bytes_eq-itself s = (bytes_decides s s).1 refl

pub bytes_eq-turned : (s t : Symbol) (b : Bool) → bytes_eq s t ≡ b → bytes_eq t s ≡ b
bytes_eq-turned s t true e = (bytes_decides t s).1 (sym (same_symbol s t e))
bytes_eq-turned s t false e =
    elim (bytes_eq t s) as (λ b. bytes_eq t s ≡ b → b ≡ false) [
      | true ↦ λ f. absurd (false≢true (sym e ∙ (bytes_decides s t).1 (sym (same_symbol t s f))))
      | false ↦ λ f. refl
    ] refl

-- ---- one descriptor

pub value_of-other : (layout : Layout) (cost p : Symbol) (w : Value) (x : Desc) → bytes_eq p cost ≡ false → value_of layout p (with_value layout cost w x) ≡ value_of layout p x
value_of-other [] cost p w x other = refl
value_of-other (q ∷ layout) cost p w [] other = refl
value_of-other (q ∷ layout) cost p w (v ∷ x) other =
    elim (bytes_eq q.name cost) as (λ b. bytes_eq q.name cost ≡ b → value_of (q ∷ layout) p (if b then w ∷ x else v ∷ with_value layout cost w x) ≡ value_of (q ∷ layout) p (v ∷ x)) [
      | true ↦ λ is.
          let past : bytes_eq q.name p ≡ false = subst (λ s. bytes_eq s p ≡ false) (sym (same_symbol q.name cost is)) (bytes_eq-turned p cost false other) in
          ap (λ b. if b then w else value_of layout p x) past ∙ sym (ap (λ b. if b then v else value_of layout p x) past)
      | false ↦ λ is. ap (λ y. if bytes_eq q.name p then v else y) (value_of-other layout cost p w x other)
    ] refl

-- what is set there is read there
abbrev pub Settable : Layout → Symbol → Desc → Type 0
Settable layout cost x = (w : Value) → value_of layout cost (with_value layout cost w x) ≡ w

pub settable : (ps : List Property) (cost : Symbol) (x : Desc) (k : Kind) → property_kind ps cost ≡ Some k → fits ps x ≡ true → Settable ps cost x
settable [] cost x k there fit w = cc
settable (p ∷ ps) cost [] k there fit w = absurd (false≢true fit)
settable (p ∷ ps) cost (v ∷ x) k there fit w =
    elim (bytes_eq p.name cost) as (λ b. bytes_eq p.name cost ≡ b → (if b then Some p.kind else property_kind ps cost) ≡ Some k → value_of ((p ∷ ps)) cost (if b then w ∷ x else v ∷ with_value ps cost w x) ≡ w) [
      | true ↦ λ is there. ap (λ b. if b then w else value_of ps cost x) is
      | false ↦ λ is there.
          ap (λ b. if b then v else value_of ps cost (with_value ps cost w x)) is ∙ settable ps cost x k there (second_so _ _ fit) w
    ] refl there

-- ---- the descriptors of some names

abbrev pub desc_names : List (Symbol × Desc) → List Symbol
desc_names = map (λ d. d.0)

pub desc_names-with_desc_in : (descs : List (Symbol × Desc)) (d : Symbol) (x : Desc) → desc_names (with_desc_in descs d x) ≡ desc_names descs
desc_names-with_desc_in [] d x = refl
desc_names-with_desc_in (h ∷ descs) d x =
    elim (bytes_eq h.0 d) as (λ b. desc_names (if b then (h.0, x) ∷ descs else h ∷ with_desc_in descs d x) ≡ h.0 ∷ desc_names descs) [
      | true ↦ refl
      | false ↦ ap (λ ns. h.0 ∷ ns) (desc_names-with_desc_in descs d x)
    ]

pub desc_in-set : (descs : List (Symbol × Desc)) (d : Symbol) (x : Desc) → contains (desc_names descs) d ≡ true → desc_in (with_desc_in descs d x) d ≡ x
desc_in-set [] d x there = absurd (false≢true there)
desc_in-set (h ∷ descs) d x there =
    elim (bytes_eq h.0 d) as (λ b. bytes_eq h.0 d ≡ b → desc_in (if b then (h.0, x) ∷ descs else h ∷ with_desc_in descs d x) d ≡ x) [
      | true ↦ λ is. ap (λ b. if b then x else desc_in descs d) is
      | false ↦ λ is.
          let behind : contains (desc_names descs) d ≡ true = subst (λ b. (b || contains (desc_names descs) d) ≡ true) (bytes_eq-turned h.0 d false is) there in
          ap (λ b. if b then h.1 else desc_in (with_desc_in descs d x) d) is ∙ desc_in-set descs d x behind
    ] refl

pub desc_in-other : (descs : List (Symbol × Desc)) (d e : Symbol) (x : Desc) → bytes_eq d e ≡ false → desc_in (with_desc_in descs d x) e ≡ desc_in descs e
desc_in-other [] d e x other = refl
desc_in-other (h ∷ descs) d e x other =
    elim (bytes_eq h.0 d) as (λ b. bytes_eq h.0 d ≡ b → desc_in (if b then (h.0, x) ∷ descs else h ∷ with_desc_in descs d x) e ≡ desc_in (h ∷ descs) e) [
      | true ↦ λ is.
          let past : bytes_eq h.0 e ≡ false = subst (λ s. bytes_eq s e ≡ false) (sym (same_symbol h.0 d is)) other in
          ap (λ b. if b then x else desc_in descs e) past ∙ sym (ap (λ b. if b then h.1 else desc_in descs e) past)
      | false ↦ λ is. ap (λ y. if bytes_eq h.0 e then h.1 else y) (desc_in-other descs d e x other)
    ] refl

-- what each descriptor passes
pub desc_in-passes : (test : Desc → Bool) (descs : List (Symbol × Desc)) (d : Symbol) → list_all (λ h. test h.1) descs ≡ true → contains (desc_names descs) d ≡ true → test (desc_in descs d) ≡ true
desc_in-passes test [] d all there = absurd (false≢true there)
desc_in-passes test (h ∷ descs) d all there =
    elim (bytes_eq h.0 d) as (λ b. bytes_eq h.0 d ≡ b → test (if b then h.1 else desc_in descs d) ≡ true) [
      | true ↦ λ is. first_so _ _ all
      | false ↦ λ is.
          let behind : contains (desc_names descs) d ≡ true = subst (λ b. (b || contains (desc_names descs) d) ≡ true) (bytes_eq-turned h.0 d false is) there in
          desc_in-passes test descs d (second_so _ _ all) behind
    ] refl

-- ---- one cost

module _ (layout : Layout) (cost : Symbol) where
  same_but_one : (descs : List (Symbol × Desc)) (d : Symbol) (w : Value) → SameBut layout cost (with_desc_in descs d (with_value layout cost w (desc_in descs d))) descs
  same_but_one [] d w e p other = refl
  same_but_one (h ∷ descs) d w e p other =
      elim (bytes_eq h.0 d) as (λ b. value_of layout p (desc_in (if b then (h.0, with_value layout cost w (if b then h.1 else desc_in descs d)) ∷ descs else h ∷ with_desc_in descs d (with_value layout cost w (if b then h.1 else desc_in descs d))) e) ≡ value_of layout p (desc_in (h ∷ descs) e)) [
        | true ↦ elim (bytes_eq h.0 e) as (λ b. value_of layout p (if b then with_value layout cost w h.1 else desc_in descs e) ≡ value_of layout p (if b then h.1 else desc_in descs e)) [
          | true ↦ value_of-other layout cost p w h.1 other
          | false ↦ refl
        ]
        | false ↦ elim (bytes_eq h.0 e) as (λ b. value_of layout p (if b then h.1 else desc_in (with_desc_in descs d (with_value layout cost w (desc_in descs d))) e) ≡ value_of layout p (if b then h.1 else desc_in descs e)) [
          | true ↦ refl
          | false ↦ same_but_one descs d w e p other
        ]
      ]

  -- all other properties stay
  pub same_but_costs : (names : List Symbol) (costs : List ℕ) (descs : List (Symbol × Desc)) → SameBut layout cost (descs_with_costs layout cost names costs descs) descs
  same_but_costs [] costs descs e p other = refl
  same_but_costs (d ∷ names) [] descs e p other = refl
  same_but_costs (d ∷ names) (n ∷ costs) descs e p other =
      same_but_costs names costs (with_cost layout cost d n descs) e p other ∙ same_but_one descs d (value.Num n) e p other

  -- and all other descriptors
  desc_in-costs : (names : List Symbol) (costs : List ℕ) (descs : List (Symbol × Desc)) (e : Symbol) → contains names e ≡ false → desc_in (descs_with_costs layout cost names costs descs) e ≡ desc_in descs e
  desc_in-costs [] costs descs e other = refl
  desc_in-costs (d ∷ names) [] descs e other = refl
  desc_in-costs (d ∷ names) (n ∷ costs) descs e other =
      desc_in-costs names costs (with_cost layout cost d n descs) e (or_second _ _ other) ∙ desc_in-other descs d e _ (bytes_eq-turned e d false (or_first _ _ other))

  -- a descriptor of these names has the cost at its place
  pub cost_at_place : (names : List Symbol) (costs : List ℕ) (descs : List (Symbol × Desc)) (e : Symbol) → are_distinct names ≡ true → length costs ≡ length names → contains names e ≡ true
      → contains (desc_names descs) e ≡ true → Settable layout cost (desc_in descs e) → value_of layout cost (desc_in (descs_with_costs layout cost names costs descs) e) ≡ value.Num (slice_index costs (place names e))
  cost_at_place [] costs descs e distinct long one there set = absurd (false≢true one)
  cost_at_place (d ∷ names) [] descs e distinct long one there set = absurd (omega (arith, long))
  cost_at_place (d ∷ names) (n ∷ costs) descs e distinct long one there set =
      elim (bytes_eq d e) as (λ b. bytes_eq d e ≡ b
      → value_of layout cost (desc_in (descs_with_costs layout cost names costs (with_cost layout cost d n descs)) e) ≡ value.Num (slice_index (n ∷ costs) (if b then 0 else suc (place names e)))) [
        | true ↦ λ is. subst (λ s. value_of layout cost (desc_in (descs_with_costs layout cost names costs (with_cost layout cost s n descs)) e) ≡ value.Num n) (sym (same_symbol d e is)) (here is)
        | false ↦ λ is.
            let kept : desc_in (with_cost layout cost d n descs) e ≡ desc_in descs e = desc_in-other descs d e _ is in
            let more : contains names e ≡ true = subst (λ b. (b || contains names e) ≡ true) (bytes_eq-turned d e false is) one in
            cost_at_place names costs (with_cost layout cost d n descs) e (second_so _ _ distinct) (omega (arith, long)) more
            (subst (λ ns. contains ns e ≡ true) (sym (desc_names-with_desc_in descs d _)) there) (subst (Settable layout cost) (sym kept) set)
      ] refl where
        here : bytes_eq d e ≡ true → value_of layout cost (desc_in (descs_with_costs layout cost names costs (with_cost layout cost e n descs)) e) ≡ value.Num n
        here is =
            let no_more : contains names e ≡ false = not-true _ (first_so _ _ (subst (λ s. are_distinct (s ∷ names) ≡ true) (same_symbol d e is) distinct)) in
            ap (value_of layout cost) (desc_in-costs names costs (with_cost layout cost e n descs) e no_more ∙ desc_in-set descs e _ there) ∙ set (value.Num n)
