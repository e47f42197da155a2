-- Whether the trees that numbers stand for fit, one after another.
use Rattle.std.proofs.Common.{◌≡◌, ℕ, ◌+◌, ◌<◌, Bool, true, false, List, [], ◌∷◌, length, drop, get_or, Some, refl, ap, sym, ◌∙◌, subst}
use Rattle.std.specs.Prelude.{◌&&◌, slice_get}
use Rattle.std.specs.List.{list_all}
use Rattle.derivation.specs.Stands.{Stands}
use Rattle.derivation.specs.declared.terms.Term.{Term}
use Rattle.descriptor_types.specs.Descriptors.{Layout, fits}
use Rattle.descriptor_types.specs.Labels.{desc_in}
use Rattle.pr_value.specs.Trees.{Tree}
use Rattle.rule_trees.proofs.PlaceLaws.{number_at}
use Rattle.tree_terms.proofs.StandLaws.{opened}
use Rattle.tree_terms.specs.TermFits.{SaysFit, fits_root}
use Rattle.tree_terms.specs.TreeLabels.{plain_label}
use Rattle.tree_terms.specs.declared.labels.TreeLabel.{TreeLabel}

pub root-fits : (layout : Layout) (terms : List (Term TreeLabel)) (n : ℕ) (t : Term TreeLabel) (u : Tree TreeLabel) → slice_get terms n ≡ Some t → Stands terms n u → fits layout (desc_in (plain_label t.label)) ≡ fits_root layout u
root-fits layout terms n t u at h = let o = opened terms n t u at h in sym (ap (fits_root layout) o.1)

module _ (layout : Layout) (terms : List (Term TreeLabel)) where
  -- how one root fits
  abbrev pub RootSays : Bool → ℕ → Type 0
  RootSays b n = (u : Tree TreeLabel) → Stands terms n u → b ≡ fits_root layout u

  pub fits_none : (n : ℕ) (ns : List ℕ) → RootSays false n → SaysFit layout terms false (n ∷ ns)
  unfolding Stands
  fits_none n ns one [] h = absurd h
  fits_none n ns one (u ∷ us) h = ap (λ b. b && list_all (fits_root layout) us) (one u h.0)

  pub fits_more : (b : Bool) (n : ℕ) (ns : List ℕ) → RootSays true n → SaysFit layout terms b ns → SaysFit layout terms b (n ∷ ns)
  unfolding Stands
  fits_more b n ns one rest [] h = absurd h
  fits_more b n ns one rest (u ∷ us) h = rest us h.1 ∙ ap (λ c. c && list_all (fits_root layout) us) (one u h.0)

  pub fits_nothing : SaysFit layout terms true []
  unfolding Stands
  fits_nothing [] h = refl
  fits_nothing (u ∷ us) h = absurd h

  -- what the rest says is what all say
  abbrev pub SaysRest : List ℕ → ℕ → Type 0
  SaysRest ns i = (b : Bool) → SaysFit layout terms b (drop i ns) → SaysFit layout terms b ns

  module _ (ns : List ℕ) (i n : ℕ) (within : i < length ns) (is : n ≡ get_or ns i n) where
    pub rest_none : RootSays false n → SaysRest ns i → SaysFit layout terms false ns
    rest_none one so_far = so_far false (subst (SaysFit layout terms false) (sym (number_at ns i n within is)) (fits_none n (drop (i + 1) ns) one))

    pub rest_more : RootSays true n → SaysRest ns i → SaysRest ns (i + 1)
    rest_more one so_far b rest = so_far b (subst (SaysFit layout terms b) (sym (number_at ns i n within is)) (fits_more b n (drop (i + 1) ns) one rest))

  pub rest_all : (ns : List ℕ) (i : ℕ) → drop i ns ≡ [] → SaysRest ns i → SaysFit layout terms true ns
  rest_all ns i none so_far = so_far true (subst (SaysFit layout terms true) (sym none) fits_nothing)
