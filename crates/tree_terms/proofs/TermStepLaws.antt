-- What a T-rule makes at a term, by what its left side matches.
use Rattle.std.proofs.Common.{◌≡◌, ℕ, zero, suc, Bool, true, false, cond, List, [], ◌∷◌, length, map, Option, Some, None, option_map, refl, ap, sym, ◌∙◌, subst, arith}
use Rattle.std.specs.Prelude.{◌&&◌, MatchOption, option_and_then, slice_get}
use Rattle.std.specs.Cmp.{first_so, second_so}
use Rattle.std.specs.Cmp.Derive.{both_true}
use Rattle.std.specs.List.{Contains, list_all}
use Rattle.action_eval.proofs.TypeLaws.{some-same}
use Rattle.catalog.specs.Contents.{Catalog}
use Rattle.derivation.specs.Stands.{Stands, StandAll}
use Rattle.derivation.specs.Terms.{GivesStep, NoStep}
use Rattle.derivation.specs.declared.terms.Term.{Term}
use Rattle.descriptor_types.proofs.FitLaws.{fits-only}
use Rattle.descriptor_types.specs.Descriptors.{Desc, Layout, fits, only}
use Rattle.descriptor_types.specs.Labels.{desc_in}
use Rattle.pr_value.specs.Trees.{Tree, label, trees_of}
use Rattle.rule_ast.specs.Descs.{stream_descs, stream_numbers}
use Rattle.rule_ast.specs.Syntax.{TRule, Rules}
use Rattle.rule_runs.proofs.WholeLaws.{left-operators, left-streams, matched-views, matched-whole}
use Rattle.rule_runs.specs.Conditions.{AreSlotsOf}
use Rattle.rule_runs.specs.Laws.{MatchAlike}
use Rattle.rule_runs.specs.Matching.{Matched, matched}
use Rattle.rule_runs.specs.SeenMatches.{seen_matched}
use Rattle.rule_runs.specs.Sides.{Side, left_side}
use Rattle.rule_runs.specs.declared.matching.Matched as rust
use Rattle.tree_terms.proofs.AddLaws.{stand_long}
use Rattle.rule_trees.proofs.FoundLaws.{length-seen}
use Rattle.rule_trees.proofs.PlaceLaws.{map-itself}
use Rattle.tree_terms.proofs.StandLaws.{stand_all}
use Rattle.tree_terms.specs.Dressed.{are_fit, dressed_roots, dressed_step, dressed_stepped, fit_rewritten}
use Rattle.rule_trees.specs.Steps.{rewritten_on}
use Rattle.tree_terms.specs.TermFits.{fits_root}
use Rattle.tree_terms.specs.TermSteps.{Rewrites, StepsBy}
use Rattle.tree_terms.specs.TreeLabels.{dressed_label, plain_label}
use Rattle.rule_trees.specs.Views.{seen}
use Rattle.tree_terms.specs.declared.labels.TreeLabel.{TreeLabel}

-- how a match of the code is seen
abbrev pub seen_terms : rust.Matched ℕ → Matched ℕ
seen_terms = seen_matched (λ n. n)

-- what a search tells of the trees that a number stands for
abbrev pub Tells : Rules → Side → List (Term TreeLabel) → ℕ → Option (rust.Matched ℕ) → Type 0
Tells r p terms node o = (u : Tree TreeLabel) → Stands terms node u → MatchAlike (Stands terms) (option_map seen_terms o) (matched (dressed_roots r) p u)

-- where it matches, each tree of the number has the same slots, and the terms stand for its streams
pub record IsMatchedAs (r : Rules) (p : Side) (terms : List (Term TreeLabel)) (f : rust.Matched ℕ) (u : Tree TreeLabel) : Type 0 where
  pub match : Matched (Tree TreeLabel)
  pub is : matched (dressed_roots r) p u ≡ Some match
  pub slots : f.slots ≡ match.slots
  pub stand : StandAll terms f.streams.items (trees_of match.streams)

as-matched : (r : Rules) (p : Side) (terms : List (Term TreeLabel)) (f : rust.Matched ℕ) (u : Tree TreeLabel) (o : Option (Matched (Tree TreeLabel))) → matched (dressed_roots r) p u ≡ o → MatchAlike (Stands terms) (Some (seen_terms f)) o → IsMatchedAs r p terms f u
as-matched r p terms f u None is alike = absurd alike
as-matched r p terms f u (Some m) is alike = record {
  match = m;
  is = is;
  slots = alike.0;
  stand = subst (λ ns. StandAll terms ns (trees_of m.streams)) (map-itself f.streams.items) (stand_all terms (map (λ n. n) f.streams.items) m.streams alike.1);
}

pub tells-some : (r : Rules) (p : Side) (terms : List (Term TreeLabel)) (node : ℕ) (o : Option (rust.Matched ℕ)) (f : rust.Matched ℕ) → Tells r p terms node o → o ≡ Some f → (u : Tree TreeLabel) → Stands terms node u → IsMatchedAs r p terms f u
tells-some r p terms node o f tells is u h =
    as-matched r p terms f u (matched (dressed_roots r) p u) refl (subst (λ (q : Option (rust.Matched ℕ)). MatchAlike (Stands terms) (option_map seen_terms q) (matched (dressed_roots r) p u)) is (tells u h))

no-match : (r : Rules) (p : Side) (terms : List (Term TreeLabel)) (o : Option (Matched (Tree TreeLabel))) → MatchAlike (Stands terms) None o → o ≡ None
no-match r p terms None alike = refl
no-match r p terms (Some m) alike = absurd alike

pub tells-none : (r : Rules) (p : Side) (terms : List (Term TreeLabel)) (node : ℕ) (o : Option (rust.Matched ℕ)) → Tells r p terms node o → o ≡ None → (u : Tree TreeLabel) → Stands terms node u → matched (dressed_roots r) p u ≡ None
tells-none r p terms node o tells is u h = no-match r p terms (matched (dressed_roots r) p u) (subst (λ (q : Option (rust.Matched ℕ)). MatchAlike (Stands terms) (option_map seen_terms q) (matched (dressed_roots r) p u)) is (tells u h))

-- the same of a rule's left side
pub found-at : (r : Rules) (p s : Side) (terms : List (Term TreeLabel)) (node : ℕ) (o : Option (rust.Matched ℕ)) (f : rust.Matched ℕ) → s ≡ p → Tells r s terms node o → o ≡ Some f → (u : Tree TreeLabel) → Stands terms node u → IsMatchedAs r p terms f u
found-at r p s terms node o f side tells is = tells-some r p terms node o f (subst (λ q. Tells r q terms node o) side tells) is

pub unfound-at : (r : Rules) (p s : Side) (terms : List (Term TreeLabel)) (node : ℕ) (o : Option (rust.Matched ℕ)) → s ≡ p → Tells r s terms node o → o ≡ None → (u : Tree TreeLabel) → Stands terms node u → matched (dressed_roots r) p u ≡ None
unfound-at r p s terms node o side tells is = tells-none r p terms node o (subst (λ q. Tells r q terms node o) side tells) is

-- ---- whether it fits

-- what is said of slots and streams
abbrev pub SaysFits : List (Term TreeLabel) → rust.Matched ℕ → Layout → Bool → Type 0
SaysFits terms f layout b = (us : List (Tree TreeLabel)) → StandAll terms f.streams.items (trees_of us) → b ≡ (list_all (fits layout) f.slots.nodes && list_all (fits_root layout) us)

pub match-fit : (r : Rules) (p : Side) (terms : List (Term TreeLabel)) (f : rust.Matched ℕ) (u : Tree TreeLabel) (layout : Layout) (b : Bool) → layout ≡ r.properties → SaysFits terms f layout b → (m : IsMatchedAs r p terms f u) → b ≡ are_fit r m.match
match-fit r p terms f u layout b laid says m =
    says m.match.streams m.stand
    ∙ (ap (λ (ps : Layout). list_all (fits ps) f.slots.nodes && list_all (fits_root ps) m.match.streams) laid
    ∙ ap (λ s. list_all (fits r.properties) s.nodes && list_all (fits_root r.properties) m.match.streams) m.slots)

pub first-fit : (b c : Bool) → (b && c) ≡ true → b ≡ true
first-fit b c e = first_so b c e

-- ---- steps

module _ (r : Rules) (c : Catalog) (t : TRule) (terms : List (Term TreeLabel)) (node : ℕ) where
  abbrev side : Side
  side = left_side r.operators t.left

  pub steps-unmatched : ((u : Tree TreeLabel) → Stands terms node u → matched (dressed_roots r) side u ≡ None) → StepsBy r c t terms node terms None
  steps-unmatched none = (λ u h. ap (option_and_then (fit_rewritten r c t)) (none u h), refl)

  module _ (f : rust.Matched ℕ) (tells : (u : Tree TreeLabel) → Stands terms node u → IsMatchedAs r side terms f u) where
    pub steps-unfit : (layout : Layout) (b : Bool) → layout ≡ r.properties → SaysFits terms f layout b → b ≡ false → StepsBy r c t terms node terms None
    steps-unfit layout b laid says unfit = (
      λ u h.
          let m = tells u h in
          let fails : are_fit r m.match ≡ false = sym (match-fit r side terms f u layout b laid says m) ∙ unfit in
          ap (option_and_then (fit_rewritten r c t)) m.is ∙ ap (λ (d : Bool). cond d (rewritten_on plain_label (dressed_label r) r c t m.match) None) fails,
      refl,
    )

    -- where it fits, what the rule makes of each tree of the number
    over : (fit : (u : Tree TreeLabel) (h : Stands terms node u) → are_fit r (tells u h).match ≡ true) (u : Tree TreeLabel) (h : Stands terms node u)
        → dressed_stepped r c t u ≡ rewritten_on plain_label (dressed_label r) r c t (record { slots = f.slots; streams = (tells u h).match.streams })
    over fit u h =
        let m = tells u h in
        ap (option_and_then (fit_rewritten r c t)) m.is
        ∙ (ap (λ (d : Bool). cond d (rewritten_on plain_label (dressed_label r) r c t m.match) None) (fit u h)
        ∙ ap (λ s. rewritten_on plain_label (dressed_label r) r c t (record { slots = s; streams = m.match.streams })) (sym m.slots))

    pub steps-rewritten : (fit : (u : Tree TreeLabel) (h : Stands terms node u) → are_fit r (tells u h).match ≡ true) (u : Tree TreeLabel) → Stands terms node u → (new : List (Term TreeLabel)) (o : Option ℕ) → Rewrites r c t f.slots f.streams.items terms new o → StepsBy r c t terms node new o
    steps-rewritten fit u h new None rewrites = (λ v k. over fit v k ∙ rewrites.0 (tells v k).match.streams, rewrites.1)
    steps-rewritten fit u h new (Some n) rewrites =
        let made = rewrites (tells u h).match.streams (tells u h).stand in
        (u, made.0, h, made.1, over fit u h ∙ made.2)

-- ---- the rule of a number

pub got-Contains : {X Y : Type 0} (f : X → Y) (xs : List X) (i : ℕ) (x : X) → slice_get xs i ≡ Some x → Contains (map f xs) (f x)
got-Contains f [] i x at = cc
got-Contains f (y ∷ ys) zero x at = (zero, omega arith, ap f (some-same at))
got-Contains f (y ∷ ys) (suc i) x at = let rest = got-Contains f ys i x at in (suc rest.0, omega (arith, rest.1), rest.2)

pub got-map : {X Y : Type 0} (f : X → Y) (xs : List X) (i : ℕ) (x : X) → slice_get xs i ≡ Some x → slice_get (map f xs) i ≡ Some (f x)
got-map f [] i x at = cc
got-map f (y ∷ ys) zero x at = ap (λ z. Some (f z)) (some-same at)
got-map f (y ∷ ys) (suc i) x at = got-map f ys i x at

by_number : (r : Rules) (c : Catalog) (k : ℕ) (t : TRule) (u : Tree TreeLabel) → slice_get r.trules k ≡ Some t → dressed_step r c k u ≡ dressed_stepped r c t u
by_number r c k t u at = ap (λ (o : Option TRule). option_and_then (λ (s : TRule). dressed_stepped r c s u) o) at

pub steps-given : (r : Rules) (c : Catalog) (k : ℕ) (t : TRule) (old new : List (Term TreeLabel)) (node : ℕ) (o : Option ℕ) → slice_get r.trules k ≡ Some t → StepsBy r c t old node new o
    → MatchOption o (NoStep (dressed_step r c) k node old × (new ≡ old)) (λ n. GivesStep (dressed_step r c) k node old n new)
steps-given r c k t old new node None at steps = (λ u h. by_number r c k t u at ∙ steps.0 u h, steps.1)
steps-given r c k t old new node (Some n) at steps = (steps.0, steps.1, steps.2, steps.3, by_number r c k t steps.0 at ∙ steps.4)

-- ---- the slots of what fits

abbrev view_of_root : Rules → Tree TreeLabel → Desc
view_of_root r u = only r.properties (seen r) (desc_in (plain_label (label u)))

views-fit : (r : Rules) (us : List (Tree TreeLabel)) → list_all (λ u. fits r.properties (desc_in (plain_label (label u)))) us ≡ true → list_all (fits r.properties) (map (view_of_root r) us) ≡ true
views-fit r [] all = refl
views-fit r (u ∷ us) all =
    both_true (fits-only r.properties (seen r) (desc_in (plain_label (label u))) (length-seen r) (first_so _ _ all)) (views-fit r us (second_so (fits r.properties (desc_in (plain_label (label u)))) _ all))

module _ (r : Rules) (t : TRule) (terms : List (Term TreeLabel)) (f : rust.Matched ℕ) (u : Tree TreeLabel) (m : IsMatchedAs r (left_side r.operators t.left) terms f u) where
  pub matched-slots : are_fit r m.match ≡ true → AreSlotsOf r t.left f.slots
  matched-slots fit =
      let p = left_side r.operators t.left in
      let ns = stream_numbers t.left in
      let whole = matched-whole (dressed_roots r) p u m.match m.is in
      let views = matched-views (dressed_roots r) p u m.match m.is in
      subst (AreSlotsOf r t.left) (sym m.slots) (record {
        nodes = whole.nodes ∙ left-operators r.operators ns t.left;
        streams = whole.views ∙ left-streams r.operators ns t.left;
        nodes_fit = first_so _ _ fit;
        streams_fit = ap (list_all (fits r.properties)) views ∙ views-fit r m.match.streams (second_so (list_all (fits r.properties) m.match.slots.nodes) _ fit);
      })

  pub matched-many : length f.streams.items ≡ length (stream_descs t.left)
  matched-many =
      let p = left_side r.operators t.left in
      stand_long terms f.streams.items m.match.streams m.stand ∙ ((matched-whole (dressed_roots r) p u m.match m.is).streams ∙ left-streams r.operators (stream_numbers t.left) t.left)
