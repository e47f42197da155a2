-- Terms of what right sides make, one input after another.
use Rattle.std.proofs.Common.{◌≡◌, ℕ, zero, suc, ◌+◌, ◌-◌, ◌<◌, ◌≤◌, true, List, [], ◌∷◌, ◌++◌, length, take, drop, get_or, Some, None, unwrap_or, slice_get, refl, ap, sym, ◌∙◌, subst, arith, take_all}
use Rattle.derivation.proofs.StandsLaws.{keeps_of_take, stand_still}
use Rattle.derivation.specs.Stands.{Stands, StandAll}
use Rattle.derivation.specs.Table.{IsOverOne, term}
use Rattle.derivation.specs.declared.terms.Term.{Term}
use Rattle.descriptor_types.specs.Descriptors.{Desc}
use Rattle.descriptor_types.specs.Labels.{file, operator}
use Rattle.pr_value.proofs.TreeLaws.{list_of_trees_of}
use Rattle.pr_value.specs.Trees.{Tree, Trees, node, nil, cons, tree, list_of, trees_of}
use Rattle.rule_ast.specs.Syntax.{Operator, Rules}
use Rattle.rule_runs.proofs.MakeLaws.{GoesOn, goes-all, goes-first, goes-next, made-long, suffice-rest}
use Rattle.rule_runs.specs.Laws.{AllSuffice, Suffice}
use Rattle.rule_runs.specs.Sides as side
use Rattle.rule_runs.specs.Sides.{Side, SideLabel}
use Rattle.rule_types.proofs.AcceptedArities.{accepted-arities}
use Rattle.rule_types.proofs.AcceptedSides.{accepted-sides}
use Rattle.rule_types.specs.Conditions.{refused_by}
use Rattle.rule_trees.proofs.AcceptedFacts.{accepted-operators}
use Rattle.tree_terms.proofs.AddLaws.{stand_long, stand_none, stand_push, stands_over}
use Rattle.tree_terms.proofs.EnforcerLaws.{enforcer-one}
use Rattle.tree_terms.specs.Dressed.{all_dressed_with, dressed_with}
use Rattle.tree_terms.specs.Equality.{enforces}
use Rattle.tree_terms.specs.TermsMade.{StandForMade, StandsForMade}
use Rattle.rule_trees.specs.Arities.{HaveArities, IsOfArities}
use Rattle.tree_terms.specs.TreeLabels.{dressed_label, is_on_edge}
use Rattle.tree_terms.specs.declared.labels.TreeLabel.{TreeLabel}

abbrev pub over : Rules → ℕ → Desc → List (Tree TreeLabel) → Tree TreeLabel
over r op d ts = tree (dressed_label r (operator op d)) ts

abbrev pub nothing : Rules → Tree TreeLabel
nothing r = tree (dressed_label r (file [] [])) []

module _ (r : Rules) (streams : List ℕ) (start : List (Term TreeLabel)) where
  -- those so far stand for trees, and with what the rest makes these are what all make
  abbrev pub MadeSoFar : List Side → List Desc → ℕ → List (Term TreeLabel) → List ℕ → List Desc → Type 0
  MadeSoFar ss ds i now ns rest =
      (us : List (Tree TreeLabel)) → StandAll start streams (trees_of us) → (done : List (Tree TreeLabel)) × StandAll now ns (trees_of done) × GoesOn (over r) (nothing r) us ss ds i done rest

  pub made-none : (ss : List Side) (ds : List Desc) (ns : List ℕ) → ns ≡ [] → MadeSoFar ss ds 0 start ns ds
  made-none ss ds ns none us h = ([], subst (λ ms. StandAll start ms nil) (sym none) (stand_none start), goes-first (over r) (nothing r) us ss ds)

  pub made-next : (ss : List Side) (ds rest left : List Desc) (i : ℕ) (s : Side) (old new : List (Term TreeLabel)) (ns ms : List ℕ) (n : ℕ) → drop i ss ≡ s ∷ drop (suc i) ss → take (length start) old ≡ start → take (length old) new ≡ old
      → MadeSoFar ss ds i old ns rest → StandsForMade r streams old new s rest n left → ms ≡ ns ++ n ∷ [] → MadeSoFar ss ds (i + 1) new ms left
  made-next ss ds rest left i s old new ns ms n sides kept_before kept so_far one pushed us h =
      let there = stand_still start old (keeps_of_take start old kept_before) streams (trees_of us) h in
      let so = so_far us h in
      let done : List (Tree TreeLabel) = so.0 in
      let p : Tree TreeLabel × List Desc = dressed_with r us s rest in
      let this = one us there in
      let before = stand_still old new (keeps_of_take old new kept) ns (trees_of done) so.1 in
      let made : (p.0, left) ≡ p = sym (ap (λ (z : List Desc). (p.0, z)) this.1) in
      (done ++ p.0 ∷ [], subst (λ ks. StandAll new ks (trees_of (done ++ p.0 ∷ []))) (sym pushed) (stand_push new ns done n p.0 before this.0), goes-next (over r) (nothing r) us ss ds rest left i s done p.0 sides made so.2)

  pub made-all : (ss : List Side) (ds rest : List Desc) (i : ℕ) (now : List (Term TreeLabel)) (ns : List ℕ) → length ss ≤ i → MadeSoFar ss ds i now ns rest → StandForMade r streams start now (trees_of ss) ds ns rest
  made-all ss ds rest i now ns past so_far us h =
      let so = so_far us h in
      let all = goes-all (over r) (nothing r) us ss ds rest i so.0 past so.2 in
      (subst (λ (ts : List (Tree TreeLabel)). StandAll now ns (trees_of ts)) (ap (λ (p : List (Tree TreeLabel) × List Desc). p.0) all) so.1, sym (ap (λ (p : List (Tree TreeLabel) × List Desc). p.1) all))

  -- as many numbers as sides
  pub numbers-many : (us : List (Tree TreeLabel)) (ss : Trees SideLabel) (ds rest : List Desc) (now : List (Term TreeLabel)) (ns : List ℕ) → StandAll start streams (trees_of us) → StandForMade r streams start now ss ds ns rest → length ns ≡ length (list_of ss)
  numbers-many us ss ds rest now ns h made = stand_long now ns (all_dressed_with r us ss ds).0 (made us h).0 ∙ made-long (over r) (nothing r) us ss ds

  -- a node over its inputs
  pub made-node : (mid new : List (Term TreeLabel)) (s : Side) (op : ℕ) (ss : List Side) (d : Desc) (descs ds rest : List Desc) (l : TreeLabel) (ns ms : List ℕ) (n : ℕ) → s ≡ tree (side.operator op) ss → descs ≡ d ∷ ds → l ≡ dressed_label r (operator op d) → ms ≡ ns
      → take (length mid) new ≡ mid → slice_get new n ≡ Some (term l ms) → StandForMade r streams start mid (trees_of ss) ds ns rest → StandsForMade r streams start new s descs n rest
  made-node mid new s op ss d descs ds rest l ns ms n is split label same kept at all us h =
      let made = all us h in
      let rows = trees_of (all_dressed_with r us (trees_of ss) ds).0 in
      let row = subst (λ ks. StandAll mid ks rows) (sym same) made.0 in
      subst (λ (p : Tree TreeLabel × List Desc). Stands new n p.0 × (p.1 ≡ rest)) (sym (ap (λ x. dressed_with r us x descs) is ∙ ap (dressed_with r us (tree (side.operator op) ss)) split))
      (stands_over mid new n l (dressed_label r (operator op d)) ms rows kept at label row, made.1)

  -- a stream
  stand-at : (ns : List ℕ) (us : List (Tree TreeLabel)) (p n : ℕ) → p < length ns → n ≡ get_or ns p n → StandAll start ns (trees_of us) → Stands start n (unwrap_or (slice_get us p) (nothing r))
  unfolding Stands
  stand-at [] us p n within at h = absurd (omega (arith, within))
  stand-at (m ∷ ns) [] p n within at h = absurd h
  stand-at (m ∷ ns) (u ∷ us) zero n within at h = subst (λ k. Stands start k u) (sym at) h.0
  stand-at (m ∷ ns) (u ∷ us) (suc p) n within at h = stand-at ns us p n (omega (arith, within)) at h.1

  pub made-stream : (s : Side) (place n : ℕ) (descs : List Desc) → s ≡ tree (side.stream place) [] → place < length streams → n ≡ get_or streams place n → StandsForMade r streams start start s descs n descs
  made-stream s place n descs is within at us h =
      subst (λ (p : Tree TreeLabel × List Desc). Stands start n p.0 × (p.1 ≡ descs)) (sym (ap (λ x. dressed_with r us x descs) is)) (stand-at streams us place n within at h, refl)

-- a label of a side stands over one input where it is on an edge
pub side_over_one : (r : Rules) (s : Side) (op : ℕ) (ss : List Side) (d : Desc) (l : TreeLabel) (ns : List ℕ) → refused_by r ≡ None → s ≡ tree (side.operator op) ss → IsOfArities r s → l ≡ dressed_label r (operator op d) → length ns ≡ length (list_of (trees_of ss)) → IsOverOne is_on_edge (term l ns)
side_over_one r s op ss d l ns accepted is right label long on =
    let enforcing : enforces r op ≡ true = sym (ap is_on_edge label) ∙ on in
    let here : IsOfArities r (tree (side.operator op) ss) = subst (IsOfArities r) is right in
    let one = enforcer-one r (accepted-operators r accepted) (accepted-arities r accepted) (accepted-sides r accepted) op here.0.0 here.0.1 enforcing in
    let many = here.0.2 in
    omega (arith, long, one, many)

-- the arities of the sides from a place on are those of the one there, and of the others
pub rest-right : (r : Rules) (i : ℕ) (ss : List Side) (s : Side) → drop i ss ≡ s ∷ drop (suc i) ss → HaveArities r (trees_of (drop i ss)) → IsOfArities r s × HaveArities r (trees_of (drop (i + 1) ss))
rest-right r i ss s sides right =
    let next : suc i ≡ i + 1 = omega arith in
    subst (λ (k : ℕ). IsOfArities r s × HaveArities r (trees_of (drop k ss))) next (subst (λ (xs : List Side). HaveArities r (trees_of xs)) sides right)

-- ---- as the code goes through sides

-- what suffices for a node has a descriptor for it
enough-first : (s : Side) (op k n : ℕ) (ss : List Side) → s ≡ tree (side.operator op) ss → Suffice k n s → 0 < n
enough-first s op k n ss is enough = let e = (subst (Suffice k n) is enough).nodes in omega (arith, e)

behind-first : (ds : List Desc) (d : Desc) → take (length (d ∷ ds) - 1) ds ≡ ds
behind-first ds d = let e : length (d ∷ ds) - 1 ≡ length ds = omega arith in ap (λ n. take n ds) e ∙ take_all (length ds) ds (omega arith)

pub split-first : (s : Side) (op k : ℕ) (ss : List Side) (ds : List Desc) (d x : Desc) → s ≡ tree (side.operator op) ss → Suffice k (length ds) s → x ≡ get_or ds 0 x → d ≡ x → ds ≡ d ∷ take (length ds - 1) (drop 1 ds)
split-first s op k ss [] d x is enough at same = absurd (let e = enough-first s op k 0 ss is enough in omega (arith, e))
split-first s op k ss (e ∷ es) d x is enough at same = ap (λ y. y ∷ es) (sym (same ∙ at)) ∙ ap (λ ys. d ∷ ys) (sym (behind-first es e))

-- the trees of the streams, later
pub stand-later : {L : Type 0} (start now : List (Term L)) (ns : List ℕ) (us : List (Tree L)) → take (length start) now ≡ start → StandAll start ns (trees_of us) → StandAll now ns (trees_of us)
stand-later start now ns us kept h = stand_still start now (keeps_of_take start now kept) ns (trees_of us) h

-- what suffices for the sides behind one
pub enough-rest : (r : Rules) (streams : List ℕ) (start old new : List (Term TreeLabel)) (us : List (Tree TreeLabel)) (k i n : ℕ) (ss : List Side) (s : Side) (rest left : List Desc) → drop i ss ≡ s ∷ drop (suc i) ss → take (length start) old ≡ start → StandAll start streams (trees_of us)
    → StandsForMade r streams old new s rest n left → AllSuffice k (length rest) (trees_of (drop i ss)) → AllSuffice k (length left) (trees_of (drop (i + 1) ss))
enough-rest r streams start old new us k i n ss s rest left sides kept h one enough =
    let p : Tree TreeLabel × List Desc = dressed_with r us s rest in
    let made : (p.0, left) ≡ p = sym (ap (λ (z : List Desc). (p.0, z)) (one us (stand-later start old streams us kept h)).1) in
    suffice-rest (over r) (nothing r) us k i ss s rest left p.0 sides made enough
