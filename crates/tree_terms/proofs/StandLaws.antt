-- What numbers of terms stand for.
use Rattle.std.proofs.Common.{◌≡◌, ℕ, List, [], ◌∷◌, Some, None, slice_get, ap, sym, ◌∙◌, subst}
use Rattle.std.specs.List.{AllZip}
use Rattle.action_eval.proofs.TypeLaws.{some-same}
use Rattle.derivation.specs.Stands.{Stands, StandAll}
use Rattle.derivation.specs.declared.terms.Term.{Term}
use Rattle.pr_value.specs.Trees.{Tree, Trees, node, nil, cons, list_of, trees_of}

-- the tree of a term
pub opened : {L : Type 0} (terms : List (Term L)) (n : ℕ) (t : Term L) (u : Tree L) → slice_get terms n ≡ Some t → Stands terms n u → (us : Trees L) × (u ≡ node t.label us) × StandAll terms t.inputs us
unfolding Stands
opened {L} terms n t (node l us) at h =
    let same : h.0 ≡ t = some-same (sym h.1 ∙ at) in
    let label : l ≡ t.label = sym h.2 ∙ ap (λ (x : Term L). x.label) same in
    (us, ap (λ k. node k us) label, subst (λ (x : Term L). StandAll terms x.inputs us) same h.3)

-- the term of a number that stands for a tree
pub term_of : {L : Type 0} (terms : List (Term L)) (n : ℕ) (l : L) (us : Trees L) → Stands terms n (node l us) → (t : Term L) × (slice_get terms n ≡ Some t) × (t.label ≡ l) × StandAll terms t.inputs us
unfolding Stands
term_of terms n l us h = h

-- nothing stands where no term is
pub not_there : {L : Type 0} (terms : List (Term L)) (n : ℕ) (u : Tree L) → slice_get terms n ≡ None → Stands terms n u → ⊥
unfolding Stands
not_there terms n (node l us) none h = let some : Some h.0 ≡ None = sym h.1 ∙ none in cc

-- one by one
pub stand_each : {L : Type 0} (terms : List (Term L)) (ns : List ℕ) (us : Trees L) → StandAll terms ns us → AllZip (Stands terms) ns (list_of us)
unfolding Stands
stand_each terms [] nil h = tt
stand_each terms [] (cons u us) h = absurd h
stand_each terms (n ∷ ns) nil h = absurd h
stand_each terms (n ∷ ns) (cons u us) h = (h.0, stand_each terms ns us h.1)

pub stand_all : {L : Type 0} (terms : List (Term L)) (ns : List ℕ) (us : List (Tree L)) → AllZip (Stands terms) ns us → StandAll terms ns (trees_of us)
unfolding Stands
stand_all terms [] [] h = tt
stand_all terms [] (u ∷ us) h = absurd h
stand_all terms (n ∷ ns) [] h = absurd h
stand_all terms (n ∷ ns) (u ∷ us) h = (h.0, stand_all terms ns us h.1)
