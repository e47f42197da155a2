-- What the code of the log uses.
use Rattle.std.proofs.Common.{◌≡◌, ℕ, zero, suc, ◌<◌, List, [], ◌∷◌, ◌++◌, length, take, max, Option, Some, None, Result, Ok, Err, slice_get, slice_set, refl, ap, sym, ◌∙◌, subst, inl, inr}
use Rattle.std.specs.Prelude.{◌≢◌, MatchOption, IfOk, OnOk, OnErr, Bool}
use Rattle.indexmap.specs.IndexSet.{insert_key}
use Rattle.pr_value.specs.Trees.{Tree}
use Rattle.derivation.specs.declared.reason.Line.{Line}
use Rattle.derivation.specs.declared.terms.Term.{Term}
use Rattle.derivation.specs.Table.{term, IsAdded, AreEarlier, AreOverOne, IsOverOne, IsReflexive, Inserts}
use Rattle.derivation.specs.declared.reason.Reason.{Reason}
use Rattle.derivation.specs.Made.{Made, IsInput, PartOf, PartNotMade, InsideNotMade, InsideMade, RuleMade}
use Rattle.derivation.specs.Terms.{GivesStep}
use Rattle.derivation.specs.Log.{IsLog}
use Rattle.derivation.specs.declared.reason.Reason.TheVariants.{Query}
use Rattle.derivation.proofs.TableLaws.{insert_distinct, insert_added, added_earlier, added_over_one}
use Rattle.derivation.proofs.StandsLaws.{Keeps, keeps_of_take, stands_for, stands_still}
use Rattle.derivation.proofs.LogLaws.{first_line, more_terms, pushed}

some_is : {A : Type 0} (a b : A) → Some a ≡ Some b → a ≡ b
some_is a b e = cc

module _ {L : Type 0} (terms : List (Term L)) where
  pub input_told : (n at : ℕ) (t : Term L) (r : Option ℕ) → slice_get terms n ≡ Some t → r ≡ slice_get t.inputs at → MatchOption r ((u : ℕ) → IsInput terms n at u → ⊥) (λ u. IsInput terms n at u)
  input_told n at t None is e = λ u (s, at_s, in_s). nothing u (e ∙ ap (λ (x : Term L). slice_get x.inputs at) (some_is t s (sym is ∙ at_s)) ∙ in_s)
    where
      nothing : (u : ℕ) → None ≡ Some u → ⊥
      nothing u e = cc
  input_told n at t (Some u) is e = (t, is, sym e)

  pub part_none : (lines : List Line) (of at : ℕ) (p : Line) → slice_get lines of ≡ Some p → ((u : ℕ) → IsInput terms p.right at u → ⊥) → PartNotMade terms lines of at
  part_none lines of at p is none q at_q u in_u = none u (subst (λ (x : Line). IsInput terms x.right at u) (some_is q p (sym at_q ∙ is)) in_u)

  pub inside_none : (lines : List Line) (of at by : ℕ) (p : Line) → slice_get lines of ≡ Some p → ((u : ℕ) → IsInput terms p.right at u → ⊥) → InsideNotMade terms lines of at by
  inside_none lines of at by p is none q r at_q at_r in_r = none r.left (subst (λ (x : Line). IsInput terms x.right at r.left) (some_is q p (sym at_q ∙ is)) in_r)

  -- another term as the place's input
  pub inside_other : (lines : List Line) (of at by u : ℕ) (p r : Line) → slice_get lines of ≡ Some p → slice_get lines by ≡ Some r → IsInput terms p.right at u → u ≢ r.left → InsideNotMade terms lines of at by
  inside_other lines of at by u p r is at_r in_u other q s at_q at_s in_s =
      let same_p : q ≡ p = some_is q p (sym at_q ∙ is) in
      let same_r : s ≡ r = some_is s r (sym at_s ∙ at_r) in
      let one : slice_get terms p.right ≡ Some in_s.0 = ap (λ (x : Line). slice_get terms x.right) (sym same_p) ∙ in_s.1 in
      let two : in_u.0 ≡ in_s.0 = some_is in_u.0 in_s.0 (sym in_u.1 ∙ one) in
      let here : Some u ≡ Some s.left = sym in_u.2 ∙ ap (λ (x : Term L). slice_get x.inputs at) two ∙ in_s.2 in
      other (some_is u s.left here ∙ ap (λ (x : Line). x.left) same_r)

pub input_still : {L : Type 0} (old new : List (Term L)) (n at u : ℕ) → take (length old) new ≡ old → IsInput old n at u → IsInput new n at u
input_still old new n at u kept (t, is, in_t) = (t, keeps_of_take old new kept n t is, in_t)

added_keeps : {A : Type 0} (old new : List A) (k : A) → IsAdded old new k → Keeps old new
added_keeps {A} old new k (inl is) = λ i x e. subst (λ (w : List A). slice_get w i ≡ Some x) (sym is) e
added_keeps {A} old new k (inr is) = λ i x e. subst (λ (w : List A). slice_get w i ≡ Some x) (sym is) (longer old (k ∷ []) i x e)
  where
    longer : {A : Type 0} (xs ys : List A) (i : ℕ) (x : A) → slice_get xs i ≡ Some x → slice_get (xs ++ ys) i ≡ Some x
    longer [] ys i x e = cc
    longer (z ∷ xs) ys zero x e = e
    longer (z ∷ xs) ys (suc i) x e = longer xs ys i x e

pub part_made : {L : Type 0} (old new : List (Term L)) (n at by r : ℕ) (l : L) (ns ms : List ℕ) → slice_get old n ≡ Some (term l ns) → IsAdded old new (term l ms) → slice_get new r ≡ Some (term l ms) → ms ≡ slice_set ns at by
    → PartOf new n at by r
part_made old new n at by r l ns ms is added made set = (term l ns, added_keeps old new (term l ms) added n (term l ns) is, made ∙ ap (λ w. Some (term l w)) set)

pub inside_made : {L : Type 0} (old new : List (Term L)) (lines : List Line) (of at by u : ℕ) (p r l : Line) → slice_get lines of ≡ Some p → slice_get lines by ≡ Some r → take (length old) new ≡ old → IsInput old p.right at u → u ≡ r.left
    → l.left ≡ p.right → PartOf new p.right at r.right l.right → l.depth ≡ max p.depth r.depth → InsideMade new lines of at by l
inside_made old new lines of at by u p r l is at_r kept in_u same left part deep =
    (p, r, is, at_r, subst (λ n. IsInput new p.right at n) same (input_still old new p.right at u kept in_u), left, part, deep)

pub keeps_table : {L : Type 0} {on_edge : L → Bool} {same : Term L → Term L → Bool} → IsReflexive same → Inserts on_edge same
keeps_table {L} {on_edge} {same} r = record {
  keeps = λ ts t old below over. let added = insert_added same r.one ts t in
      (insert_distinct same r.one ts t old.0, added_earlier ts (insert_key same ts t) t old.1 below added, added_over_one on_edge ts (insert_key same ts t) t old.2 over added);
}

-- what holds after a step that may have left all as it was
pub either : {A X E : Type 0} (P : A → Type 0) (old new made : A) (r : Result X E) → P old → P made → IfOk r (λ _. new ≡ made) → OnErr r (new ≡ old) → P new
either P old new made (Ok x) p q ok err = subst P (sym ok) q
either P old new made (Err x) p q ok err = subst P (sym err) p

pub starts : {L : Type 0} (step : ℕ → Tree L → Option (Tree L)) (ts : List (Term L)) (query : ℕ) (ls : List Line) (l : Line) → AreEarlier ts → query < length ts → ls ≡ l ∷ [] → l.left ≡ query → l.right ≡ query → l.why ≡ Query → l.depth ≡ 0 → IsLog step ts query ls
starts step ts query ls l earlier there is left right why deep =
    let (q, at) = stands_for ts earlier query there in subst (λ (w : List Line). IsLog step ts query w) (sym is) (first_line step ts query q l at left right why deep)

pub rule_made : {L : Type 0} (step : ℕ → Tree L → Option (Tree L)) (old new : List (Term L)) (lines : List Line) (of r u depth : ℕ) (why : Reason) (p : Line) → slice_get lines of ≡ Some p → take (length old) new ≡ old → GivesStep step r p.right old u new
    → depth ≡ suc p.depth → RuleMade new lines step of r (record { left = p.right; right = u; why = why; depth = depth })
rule_made step old new lines of r u depth why p is kept (t, v, at_t, at_v, steps) deep =
    (p, is, (t, v, stands_still old new (keeps_of_take old new kept) p.right t at_t, at_v, steps), refl, deep)

pub appended : {L E : Type 0} (step : ℕ → Tree L → Option (Tree L)) (old new : List (Term L)) (query : ℕ) (ls ms : List Line) (why : Reason) (l : Line) (r : Result ℕ E) → IsLog step old query ls → take (length old) new ≡ old
    → (l.why ≡ why) × Made step new query ls why l → IfOk r (λ i. (i ≡ length ls) × (ms ≡ ls ++ l ∷ [])) → OnErr r (ms ≡ ls) → IsLog step new query ms
appended step old new query ls ms why l (Ok i) log kept made ok err =
    subst (λ (w : List Line). IsLog step new query w) (sym ok.1) (pushed step new query ls why l (more_terms step old new query ls log kept) made.0 made.1)
appended step old new query ls ms why l (Err e) log kept made ok err =
    subst (λ (w : List Line). IsLog step new query w) (sym err) (more_terms step old new query ls log kept)

length_set : {A : Type 0} (xs : List A) (i : ℕ) (x : A) → length (slice_set xs i x) ≡ length xs
length_set [] i x = refl
length_set (y ∷ xs) zero x = refl
length_set (y ∷ xs) (suc i) x = ap suc (length_set xs i x)

-- another input leaves the number of inputs
pub still_over_one : {L : Type 0} (on_edge : L → Bool) (ts : List (Term L)) (n at by : ℕ) (l : L) (ns ms : List ℕ) → AreOverOne on_edge ts → slice_get ts n ≡ Some (term l ns) → ms ≡ slice_set ns at by → IsOverOne on_edge (term l ms)
still_over_one on_edge ts n at by l ns ms over is set on = ap (λ (w : List ℕ). length w) set ∙ length_set ns at by ∙ over n (term l ns) is on

take_all : {A : Type 0} (xs : List A) → take (length xs) xs ≡ xs
take_all [] = refl
take_all (x ∷ xs) = ap (λ r. x ∷ r) (take_all xs)

take_front : {A : Type 0} (xs ys : List A) → take (length xs) (xs ++ ys) ≡ xs
take_front [] ys = refl
take_front (x ∷ xs) ys = ap (λ r. x ∷ r) (take_front xs ys)

-- a term that is added leaves those before
pub added_kept : {A E X : Type 0} (old new : List A) (k : A) (r : Result X E) → OnOk r (IsAdded old new k) → OnErr r (new ≡ old) → take (length old) new ≡ old
added_kept old new k (Ok n) (inl is) err = ap (λ w. take (length old) w) is ∙ take_all old
added_kept old new k (Ok n) (inr is) err = ap (λ w. take (length old) w) is ∙ take_front old (k ∷ [])
added_kept old new k (Err e) ok err = ap (λ w. take (length old) w) err ∙ take_all old
