-- What a log says of trees: which equations a reason justifies, and which it does not.
use Rattle.std.proofs.Common.{◌≡◌, ℕ, zero, suc, ◌<◌, List, [], ◌∷◌, ◌++◌, length, take, Option, Some, None, Result, Ok, Err, slice_get, refl, ap, sym, ◌∙◌, subst, arith}
use Rattle.std.specs.Prelude.{IfOk, OnOk, OnErr}
use Rattle.std.specs.List.{AllZip}
use Rattle.pr_value.specs.Trees.{Tree, node, Trees, nil, cons, list_of, input}
use Rattle.derivation.specs.declared.reason.Reason.{Reason}
use Rattle.derivation.specs.declared.reason.Reason.TheVariants.{Query, Part, Rule, Turn, Chain, Inside}
use Rattle.derivation.specs.declared.reason.Line.{Line}
use Rattle.derivation.specs.declared.reason.PushError.{PushError}
use Rattle.derivation.specs.declared.reason.PushError.TheVariants.{BadReason}
use Rattle.derivation.specs.declared.terms.Term.{Term}
use Rattle.derivation.specs.Joined.{Joined}
use Rattle.derivation.specs.Lines.{Equation}
use Rattle.derivation.specs.Terms.{Justifies, equations_of}
use Rattle.derivation.specs.Table.{AreDistinct}
use Rattle.derivation.specs.Stands.{Stands, StandAll}
use Rattle.derivation.specs.Made.{NotMade, IsInput}
use Rattle.derivation.specs.Log.{LogValue, Shows, IsLog, Pushes, AddsEquation, JustifiesNone, AreJoined}
use Rattle.derivation.proofs.StandsLaws.{one_tree, one_number, keeps_of_take, stands_still}
use Rattle.derivation.proofs.JustifiedLaws.{line_holds}
use Rattle.derivation.proofs.LogLaws.{shown, made_shown, zip_more, zip_map}

some_is : {A : Type 0} (a b : A) → Some a ≡ Some b → a ≡ b
some_is a b e = cc

-- the number of a tree's input
row_number : {L : Type 0} (ts : List (Term L)) (ns : List ℕ) (us : Trees L) (i : ℕ) (u : Tree L) → StandAll ts ns us → slice_get (list_of us) i ≡ Some u → (m : ℕ) × (slice_get ns i ≡ Some m) × Stands ts m u
unfolding Stands
row_number ts [] nil i u h e = cc
row_number ts [] (cons t us) i u h e = absurd h
row_number ts (n ∷ ns) nil i u h e = absurd h
row_number ts (n ∷ ns) (cons t us) zero u h e = (n, refl, subst (Stands ts n) (some_is t u e) h.0)
row_number ts (n ∷ ns) (cons t us) (suc i) u h e = row_number ts ns us i u h.1 e

input_number : {L : Type 0} (ts : List (Term L)) (n i : ℕ) (t u : Tree L) → Stands ts n t → input t i ≡ Some u → (m : ℕ) × IsInput ts n i m × Stands ts m u
unfolding Stands
input_number ts n i (node l us) u h e = let (m, at, stands) = row_number ts h.0.inputs us i u h.3 e in (m, (h.0, h.1, at), stands)

-- the line that shows an equation
shower : {L : Type 0} (ts : List (Term L)) (ls : List Line) (es : List (Reason × Equation L)) (i : ℕ) (e : Equation L) → AllZip (Shows ts) ls es → slice_get (equations_of es) i ≡ Some e
    → (l : Line) × (slice_get ls i ≡ Some l) × Stands ts l.left e.left × Stands ts l.right e.right
shower ts [] [] i e all h = cc
shower ts (l ∷ ls) [] i e all h = absurd all
shower ts [] (p ∷ es) i e all h = absurd all
shower {L} ts (l ∷ ls) (p ∷ es) zero e all h =
    let same : p.1 ≡ e = some_is p.1 e h in (l, refl, subst (λ (x : Equation L). Stands ts l.left x.left) same all.0.0, subst (λ (x : Equation L). Stands ts l.right x.right) same all.0.1)
shower ts (l ∷ ls) (p ∷ es) (suc i) e all h = shower ts ls es i e all.1 h

module _ {L : Type 0} (step : ℕ → Tree L → Option (Tree L)) (q : Tree L) (ts : List (Term L)) (query : ℕ) (ls : List Line) (es : List (Reason × Equation L)) (distinct : AreDistinct ts) (all : AllZip (Shows ts) ls es) where
  -- what is not justified in numbers is not justified of trees
  pub none_justified : (why : Reason) (e : Equation L) → NotMade step ts query ls why → Justifies step q (equations_of es) why e → ⊥
  none_justified Query e none j = none
  none_justified (Part of at) e none (p, u, at_p, in_u, is) =
      let (l, at_l, left, right) = shower ts ls es of p all at_p in
      let (m, in_m, stands) = input_number ts l.right at p.right u right in_u in none l at_l m in_m
  none_justified (Rule of r) e none (p, u, at_p, steps, is) =
      let (l, at_l, left, right) = shower ts ls es of p all at_p in nothing u (sym (none l at_l p.right right) ∙ steps)
    where
      nothing : (u : Tree L) → None ≡ Some u → ⊥
      nothing u e = cc
  none_justified (Turn of) e none (p, at_p, is) = let (l, at_l, left, right) = shower ts ls es of p all at_p in nothing l (sym none ∙ at_l)
    where
      nothing : (l : Line) → None ≡ Some l → ⊥
      nothing l e = cc
  none_justified (Chain first second) e none (p, r, at_p, at_r, meet, is) =
      let (l, at_l, left, right) = shower ts ls es first p all at_p in
      let (k, at_k, left_k, right_k) = shower ts ls es second r all at_r in none l k at_l at_k (one_number ts distinct l.right k.left r.left (subst (Stands ts l.right) meet right) left_k)
  none_justified (Inside of at by) e none (p, r, at_p, at_r, in_r, is) =
      let (l, at_l, left, right) = shower ts ls es of p all at_p in
      let (k, at_k, left_k, right_k) = shower ts ls es by r all at_r in
      let (m, in_m, stands) = input_number ts l.right at p.right r.left right in_r in
      none l k at_l at_k (subst (λ n. IsInput ts l.right at n) (one_number ts distinct m k.left r.left stands left_k) in_m)

module _ {L S : Type 0} (step : ℕ → Tree L → Option (Tree L)) (old new : LogValue L S) where
  pub justifies_none : (why : Reason) → AreDistinct old.terms → NotMade step old.terms old.query old.lines why → JustifiesNone step old why
  justifies_none why distinct none q es e says j = none_justified step q old.terms old.query old.lines es distinct says.1 why e none j

  adds_equation : (why : Reason) → new.query ≡ old.query → take (length old.terms) new.terms ≡ old.terms → Pushes step new.terms old.query old.lines new.lines why → AddsEquation step old new why
  adds_equation why same kept (l, is, because, made) q es says =
      let keeps = keeps_of_take old.terms new.terms kept in
      let at_query : Stands new.terms old.query q = stands_still old.terms new.terms keeps old.query q says.0 in
      let all : AllZip (Shows new.terms) old.lines es =
      zip_map (Shows old.terms) (Shows new.terms) (λ k e h. (stands_still old.terms new.terms keeps k.left e.1.left h.0, stands_still old.terms new.terms keeps k.right e.1.right h.1, h.2, h.3)) old.lines es says.1 in
      let s = made_shown step q new.terms old.query old.lines es at_query all why l made in
      (s.0, s.4, (subst (λ n. Stands new.terms n q) (sym same) at_query, subst (λ ls. AllZip (Shows new.terms) ls (es ++ (why, s.0) ∷ [])) (sym is) (zip_more (Shows new.terms) old.lines es l (why, s.0) all (s.1, s.2, s.3, because))))

  pub adds_ok : {E : Type 0} (why : Reason) (r : Result ℕ E) → new.query ≡ old.query → take (length old.terms) new.terms ≡ old.terms → IfOk r (λ i. (i ≡ length old.lines) × Pushes step new.terms old.query old.lines new.lines why)
      → OnOk r (AddsEquation step old new why)
  adds_ok why (Ok i) same kept ok = adds_equation why same kept ok.1
  adds_ok why (Err e) same kept ok = tt

-- the trees of a line are joined at its depth
pub are_joined : {L S : Type 0} (step : ℕ → Tree L → Option (Tree L)) (log : LogValue L S) → IsLog step log.terms log.query log.lines → AreJoined step log
are_joined step log is q t u i l at_q at left right =
    let (e, at_e, shows) = shown log.terms log.lines is.equations i l is.shows at in
    let holds : Joined step is.tree e.1.depth e.1.left e.1.right = line_holds step is.tree is.equations is.justified i e at_e in
    let same_q : is.tree ≡ q = one_tree log.terms log.query is.tree q is.stands at_q in
    let same_t : e.1.left ≡ t = one_tree log.terms l.left e.1.left t shows.0 left in
    let same_u : e.1.right ≡ u = one_tree log.terms l.right e.1.right u shows.1 right in
    subst (λ v. Joined step q l.depth t v) same_u (subst (λ v. Joined step q l.depth v e.1.right) same_t (subst (λ v. Joined step v l.depth e.1.left e.1.right) same_q (subst (λ d. Joined step is.tree d e.1.left e.1.right) (sym shows.2) holds)))

abbrev pub log_of : {L S : Type 0} → List (Term L) → S → ℕ → List Line → LogValue L S
log_of ts steps query ls = record { terms = ts; steps = steps; query = query; lines = ls }

-- a bad reason justifies nothing, and leaves the log as it was
pub bad_reason : {L S : Type 0} (step : ℕ → Tree L → Option (Tree L)) (ts us : List (Term L)) (steps : S) (query : ℕ) (ls ms : List Line) (why : Reason) (r : Result ℕ PushError) → AreDistinct ts
    → (r ≡ Err BadReason → NotMade step ts query ls why × (us ≡ ts)) → OnErr r (ms ≡ ls) → r ≡ Err BadReason
    → JustifiesNone step (log_of ts steps query ls) why × (log_of us steps query ms ≡ log_of ts steps query ls)
bad_reason {L} {S} step ts us steps query ls ms why r distinct bad err is =
    let b = bad is in (justifies_none step (log_of ts steps query ls) (log_of ts steps query ls) why distinct b.0, (λ i. log_of (b.1 i) steps query (lines_same r err is i)))
  where
    lines_same : (r : Result ℕ PushError) → OnErr r (ms ≡ ls) → r ≡ Err BadReason → ms ≡ ls
    lines_same (Ok i) err is = cc
    lines_same (Err e) err is = err

-- the line that is pushed is there
pub pushed_there : {L E : Type 0} (step : ℕ → Tree L → Option (Tree L)) (ts : List (Term L)) (query : ℕ) (old new : List Line) (why : Reason) (r : Result ℕ E) → IfOk r (λ i. (i ≡ length old) × Pushes step ts query old new why) → IfOk r (λ i. i < length new)
pushed_there step ts query old new why (Err e) ok = tt
pushed_there step ts query old new why (Ok i) (is, (l, longer, because, made)) = let h : length new ≡ suc (length old) = ap (λ (w : List Line). length w) longer ∙ more old l in omega (arith, h, is)
  where
    more : (ls : List Line) (l : Line) → length (ls ++ l ∷ []) ≡ suc (length ls)
    more [] l = refl
    more (k ∷ ls) l = ap suc (more ls l)
