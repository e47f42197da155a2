-- Marks and chains of solutions.
use Rattle.std.proofs.Common.{◌≡◌, ◌≢◌, ℕ, zero, suc, ◌+◌, ◌-◌, ◌%◌, ◌≤◌, ◌<◌, List, [], ◌∷◌, ◌++◌, length, map, drop, get_or, replicate, Option, Some, None, refl, ap, sym, ◌∙◌, subst, arith, inl, inr, length-append}
use Rattle.std.specs.Prelude.{◌⊎◌, slice_get, slice_set}
use Rattle.std.specs.List.{AllByRecursion}
use Rattle.best_plan.specs.declared.solution.Solution.{Solution}
use Rattle.best_plan.specs.Moves.{Graph}
use Rattle.best_plan.specs.Solutions.{AreSound}
use Rattle.k_best.specs.Showings.{Showing, row, shown, shown_at}
use Rattle.k_best.specs.declared.index.Index.{Index}
use Rattle.k_best.specs.Indexes.{mix, mix_all, mark_of, mark_in, mark_at, AreMarks, chain_at, IsLast, entry_in, IsIndexed, IsRest}
use Rattle.std.proofs.Math.Nat.{mod-lt}
use Rattle.std.proofs.Math.Seq.{drop-cons}
use Rattle.std.proofs.lemmas.List.{length-replicate}
use Rattle.k_best.proofs.ListLaws.{get_left, get_last, le_or_lt, same_or_not}
use Rattle.k_best.proofs.SolutionLaws.{sound_inputs, sound_shown}
use Rattle.k_best.proofs.ShowingLaws.{shown_left}
use Rattle.k_best.proofs.SetLaws.{set_same, set_other, set_long}

pub marks_mix : (seen : List Showing) (marks : List ℕ) → AreMarks seen marks → (ats : List ℕ) → AllByRecursion (λ at. at < length marks) ats
    → mix_all (map (mark_at marks) ats) ≡ mark_of (row (map (shown_at seen) ats))
marks_mix seen marks are [] h = refl
marks_mix seen marks are (at ∷ ats) h =
    ap (λ n. mix n (mark_at marks at)) (marks_mix seen marks are ats h.1) ∙ ap (mix (mark_of (row (map (shown_at seen) ats)))) (are at h.0)

pub mix_drop : (f : ℕ → ℕ) (xs : List ℕ) (i : ℕ) → 0 < i → i ≤ length xs → mix_all (map f (drop (i - 1) xs)) ≡ mix (mix_all (map f (drop i xs))) (f (get_or xs (i - 1) 0))
mix_drop f xs zero p l = absurd (omega (arith, p))
mix_drop f xs (suc j) p l =
    let e : suc j - 1 ≡ j = omega arith in
    subst (λ (k : ℕ). mix_all (map f (drop k xs)) ≡ mix (mix_all (map f (drop (suc j) xs))) (f (get_or xs k 0))) (sym e)
    (ap (λ (ys : List ℕ). mix_all (map f ys)) (drop-cons xs j 0 (omega (arith, l))))

-- where solutions show the same they are of one chain
chain_same : (n : ℕ) (seen : List Showing) (a b : ℕ) → shown_at seen a ≡ shown_at seen b → chain_at n seen a ≡ chain_at n seen b
chain_same n seen a b e = ap (λ v. mark_of v % n) e

last_on : (f h : ℕ → ℕ) (end c : ℕ) → ((at : ℕ) → at < end → f at ≡ h at) → (o : Option ℕ) → IsLast f end c o → IsLast h end c o
last_on f h end c same None is = λ at l e. is at l (same at l ∙ e)
last_on f h end c same (Some last) is = (is.0, sym (same last is.0) ∙ is.1, λ at low l e. is.2 at low l (same at l ∙ e))

-- one more that is of another chain
last_more : (f : ℕ → ℕ) (end c : ℕ) → f end ≢ c → (o : Option ℕ) → IsLast f end c o → IsLast f (end + 1) c o
last_more f end c other o is = by_entry o is where
  before : (at : ℕ) → at < end + 1 → f at ≡ c → at < end
  before at l e = elim (same_or_not at end) [ inl same ↦ absurd (other (sym (ap f same) ∙ e)) | inr ne ↦ omega (arith, l, ne) ]

  by_entry : (p : Option ℕ) → IsLast f end c p → IsLast f (end + 1) c p
  by_entry None h = λ at l e. h at (before at l e) e
  by_entry (Some last) h = (omega (arith, h.0), h.1, λ at low l e. h.2 at low (before at l e) e)

last_here : (f : ℕ → ℕ) (end c : ℕ) → f end ≡ c → IsLast f (end + 1) c (Some end)
last_here f end c e = (omega arith, e, λ at low l is. omega (arith, low, l))

module _ (seen more : List Showing) (i : Index) (is : IsIndexed seen i) (same : (at : ℕ) → at < length i.marks → shown_at seen at ≡ shown_at more at) where
  chain_on : (at : ℕ) → at < length i.marks → chain_at (length i.heads) seen at ≡ chain_at (length i.heads) more at
  chain_on at l = ap (λ v. mark_of v % length i.heads) (same at l)

  -- what stands behind changes nothing
  pub indexed_on : IsIndexed more i
  indexed_on = record {
    are = λ at l. is.are at l ∙ ap mark_of (same at l);
    some = is.some;
    long = is.long;
    last = λ c l. last_on (chain_at (length i.heads) seen) (chain_at (length i.heads) more) (length i.marks) c chain_on (entry_in (slice_get i.heads c)) (is.last c l);
    behind = λ at l. subst (λ c. IsLast (chain_at (length i.heads) more) at c (entry_in (slice_get i.before at))) (chain_on at l)
        (last_on (chain_at (length i.heads) seen) (chain_at (length i.heads) more) at (chain_at (length i.heads) seen at) (λ b h. chain_on b (omega (arith, h, l))) (entry_in (slice_get i.before at)) (is.behind at l));
  }

pub indexed_left : (face : ℕ → ℕ → ℕ) (ss xs : List Solution) (i : Index) → length i.marks ≤ length ss → IsIndexed (shown face ss) i → IsIndexed (shown face (ss ++ xs)) i
indexed_left face ss xs i l is = indexed_on (shown face ss) (shown face (ss ++ xs)) i is (λ at h. sym (shown_left face ss xs at (omega (arith, h, l))))

no_entry : (n c : ℕ) → entry_in (slice_get (replicate n None) c) ≡ None
no_entry zero c = refl
no_entry (suc n) zero = refl
no_entry (suc n) (suc c) = no_entry n c

none_last : (f : ℕ → ℕ) (c : ℕ) (o : Option ℕ) → o ≡ None → IsLast f 0 c o
none_last f c o e = subst (IsLast f 0 c) (sym e) (λ at l is. omega (arith, l))

abbrev no_heads : ℕ → List (Option ℕ)
no_heads n = replicate n None

abbrev no_place : Option ℕ
no_place = None

last_none : (seen : List Showing) (n c : ℕ) → IsLast (chain_at (length (no_heads n)) seen) 0 c (entry_in (slice_get (no_heads n) c))
last_none seen n c = none_last (chain_at (length (no_heads n)) seen) c (entry_in (slice_get (no_heads n) c)) (no_entry n c)

none_indexed : (seen : List Showing) (n : ℕ) → IsIndexed seen (record { marks = []; heads = no_heads (n + 1); before = [] })
none_indexed seen n = record {
  are = λ at l. absurd (omega (arith, l));
  some = omega (arith, length-replicate (n + 1) no_place);
  long = refl;
  last = λ c l. last_none seen (n + 1) c;
  behind = λ at l. absurd (omega (arith, l));
}

pub none_indexed_at : (seen : List Showing) (n : ℕ) (i : Index) → i.marks ≡ [] → i.heads ≡ replicate (n + 1) None → i.before ≡ [] → IsIndexed seen i
none_indexed_at seen n i em eh eb =
    subst (λ (ms : List ℕ). IsIndexed seen (record { marks = ms; heads = i.heads; before = i.before })) (sym em)
    (subst (λ (hs : List (Option ℕ)). IsIndexed seen (record { marks = []; heads = hs; before = i.before })) (sym eh)
    (subst (λ (bs : List (Option ℕ)). IsIndexed seen (record { marks = []; heads = no_heads (n + 1); before = bs })) (sym eb) (none_indexed seen n)))

module _ (seen : List Showing) (i : Index) (is : IsIndexed seen i) (mark : ℕ) (e : mark ≡ mark_of (shown_at seen (length i.marks))) where
  abbrev chain : ℕ
  chain = mark % length i.heads

  abbrev heads : List (Option ℕ)
  heads = slice_set i.heads chain (Some (length i.marks))

  abbrev entry : Option ℕ
  entry = entry_in (slice_get i.heads chain)

  within : chain < length i.heads
  within = mod-lt mark is.some

  here : chain_at (length i.heads) seen (length i.marks) ≡ chain
  here = ap (λ n. n % length i.heads) (sym e)

  long : length (i.marks ++ mark ∷ []) ≡ length i.marks + 1
  long = omega (arith, length-append i.marks (mark ∷ []))

  place : (at : ℕ) → at < length (i.marks ++ mark ∷ []) → (at < length i.marks) ⊎ (at ≡ length i.marks)
  place at l = elim (le_or_lt (length i.marks) at) [ inl h ↦ inr (omega (arith, h, l, long)) | inr h ↦ inl h ]

  are : (at : ℕ) → (at < length i.marks) ⊎ (at ≡ length i.marks) → mark_at (i.marks ++ mark ∷ []) at ≡ mark_of (shown_at seen at)
  are at (inl l) = ap mark_in (get_left i.marks (mark ∷ []) at l) ∙ is.are at l
  are at (inr same) = ap (mark_at (i.marks ++ mark ∷ [])) same ∙ ap mark_in (get_last i.marks mark) ∙ e ∙ sym (ap (λ n. mark_of (shown_at seen n)) same)

  last : (c : ℕ) → c < length i.heads → (c ≡ chain) ⊎ (c ≢ chain) → IsLast (chain_at (length i.heads) seen) (length i.marks + 1) c (entry_in (slice_get heads c))
  last c l (inl same) =
      subst (IsLast (chain_at (length i.heads) seen) (length i.marks + 1) c) (sym (ap (λ n. entry_in (slice_get heads n)) same ∙ ap entry_in (set_same i.heads chain (Some (length i.marks)) within)))
      (last_here (chain_at (length i.heads) seen) (length i.marks) c (here ∙ sym same))
  last c l (inr other) =
      subst (IsLast (chain_at (length i.heads) seen) (length i.marks + 1) c) (sym (ap entry_in (set_other i.heads chain c (Some (length i.marks)) other)))
      (last_more (chain_at (length i.heads) seen) (length i.marks) c (λ h. other (sym h ∙ here)) (entry_in (slice_get i.heads c)) (is.last c l))

  behind : (at : ℕ) → (at < length i.marks) ⊎ (at ≡ length i.marks) → IsLast (chain_at (length i.heads) seen) at (chain_at (length i.heads) seen at) (entry_in (slice_get (i.before ++ entry ∷ []) at))
  behind at (inl l) =
      subst (IsLast (chain_at (length i.heads) seen) at (chain_at (length i.heads) seen at)) (sym (ap entry_in (get_left i.before (entry ∷ []) at (omega (arith, l, is.long))))) (is.behind at l)
  behind at (inr same) =
      let was : slice_get (i.before ++ entry ∷ []) at ≡ Some entry = ap (slice_get (i.before ++ entry ∷ [])) (same ∙ sym is.long) ∙ get_last i.before entry in
      let old : IsLast (chain_at (length i.heads) seen) (length i.marks) (chain_at (length i.heads) seen (length i.marks)) entry = subst (λ c. IsLast (chain_at (length i.heads) seen) (length i.marks) c entry) (sym here) (is.last chain within) in
      subst (IsLast (chain_at (length i.heads) seen) at (chain_at (length i.heads) seen at)) (sym (ap entry_in was))
      (subst (λ n. IsLast (chain_at (length i.heads) seen) n (chain_at (length i.heads) seen n) entry) (sym same) old)

  more : IsIndexed seen (record { marks = i.marks ++ mark ∷ []; heads = heads; before = i.before ++ entry ∷ [] })
  more = record {
    are = λ at l. are at (place at l);
    some = omega (arith, is.some, set_long i.heads chain (Some (length i.marks)));
    long = omega (arith, is.long, long, length-append i.before (entry ∷ []));
    last = λ c l. subst (λ n. IsLast (chain_at n seen) (length (i.marks ++ mark ∷ [])) c (entry_in (slice_get heads c))) (sym (set_long i.heads chain (Some (length i.marks))))
        (subst (λ n. IsLast (chain_at (length i.heads) seen) n c (entry_in (slice_get heads c))) (sym long) (last c (omega (arith, l, set_long i.heads chain (Some (length i.marks)))) (same_or_not c chain)));
    behind = λ at l. subst (λ n. IsLast (chain_at n seen) at (chain_at n seen at) (entry_in (slice_get (i.before ++ entry ∷ []) at))) (sym (set_long i.heads chain (Some (length i.marks)))) (behind at (place at l));
  }

  -- one more has its mark
  pub indexed_more : (j : Index) → j.marks ≡ i.marks ++ mark ∷ [] → j.heads ≡ heads → j.before ≡ i.before ++ entry ∷ [] → IsIndexed seen j
  indexed_more j a b c =
      subst (λ (ms : List ℕ). IsIndexed seen (record { marks = ms; heads = j.heads; before = j.before })) (sym a)
      (subst (λ (hs : List (Option ℕ)). IsIndexed seen (record { marks = i.marks ++ mark ∷ []; heads = hs; before = j.before })) (sym b)
      (subst (λ (bs : List (Option ℕ)). IsIndexed seen (record { marks = i.marks ++ mark ∷ []; heads = heads; before = bs })) (sym c) more))

module _ (n : ℕ) (seen : List Showing) (at : ℕ) where
  pub rest_first : (o : Option ℕ) → IsLast (chain_at n seen) at (chain_at n seen at) o → IsRest n seen at o
  rest_first None is = λ b l e. is b l (chain_same n seen b at e)
  rest_first (Some last) is = (is.0, is.1, λ b low l e. is.2 b low l (chain_same n seen b at e))

  by_place : (b last : ℕ) → ((last < b) → shown_at seen b ≡ shown_at seen at → ⊥) → (shown_at seen last ≡ shown_at seen at → ⊥) → ((b < last) → shown_at seen b ≡ shown_at seen at → ⊥)
      → shown_at seen b ≡ shown_at seen at → ⊥
  by_place b last after not before e = elim (le_or_lt last b) [ inl h ↦ by_same h (same_or_not b last) | inr h ↦ before h e ] where
    by_same : last ≤ b → (b ≡ last) ⊎ (b ≢ last) → ⊥
    by_same h (inl same) = not (sym (ap (shown_at seen) same) ∙ e)
    by_same h (inr other) = after (omega (arith, h, other)) e

  -- the one at the next place does not show the same
  pub rest_next : (last : ℕ) (o : Option ℕ) → IsRest n seen at (Some last) → (shown_at seen last ≡ shown_at seen at → ⊥) → IsLast (chain_at n seen) last (chain_at n seen last) o → IsRest n seen at o
  rest_next last None rest not is = λ b l. by_place b last (λ low. rest.2 b low l) not (λ h e. is b h (chain_same n seen b at e ∙ sym rest.1))
  rest_next last (Some next) rest not is =
      (omega (arith, is.0, rest.0), is.1 ∙ rest.1, λ b low l. by_place b last (λ after. rest.2 b after l) not (λ h e. is.2 b low h (chain_same n seen b at e ∙ sym rest.1)))

pub rest_of : (n : ℕ) (seen : List Showing) (at : ℕ) (o : Option ℕ) (next : ℕ) → o ≡ Some next → IsRest n seen at o → IsRest n seen at (Some next)
rest_of n seen at o next e is = subst (IsRest n seen at) e is

-- the last of the mark's chain
pub rest_start : (seen : List Showing) (i : Index) → IsIndexed seen i → (at mark : ℕ) (o : Option ℕ) → at ≡ length i.marks → mark ≡ mark_of (shown_at seen at)
    → o ≡ entry_in (slice_get i.heads (mark % length i.heads)) → IsRest (length i.heads) seen at o
rest_start seen i is at mark o place e entry =
    let n = length i.heads in
    let last : IsLast (chain_at n seen) (length i.marks) (mark % n) (entry_in (slice_get i.heads (mark % n))) = is.last (mark % n) (mod-lt mark is.some) in
    rest_first n seen at o
    (subst (IsLast (chain_at n seen) at (chain_at n seen at)) (sym entry)
    (subst (λ (k : ℕ). IsLast (chain_at n seen) at k (entry_in (slice_get i.heads (mark % n)))) (ap (λ (v : ℕ). v % n) e)
    (subst (λ (k : ℕ). IsLast (chain_at n seen) k (mark % n) (entry_in (slice_get i.heads (mark % n)))) (sym place) last)))

-- the mark of a solution of a sound list
pub mark_is : (m : Graph) (face : ℕ → ℕ → ℕ) (ss : List Solution) → AreSound m ss → (at : ℕ) (s : Solution) → slice_get ss at ≡ Some s
    → (marks : List ℕ) → AreMarks (shown face ss) marks → at ≡ length marks → (n : ℕ) → n ≡ mix (mix (mix_all (map (mark_at marks) s.inputs)) s.cost) (face s.goal s.k)
    → n ≡ mark_of (shown_at (shown face ss) at)
mark_is m face ss sound at s is marks are place n e =
    e ∙ ap (λ (k : ℕ). mix (mix k s.cost) (face s.goal s.k)) (marks_mix (shown face ss) marks are s.inputs (sound_inputs m face ss sound at s is (length marks) (omega (arith, place))))
    ∙ sym (ap mark_of (sound_shown m face ss sound at s is))
