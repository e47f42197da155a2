-- Room that is kept for listed puts.
use Rattle.std.proofs.Common.{◌≡◌, ℕ, suc, ◌+◌, ◌-◌, ◌<◌, ◌≤◌, min, true, false, cond, List, [], ◌∷◌, Some, nat_lt, refl, sym, ap, ◌∙◌, arith, inl, inr}
use Rattle.std.specs.Cmp.{nat_cmp_total, unsigned_ties, unsigned_Decides}
use Rattle.std.specs.FinMap as map
use Rattle.std.specs.FinMap.{find, get-from_entries}
use Rattle.std.specs.List.{All}
use Rattle.std.specs.Ordering.{nat_cmp, eq_by_cmp}
use Rattle.std.proofs.Math.Nat.{le-min, min-le_right}
use Rattle.std.proofs.lemmas.Bool.{cases_lt, false_from_ne_true}
use Rattle.std.proofs.lemmas.Bool.Decides.{Decides-ltb}
use Rattle.std.proofs.lemmas.List.Elements.{All-head, All-tail}
use Rattle.std.proofs.lemmas.Option.{same_Some}
use Rattle.pr_outside.specs.Counts.{last_count, one_more}
use Rattle.pr_outside.specs.Room.{room_after, KeepsRoom}

-- what one listing wants
abbrev weight : ℕ → ℕ × ℕ → ℕ
weight calls e = cond (nat_lt calls e.0) e.1 0

weight-past : (calls : ℕ) (e : ℕ × ℕ) → e.0 ≤ calls → weight calls e ≡ 0
weight-past calls e past = ap (λ b. cond b e.1 0) (false_from_ne_true (nat_lt calls e.0) (λ is. absurd (omega (arith, (Decides-ltb calls e.0).0 is))))

weight-ahead : (calls : ℕ) (e : ℕ × ℕ) → calls < e.0 → weight calls e ≡ e.1
weight-ahead calls e ahead = ap (λ b. cond b e.1 0) ((Decides-ltb calls e.0).1 ahead)

weight-le : (calls n : ℕ) (e : ℕ × ℕ) → calls ≤ n → weight n e ≤ weight calls e
weight-le calls n e later =
    elim (cases_lt n e.0) [
      | inl ahead ↦ omega (arith, weight-ahead n e ahead, weight-ahead calls e (omega arith))
      | inr past ↦ omega (arith, weight-past n e past)
    ]

room_after-le : (calls n : ℕ) (es : List (ℕ × ℕ)) → calls ≤ n → room_after n es ≤ room_after calls es
room_after-le calls n [] later = omega arith
room_after-le calls n (e ∷ es) later = omega (arith, weight-le calls n e later, room_after-le calls n es later)

-- the next put is behind the calls so far, where it is listed
next_ahead : (calls n last k : ℕ) → n ≡ min (calls + 1) last → n ≡ k → k < last → calls < k
next_ahead calls n last k is same early =
    elim (cases_lt calls k) [
      | inl ahead ↦ ahead
      | inr past ↦ absurd (omega (arith, le-min {k = suc k} {a = calls + 1} {b = last} (omega arith) early))
    ]

listed_room : (calls n last t : ℕ) (es : List (ℕ × ℕ)) → n ≡ min (calls + 1) last → calls ≤ n → All (λ e. e.0 < last) es → find nat_cmp n es ≡ Some t → t + room_after n es ≤ room_after calls es
listed_room calls n last t [] is later early at = cc
listed_room calls n last t (e ∷ es) is later early at =
    elim (eq_by_cmp nat_cmp n e.0) as (λ b. eq_by_cmp nat_cmp n e.0 ≡ b → cond b (Some e.1) (find nat_cmp n es) ≡ Some t → t + room_after n (e ∷ es) ≤ room_after calls (e ∷ es)) [
      | true ↦ λ tie at.
          let same : n ≡ e.0 = (unsigned_Decides n e.0).0 (unsigned_ties n e.0 ∙ tie) in
          let ahead : calls < e.0 = next_ahead calls n last e.0 is same (All-head (λ (d : ℕ × ℕ). d.0 < last) e es early) in
          omega (arith, same_Some e.1 t at, weight-past n e (omega arith), weight-ahead calls e ahead, room_after-le calls n es later)
      | false ↦ λ tie at. omega (arith, weight-le calls n e later, listed_room calls n last t es is later (All-tail (λ (d : ℕ × ℕ). d.0 < last) e es early) at)
    ] refl at

module _ (calls n kept len capacity : ℕ) (es : List (ℕ × ℕ)) (is : n ≡ one_more calls) (keeps : KeepsRoom calls es kept len capacity) where
  counts_on : calls ≤ n
  counts_on = omega (arith, le-min {k = calls} {a = calls + 1} {b = last_count} (omega arith) keeps.counted)

  counted_on : n ≤ last_count
  counted_on = omega (arith, min-le_right (calls + 1) last_count)

  -- behind a put that is not listed
  pub room_next : (len' capacity' : ℕ) → len' + kept ≤ capacity' → KeepsRoom n es kept len' capacity'
  room_next len' capacity' free = record { enough = omega (arith, room_after-le calls n es counts_on, keeps.enough); free = free; counted = counted_on; early = keeps.early }

  room_with : (t : ℕ) → map.get (map.from_entries {R = nat_cmp} es) n ≡ Some t → t + room_after n es ≤ kept
  room_with t at = omega (arith, listed_room calls n last_count t es is counts_on keeps.early (sym (get-from_entries nat_cmp_total es n) ∙ at), keeps.enough)

  -- a listed put has room for what it takes
  pub room_taken : (t : ℕ) → map.get (map.from_entries {R = nat_cmp} es) n ≡ Some t → t ≤ kept
  room_taken t at = omega (arith, room_with t at)

  -- and behind it there is room for the others
  pub room_left : (t p len' capacity' : ℕ) → map.get (map.from_entries {R = nat_cmp} es) n ≡ Some t → p ≤ t → len' + (kept - p) ≤ capacity' → KeepsRoom n es (kept - t) len' capacity'
  room_left t p len' capacity' at within free = record { enough = omega (arith, room_with t at); free = omega (arith, room_with t at); counted = counted_on; early = keeps.early }
