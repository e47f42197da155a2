-- The longest front whose bytes pass a test.
use Rattle.std.proofs.Common.{◌≡◌, ℕ, suc, ◌+◌, Bool, true, false, cond, List, [], ◌∷◌, ◌++◌, take, drop, refl, sym, ◌∙◌, subst, arith}
use Rattle.std.specs.List.{prefix_len, list_all}
use Rattle.std.proofs.lemmas.Bool.{and_parts, and_from}
use Rattle.std.proofs.lemmas.List.{take-append-drop}
use Rattle.std.proofs.lemmas.List.Folds.{list_all-append}
use Rattle.rule_lex.specs.Runs.{begins, IsRun}

-- so many bytes pass, and the next one does not
abbrev Stops : (ℕ → Bool) → List ℕ → ℕ → Type 0
Stops test text n = (list_all test (take n text) ≡ true) × (begins test (drop n text) ≡ false)

stops_on : (test : ℕ → Bool) (b : ℕ) (bs : List ℕ) (m n : ℕ) → m ≡ suc n → test b ≡ true → Stops test bs n → Stops test (b ∷ bs) m
stops_on test b bs m n e t s = subst (λ (k : ℕ). Stops test (b ∷ bs) k) (sym e) (and_from (test b) _ t s.0, s.1)

stops_at : (test : ℕ → Bool) (b : ℕ) (bs : List ℕ) (c : Bool) → test b ≡ c → Stops test bs (prefix_len test bs) → Stops test (b ∷ bs) (cond c (1 + prefix_len test bs) 0)
stops_at test b bs true e s = stops_on test b bs (1 + prefix_len test bs) (prefix_len test bs) (omega arith) e s
stops_at test b bs false e s = (refl, e)

stops : (test : ℕ → Bool) (text : List ℕ) → Stops test text (prefix_len test text)
stops test [] = (refl, refl)
stops test (b ∷ bs) = stops_at test b bs (test b) refl (stops test bs)

-- the front is as long as the bytes that pass
pub run : (test : ℕ → Bool) (text : List ℕ) (n : ℕ) (front rest : List ℕ) → n ≡ prefix_len test text → front ≡ take n text → rest ≡ drop n text → IsRun test text front rest
run test text n front rest e f r =
    let s : Stops test text n = subst (λ (k : ℕ). Stops test text k) (sym e) (stops test text) in
    subst (λ (x : List ℕ). IsRun test text x rest) (sym f)
    (subst (λ (x : List ℕ). IsRun test text (take n text) x) (sym r)
    (sym (take-append-drop n text), s.0, s.1))

-- where all bytes pass, one within does
pub passes_within : (test : ℕ → Bool) (front : List ℕ) (b : ℕ) (more : List ℕ) → list_all test (front ++ b ∷ more) ≡ true → test b ≡ true
passes_within test front b more e =
    (and_parts (test b) _ (and_parts (list_all test front) _ (sym (list_all-append test front (b ∷ more)) ∙ e)).1).0
