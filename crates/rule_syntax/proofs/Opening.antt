-- One turn of a loop over a list.
use Rattle.std.proofs.Common.{map, ◌≡◌, ℕ, zero, suc, ◌-◌, ◌<◌, ◌≤◌, List, [], ◌∷◌, ◌++◌, Bool, true, false, Option, Some, None, refl, sym, ◌∙◌, arith, ap, append_assoc, append-nil}
use Rattle.std.specs.Prelude.{if◌then◌else◌}
use Rattle.pr_value.specs.declared.token.Mark.TheVariants.{Comma}
use Rattle.rule_syntax.specs.Tokens.{Text}
use Rattle.rule_syntax.specs.declared.reading.stop.Stop.{Stop}
use Rattle.rule_syntax.specs.declared.reading.stop.Stop.TheVariants as stop
use Rattle.rule_syntax.specs.Reading.{Fails, ◌>>=◌, Reader, listed_at, and_more, mark_at, many_at, before}

pub before_all : {A : Type 0} (o : Option (List A × Text)) → o ≡ before [] o
before_all (Some x) = refl
before_all None = refl

pub before_next : {A : Type 0} (xs : List A) (x : A) (o : Option (List A × Text)) → before xs (o >>= (λ y. Some (x ∷ y.0, y.1))) ≡ before (xs ++ x ∷ []) o
before_next xs x (Some y) = ap (λ zs. Some (zs, y.1)) (sym (append_assoc xs (x ∷ []) y.0))
before_next xs x None = refl

-- a turn of the loop: no part, the last one, or one with a comma behind it
pub listed_bad : {A : Type 0} (read : Reader A) (k : ℕ) (ts : Text) (xs : List A) → 0 < k → read ts ≡ None → before xs (listed_at read k ts) ≡ None
unfolding listed_at
listed_bad read zero ts xs h e = refl
listed_bad read (suc k) ts xs h e = ap (λ o. before xs (o >>= (λ x. and_more (listed_at read k) x (mark_at Comma x.1)))) e

pub listed_out : {A : Type 0} (read : Reader A) (k : ℕ) (ts : Text) (xs : List A) → k ≤ 0 → before xs (listed_at read k ts) ≡ None
unfolding listed_at
listed_out read zero ts xs h = refl
listed_out read (suc k) ts xs h = absurd (omega arith)

pub listed_last : {A : Type 0} (read : Reader A) (k : ℕ) (ts : Text) (xs : List A) (x : A) (behind : Text) → 0 < k → read ts ≡ Some (x, behind) → mark_at Comma behind ≡ None
    → before xs (listed_at read k ts) ≡ Some (xs ++ x ∷ [], behind)
unfolding listed_at
listed_last read zero ts xs x behind h e f = absurd (omega arith)
listed_last read (suc k) ts xs x behind h e f =
    ap (λ o. before xs (o >>= (λ x. and_more (listed_at read k) x (mark_at Comma x.1)))) e ∙ ap (λ o. before xs (and_more (listed_at read k) (x, behind) o)) f

pub listed_more : {A : Type 0} (read : Reader A) (k : ℕ) (ts : Text) (xs : List A) (x : A) (behind more : Text) → 0 < k → read ts ≡ Some (x, behind) → mark_at Comma behind ≡ Some more
    → before xs (listed_at read k ts) ≡ before (xs ++ x ∷ []) (listed_at read (k - 1) more)
unfolding listed_at
listed_more read zero ts xs x behind more h e f = absurd (omega arith)
listed_more read (suc k) ts xs x behind more h e f =
    let same : k ≡ suc k - 1 = omega arith in
    ap (λ o. before xs (o >>= (λ x. and_more (listed_at read k) x (mark_at Comma x.1)))) e ∙ ap (λ o. before xs (and_more (listed_at read k) (x, behind) o)) f ∙
    before_next xs x (listed_at read k more) ∙ ap (λ j. before (xs ++ x ∷ []) (listed_at read j more)) same

pub map_push : {A B : Type 0} (f : A → B) (xs : List A) (x : A) → map f (xs ++ x ∷ []) ≡ map f xs ++ f x ∷ []
map_push f [] x = refl
map_push f (y ∷ xs) x = ap (λ ys. f y ∷ ys) (map_push f xs x)

-- the same of as many parts as there are
pub many_last : {A : Type 0} (goes : Text → Bool) (read : Reader A) (k : ℕ) (ts : Text) (xs : List A) → goes ts ≡ false → before xs (many_at goes read k ts) ≡ Some (xs, ts)
unfolding many_at
many_last goes read zero ts xs h = ap (λ b. before xs (if b then None else Some ([], ts))) h ∙ ap (λ ys. Some (ys, ts)) (append-nil xs)
many_last {A} goes read (suc k) ts xs h =
    ap (λ b. before xs (if b then (read ts >>= (λ x. many_at goes read k x.1 >>= (λ y. Some (x.0 ∷ y.0, y.1)))) else Some ([], ts))) h ∙ ap (λ ys. Some (ys, ts)) (append-nil xs)

pub many_out : {A : Type 0} (goes : Text → Bool) (read : Reader A) (k : ℕ) (ts : Text) (xs : List A) → goes ts ≡ true → k ≡ 0 → before xs (many_at goes read k ts) ≡ None
unfolding many_at
many_out goes read zero ts xs h e = ap (λ b. before xs (if b then None else Some ([], ts))) h
many_out goes read (suc k) ts xs h e = absurd (omega (arith, e))

pub many_bad : {A : Type 0} (goes : Text → Bool) (read : Reader A) (k : ℕ) (ts : Text) (xs : List A) → goes ts ≡ true → 0 < k → read ts ≡ None → before xs (many_at goes read k ts) ≡ None
unfolding many_at
many_bad goes read zero ts xs h some e = absurd (omega arith)
many_bad {A} goes read (suc k) ts xs h some e =
    ap (λ b. before xs (if b then (read ts >>= (λ x. many_at goes read k x.1 >>= (λ y. Some (x.0 ∷ y.0, y.1)))) else Some ([], ts))) h ∙
    ap (λ (o : Option (A × Text)). before xs (o >>= (λ x. many_at goes read k x.1 >>= (λ y. Some (x.0 ∷ y.0, y.1))))) e

pub many_more : {A : Type 0} (goes : Text → Bool) (read : Reader A) (k : ℕ) (ts : Text) (xs : List A) (x : A) (behind : Text) → goes ts ≡ true → 0 < k → read ts ≡ Some (x, behind)
    → before xs (many_at goes read k ts) ≡ before (xs ++ x ∷ []) (many_at goes read (k - 1) behind)
unfolding many_at
many_more goes read zero ts xs x behind h some e = absurd (omega arith)
many_more {A} goes read (suc k) ts xs x behind h some e =
    let same : k ≡ suc k - 1 = omega arith in
    ap (λ b. before xs (if b then (read ts >>= (λ x. many_at goes read k x.1 >>= (λ y. Some (x.0 ∷ y.0, y.1)))) else Some ([], ts))) h ∙
    ap (λ (o : Option (A × Text)). before xs (o >>= (λ x. many_at goes read k x.1 >>= (λ y. Some (x.0 ∷ y.0, y.1))))) e ∙ before_next xs x (many_at goes read k behind) ∙
    ap (λ j. before (xs ++ x ∷ []) (many_at goes read j behind)) same

-- a stop that is handed on, of a part without which there is no whole
pub passed_on : {Y W : Type 0} (part : Option Y) (whole : Option W) (e y : Stop) → Fails e part → (part ≡ None → whole ≡ None) → y ≡ e → Fails y whole
passed_on part whole (stop.Bad left) y h next same = rw same (next h)
passed_on part whole (stop.Deep left) y h next same = rw same (next h)
passed_on part whole stop.Memory y h next same = rw same tt
