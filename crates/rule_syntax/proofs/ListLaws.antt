-- Lists: with commas between up to a mark, and as many as there are.
use Rattle.std.proofs.Common.{map, ◌≡◌, ℕ, zero, suc, ◌-◌, ◌≤◌, Bool, true, false, List, [], ◌∷◌, ◌++◌, length, Option, Some, None, refl, sym, ap, ◌∙◌, subst, arith, append_assoc, length-append}
use Rattle.std.specs.Prelude.{⊤, flat_map, if◌then◌else◌}
use Rattle.std.specs.List.{list_all}
use Rattle.pr_value.specs.declared.token.Token.TheVariants as token
use Rattle.pr_value.specs.declared.token.Mark.{Mark}
use Rattle.pr_value.specs.declared.token.Mark.TheVariants.{Comma}
use Rattle.rule_syntax.specs.Tokens.{Text, m, commas}
use Rattle.rule_ast.specs.Spelled.{has_some}
use Rattle.rule_syntax.specs.Levels.{most}
use Rattle.rule_syntax.specs.Reading.{◌>>=◌, Reader, mark_at, listed_at, and_more, filled_at, closed_at, none_or, closing, many_at, before}
use Rattle.rule_syntax.proofs.Opening.{before_all, listed_last, listed_more}
use Rattle.rule_syntax.proofs.TokenLaws.{bind_some, some_same, both_true, and_true, mark_sound}

-- what is read is good, and its tokens and the rest are the tokens
abbrev pub Sound : {A : Type 0} → (A → Text) → (A → Type 0) → Reader A → Type 0
Sound {A} tokens Good read = (ts : Text) (x : A × Text) → read ts ≡ Some x → Good x.0 × (ts ≡ tokens x.0 ++ x.1)

-- what is good is read before whatever may follow
abbrev pub Complete : {A : Type 0} → (A → Text) → (A → Type 0) → (Text → Type 0) → Reader A → Type 0
Complete {A} tokens Good Ends read = (x : A) → Good x → (rest : Text) → Ends rest → read (tokens x ++ rest) ≡ Some (x, rest)

abbrev pub Every : {A : Type 0} → (A → Type 0) → List A → Type 0
Every Good [] = ⊤
Every Good (x ∷ xs) = Good x × Every Good xs

pub record Listed {A : Type 0} (tokens : A → Text) (Good : A → Type 0) (ts : Text) (xs : List A) (rest : Text) : Type 0 where
  pub some : 1 ≤ length xs
  pub every : Every Good xs
  pub text : ts ≡ commas (map tokens xs) ++ rest

commas_more : {A : Type 0} (tokens : A → Text) (x : A) (ys : List A) (rest : Text) → 1 ≤ length ys → commas (map tokens (x ∷ ys)) ++ rest ≡ tokens x ++ (token.Mark Comma ∷ (commas (map tokens ys) ++ rest))
commas_more tokens x [] rest h = absurd (omega arith)
commas_more tokens x (y ∷ ys) rest h = append_assoc (tokens x ++ m Comma) (commas (map tokens (y ∷ ys))) rest ∙ append_assoc (tokens x) (m Comma) (commas (map tokens (y ∷ ys)) ++ rest)

pub listed_sound : {A : Type 0} (tokens : A → Text) (Good : A → Type 0) (read : Reader A) → Sound tokens Good read → (k : ℕ) (ts : Text) (x : List A × Text) → listed_at read k ts ≡ Some x → Listed tokens Good ts x.0 x.1
unfolding listed_at
listed_sound tokens Good read sound zero ts x e = cc
listed_sound {A} tokens Good read sound (suc k) ts x e =
    let p = bind_some (read ts) (λ (y : A × Text). and_more (listed_at read k) y (mark_at Comma y.1)) x e in
    let s = sound ts p.0 (p.1) in
    next ts p.0 s (listed_sound tokens Good read sound k) (mark_at Comma p.0.1) refl x (p.2) where
      next : (ts : Text) (y : A × Text) → Good y.0 × (ts ≡ tokens y.0 ++ y.1) → ((us : Text) (z : List A × Text) → listed_at read k us ≡ Some z → Listed tokens Good us z.0 z.1) → (o : Option Text) → mark_at Comma y.1 ≡ o → (x : List A × Text)
          → and_more (listed_at read k) y o ≡ Some x → Listed tokens Good ts x.0 x.1
      next ts y s others None o x e =
          let same : (y.0 ∷ [], y.1) ≡ x = cc e in
          subst (λ (z : List A × Text). Listed tokens Good ts z.0 z.1) same (record { some = omega arith; every = (s.0, tt); text = s.1 })
      next ts y s others (Some more) o x e =
          let q = bind_some (listed_at read k more) (λ (z : List A × Text). Some (y.0 ∷ z.0, z.1)) x e in
          let r = others more q.0 (q.1) in
          let same : (y.0 ∷ q.0.0, q.0.1) ≡ x = cc (q.2) in
          subst (λ (z : List A × Text). Listed tokens Good ts z.0 z.1) same (record {
            some = omega arith;
            every = (s.0, r.every);
            text = s.1 ∙ ap (λ us. tokens y.0 ++ us) (mark_sound Comma y.1 more o ∙ ap (λ us. token.Mark Comma ∷ us) r.text) ∙ sym (commas_more tokens y.0 q.0.0 q.0.1 r.some);
          })

pub listed_complete : {A : Type 0} (tokens : A → Text) (Good : A → Type 0) (Ends : Text → Type 0) (read : Reader A) → Complete tokens Good Ends read → ((ts : Text) → Ends (token.Mark Comma ∷ ts)) → (k : ℕ) (x : A) (xs : List A) →
    Every Good (x ∷ xs) → length (x ∷ xs) ≤ k → (rest : Text) → Ends rest → mark_at Comma rest ≡ None → listed_at read k (commas (map tokens (x ∷ xs)) ++ rest) ≡ Some (x ∷ xs, rest)
listed_complete tokens Good Ends read complete comma zero x xs every few rest ends last = absurd (omega arith)
listed_complete tokens Good Ends read complete comma (suc k) x [] every few rest ends last =
    before_all (listed_at read (suc k) (tokens x ++ rest)) ∙ listed_last read (suc k) (tokens x ++ rest) [] x rest (omega arith) (complete x every.0 rest ends) last
listed_complete tokens Good Ends read complete comma (suc k) x (y ∷ ys) every few rest ends last =
    let text = commas_more tokens x (y ∷ ys) rest (omega arith) in
    let others = commas (map tokens (y ∷ ys)) ++ rest in
    let same : suc k - 1 ≡ k = omega arith in
    ap (listed_at read (suc k)) text ∙ before_all (listed_at read (suc k) (tokens x ++ token.Mark Comma ∷ others)) ∙
    listed_more read (suc k) (tokens x ++ token.Mark Comma ∷ others) [] x (token.Mark Comma ∷ others) others (omega arith) (complete x every.0 (token.Mark Comma ∷ others) (comma others)) refl ∙
    ap (λ j. before (x ∷ []) (listed_at read j others)) same ∙ ap (before (x ∷ [])) (listed_complete tokens Good Ends read complete comma k y ys (every.1) (omega arith) rest ends last)

-- a list has as many tokens as parts, at the least
commas_length : {A : Type 0} (tokens : A → Text) → ((x : A) → 1 ≤ length (tokens x)) → (xs : List A) → length xs ≤ length (commas (map tokens xs))
commas_length tokens some [] = omega arith
commas_length tokens some (x ∷ []) = some x
commas_length tokens some (x ∷ y ∷ ys) =
    let h = commas_length tokens some (y ∷ ys) in
    let s = some x in
    let l = length-append (tokens x ++ m Comma) (commas (map tokens (y ∷ ys))) in
    let k = length-append (tokens x) (m Comma) in
    omega (arith, h, s, l, k)

-- one or more parts and the closing mark
pub record Filled {A : Type 0} (tokens : A → Text) (Good : A → Type 0) (close : Mark) (ts : Text) (xs : List A) (rest : Text) : Type 0 where
  pub some : has_some xs ≡ true
  pub every : Every Good xs
  pub text : ts ≡ commas (map tokens xs) ++ token.Mark close ∷ rest

long_some : {A : Type 0} (xs : List A) → 1 ≤ length xs → has_some xs ≡ true
long_some [] h = absurd (omega arith)
long_some (x ∷ xs) h = refl

pub filled_sound : {A : Type 0} (tokens : A → Text) (Good : A → Type 0) (read : Reader A) → Sound tokens Good read → (close : Mark) (ts : Text) (x : List A × Text) → filled_at read close ts ≡ Some x
    → Filled tokens Good close ts x.0 x.1
unfolding filled_at
filled_sound {A} tokens Good read sound close ts x e =
    let p = bind_some (listed_at read (length ts) ts) (closing close) x e in
    let q = bind_some (mark_at close p.0.1) (λ (us : Text). Some (p.0.0, us)) x (p.2) in
    let l = listed_sound tokens Good read sound (length ts) ts p.0 (p.1) in
    let same : (p.0.0, q.0) ≡ x = some_same (p.0.0, q.0) x (q.2) in
    subst (λ (z : List A × Text). Filled tokens Good close ts z.0 z.1) same
    (record { some = long_some p.0.0 l.some; every = l.every; text = l.text ∙ ap (λ us. commas (map tokens p.0.0) ++ us) (mark_sound close p.0.1 q.0 (q.1)) })

pub closed_sound : {A : Type 0} (tokens : A → Text) (Good : A → Type 0) (read : Reader A) → Sound tokens Good read → (close : Mark) (ts : Text) (x : List A × Text) → closed_at read close ts ≡ Some x
    → Every Good x.0 × (ts ≡ commas (map tokens x.0) ++ token.Mark close ∷ x.1)
unfolding closed_at
closed_sound {A} tokens Good read sound close ts x e = next (mark_at close ts) refl e where
  next : (o : Option Text) → mark_at close ts ≡ o → none_or o (filled_at read close ts) ≡ Some x → Every Good x.0 × (ts ≡ commas (map tokens x.0) ++ token.Mark close ∷ x.1)
  next (Some rest) o e =
      let same : ([], rest) ≡ x = some_same ([], rest) x e in
      subst (λ (z : List A × Text). Every Good z.0 × (ts ≡ commas (map tokens z.0) ++ token.Mark close ∷ z.1)) same (tt, mark_sound close ts rest o)
  next None o e = let f = filled_sound tokens Good read sound close ts x e in (f.every, f.text)

-- the closing mark is its own, is no comma, and begins no part
pub record Closes {A : Type 0} (tokens : A → Text) (Ends : Text → Type 0) (close : Mark) : Type 0 where
  pub itself : (rest : Text) → mark_at close (token.Mark close ∷ rest) ≡ Some rest
  pub no_comma : (rest : Text) → mark_at Comma (token.Mark close ∷ rest) ≡ None
  pub no_part : (x : A) (rest : Text) → mark_at close (tokens x ++ rest) ≡ None
  pub ends : (rest : Text) → Ends (token.Mark close ∷ rest)

no_part_first : {A : Type 0} (tokens : A → Text) (Ends : Text → Type 0) (close : Mark) → Closes tokens Ends close → (x : A) (xs : List A) (rest : Text) → mark_at close (commas (map tokens (x ∷ xs)) ++ rest) ≡ None
no_part_first tokens Ends close c x [] rest = c.no_part x rest
no_part_first tokens Ends close c x (y ∷ ys) rest = ap (mark_at close) (commas_more tokens x (y ∷ ys) rest (omega arith)) ∙ c.no_part x (token.Mark Comma ∷ (commas (map tokens (y ∷ ys)) ++ rest))

pub filled_complete : {A : Type 0} (tokens : A → Text) (Good : A → Type 0) (Ends : Text → Type 0) (read : Reader A) → Complete tokens Good Ends read → ((ts : Text) → Ends (token.Mark Comma ∷ ts)) → ((x : A) → 1 ≤ length (tokens x)) →
    (close : Mark) → Closes tokens Ends close → (xs : List A) → has_some xs ≡ true → Every Good xs → (rest : Text) → filled_at read close (commas (map tokens xs) ++ token.Mark close ∷ rest) ≡ Some (xs, rest)
unfolding filled_at
filled_complete tokens Good Ends read complete comma some close c [] one every rest = cc
filled_complete {A} tokens Good Ends read complete comma some close c (x ∷ xs) one every rest =
    let text = commas (map tokens (x ∷ xs)) ++ token.Mark close ∷ rest in
    let few = commas_length tokens some (x ∷ xs) in
    let l = length-append (commas (map tokens (x ∷ xs))) (token.Mark close ∷ rest) in
    let listed = listed_complete tokens Good Ends read complete comma (length text) x xs every (omega (arith, few, l)) (token.Mark close ∷ rest) (c.ends rest) (c.no_comma rest) in
    ap (λ (o : Option (List A × Text)). o >>= closing close) listed ∙ ap (λ (o : Option Text). o >>= (λ (us : Text). Some (x ∷ xs, us))) (c.itself rest)

pub closed_complete : {A : Type 0} (tokens : A → Text) (Good : A → Type 0) (Ends : Text → Type 0) (read : Reader A) → Complete tokens Good Ends read → ((ts : Text) → Ends (token.Mark Comma ∷ ts)) → ((x : A) → 1 ≤ length (tokens x)) →
    (close : Mark) → Closes tokens Ends close → (xs : List A) → Every Good xs → (rest : Text) → closed_at read close (commas (map tokens xs) ++ token.Mark close ∷ rest) ≡ Some (xs, rest)
unfolding closed_at
closed_complete {A} tokens Good Ends read complete comma some close c [] every rest = ap (λ o. none_or o (filled_at read close (token.Mark close ∷ rest))) (c.itself rest)
closed_complete {A} tokens Good Ends read complete comma some close c (x ∷ xs) every rest =
    let text = commas (map tokens (x ∷ xs)) ++ token.Mark close ∷ rest in
    ap (λ o. none_or o (filled_at read close text)) (no_part_first tokens Ends close c x xs (token.Mark close ∷ rest)) ∙ filled_complete tokens Good Ends read complete comma some close c (x ∷ xs) refl every rest

-- as many as there are
pub many_sound : {A : Type 0} (tokens : A → Text) (Good : A → Type 0) (goes : Text → Bool) (read : Reader A) → Sound tokens Good read → (k : ℕ) (ts : Text) (x : List A × Text) → many_at goes read k ts ≡ Some x
    → Every Good x.0 × (ts ≡ flat_map tokens x.0 ++ x.1)
unfolding many_at
many_sound {A} tokens Good goes read sound zero ts x e = next (goes ts) e where
  next : (b : Bool) → (if b then None else Some ([], ts)) ≡ Some x → Every Good x.0 × (ts ≡ flat_map tokens x.0 ++ x.1)
  next true e = cc
  next false e = let same : ([], ts) ≡ x = cc e in subst (λ (z : List A × Text). Every Good z.0 × (ts ≡ flat_map tokens z.0 ++ z.1)) same (tt, refl)
many_sound {A} tokens Good goes read sound (suc k) ts x e = next (many_sound tokens Good goes read sound k) (goes ts) e where
  next : ((us : Text) (z : List A × Text) → many_at goes read k us ≡ Some z → Every Good z.0 × (us ≡ flat_map tokens z.0 ++ z.1)) → (b : Bool) →
      (if b then (read ts >>= (λ x. many_at goes read k x.1 >>= (λ y. Some (x.0 ∷ y.0, y.1)))) else Some ([], ts)) ≡ Some x → Every Good x.0 × (ts ≡ flat_map tokens x.0 ++ x.1)
  next others false e = let same : ([], ts) ≡ x = cc e in subst (λ (z : List A × Text). Every Good z.0 × (ts ≡ flat_map tokens z.0 ++ z.1)) same (tt, refl)
  next others true e =
      let p = bind_some (read ts) (λ (y : A × Text). many_at goes read k y.1 >>= (λ (z : List A × Text). Some (y.0 ∷ z.0, z.1))) x e in
      let q = bind_some (many_at goes read k p.0.1) (λ (z : List A × Text). Some (p.0.0 ∷ z.0, z.1)) x (p.2) in
      let s = sound ts p.0 (p.1) in
      let r = others p.0.1 q.0 (q.1) in
      let same : (p.0.0 ∷ q.0.0, q.0.1) ≡ x = cc (q.2) in
      subst (λ (z : List A × Text). Every Good z.0 × (ts ≡ flat_map tokens z.0 ++ z.1)) same
      ((s.0, r.0), s.1 ∙ ap (λ us. tokens p.0.0 ++ us) (r.1) ∙ sym (append_assoc (tokens p.0.0) (flat_map tokens q.0.0) q.0.1))

pub many_complete : {A : Type 0} (tokens : A → Text) (Good : A → Type 0) (Ends : Text → Type 0) (goes : Text → Bool) (read : Reader A) → Complete tokens Good Ends read → ((ts : Text) → Ends ts) → ((x : A) (ts : Text) → goes (tokens x ++ ts) ≡ true) → (k : ℕ) (xs : List A) →
    Every Good xs → length xs ≤ k → (rest : Text) → goes rest ≡ false → many_at goes read k (flat_map tokens xs ++ rest) ≡ Some (xs, rest)
unfolding many_at
many_complete tokens Good Ends goes read complete any first zero [] every few rest last = rw last refl
many_complete tokens Good Ends goes read complete any first (suc k) [] every few rest last = rw last refl
many_complete tokens Good Ends goes read complete any first zero (x ∷ xs) every few rest last = absurd (omega arith)
many_complete {A} tokens Good Ends goes read complete any first (suc k) (x ∷ xs) every few rest last =
    let others = flat_map tokens xs ++ rest in
    let text : flat_map tokens (x ∷ xs) ++ rest ≡ tokens x ++ others = append_assoc (tokens x) (flat_map tokens xs) rest in
    ap (many_at goes read (suc k)) text ∙
    ap (λ (b : Bool). if b then (read (tokens x ++ others) >>= (λ y. many_at goes read k y.1 >>= (λ z. Some (y.0 ∷ z.0, z.1)))) else Some ([], tokens x ++ others)) (first x others) ∙
    ap (λ (o : Option (A × Text)). o >>= (λ y. many_at goes read k y.1 >>= (λ z. Some (y.0 ∷ z.0, z.1)))) (complete x every.0 others (any others)) ∙
    ap (λ (o : Option (List A × Text)). o >>= (λ z. Some (x ∷ z.0, z.1))) (many_complete tokens Good Ends goes read complete any first k xs (every.1) (omega arith) rest last)

flat_length : {A : Type 0} (tokens : A → Text) → ((x : A) → 1 ≤ length (tokens x)) → (xs : List A) → length xs ≤ length (flat_map tokens xs)
flat_length tokens some [] = omega arith
flat_length tokens some (x ∷ xs) = let h = flat_length tokens some xs in let s = some x in let l = length-append (tokens x) (flat_map tokens xs) in omega (arith, h, s, l)

pub many_length : {A : Type 0} (tokens : A → Text) → ((x : A) → 1 ≤ length (tokens x)) → (xs : List A) (rest : Text) → length xs ≤ length (flat_map tokens xs ++ rest)
many_length tokens some xs rest = let h = flat_length tokens some xs in let l = length-append (flat_map tokens xs) rest in omega (arith, h, l)

-- spelled, and of so many levels at most
pub record Good {A : Type 0} (spells : A → Bool) (levels : A → ℕ) (n : ℕ) (x : A) : Type 0 where
  pub spelled : spells x ≡ true
  pub shallow : levels x ≤ n

pub all_every : {A : Type 0} (p : A → Bool) (xs : List A) → list_all p xs ≡ true → Every (λ x. p x ≡ true) xs
all_every p [] e = tt
all_every p (x ∷ xs) e = let b = both_true (p x) (list_all p xs) e in (b.0, all_every p xs (b.1))

pub every_all : {A : Type 0} (p : A → Bool) (xs : List A) → Every (λ x. p x ≡ true) xs → list_all p xs ≡ true
every_all p [] h = refl
every_all p (x ∷ xs) h = and_true (p x) (list_all p xs) (h.0) (every_all p xs (h.1))

pub good_every : {A : Type 0} (spells : A → Bool) (levels : A → ℕ) (n : ℕ) (xs : List A) → list_all spells xs ≡ true → most levels xs ≤ n → Every (Good spells levels n) xs
good_every spells levels n [] s h = tt
good_every spells levels n (x ∷ xs) s h =
    let b = both_true (spells x) (list_all spells xs) s in (record { spelled = b.0; shallow = omega (arith, h) }, good_every spells levels n xs (b.1) (omega (arith, h)))

pub every_spelled : {A : Type 0} (spells : A → Bool) (levels : A → ℕ) (n : ℕ) (xs : List A) → Every (Good spells levels n) xs → list_all spells xs ≡ true
every_spelled spells levels n [] h = refl
every_spelled spells levels n (x ∷ xs) h = and_true (spells x) (list_all spells xs) (h.0.spelled) (every_spelled spells levels n xs (h.1))

pub every_shallow : {A : Type 0} (spells : A → Bool) (levels : A → ℕ) (n : ℕ) (xs : List A) → Every (Good spells levels n) xs → most levels xs ≤ n
every_shallow spells levels n [] h = omega arith
every_shallow spells levels n (x ∷ xs) h = let a = h.0.shallow in let b = every_shallow spells levels n xs (h.1) in omega (arith, a, b)
