-- What a list of lines equates is what is joined.
use Rattle.std.proofs.Common.{ℕ, zero, suc, max, List, [], ◌∷◌, ◌++◌, Option, Contains, refl, subst, arith}
use Rattle.pr_value.specs.Trees.{Tree, with_input}
use Rattle.derivation.specs.Joined.{Joined, query, part, rule, turn, chain, inside}
use Rattle.derivation.specs.Lines.{Equation, equation, Follows, IsDerivation, JoinedByLines}
use Rattle.derivation.specs.Lines as lines
use Rattle.derivation.proofs.JoinedLaws.{raise}

contains_here : {A : Type 0} (x : A) (xs : List A) → Contains (x ∷ xs) x
contains_here x xs = (0, omega arith, refl)

contains_later : {A : Type 0} (x y : A) (xs : List A) → Contains xs x → Contains (y ∷ xs) x
contains_later x y xs (k, h, e) = (suc k, omega (arith, h), e)

contains_left : {A : Type 0} (x : A) (xs ys : List A) → Contains xs x → Contains (xs ++ ys) x
contains_left x [] ys (k, h, e) = let n : ⊥ = omega (arith, h) in absurd n
contains_left x (z ∷ xs) ys (zero, h, e) = (0, omega arith, e)
contains_left x (z ∷ xs) ys (suc k, h, e) = contains_later x z (xs ++ ys) (contains_left x xs ys (k, omega (arith, h), e))

contains_right : {A : Type 0} (x : A) (xs ys : List A) → Contains ys x → Contains (xs ++ ys) x
contains_right x [] ys c = c
contains_right x (z ∷ xs) ys c = contains_later x z (xs ++ ys) (contains_right x xs ys c)

module _ {L : Type 0} (step : ℕ → Tree L → Option (Tree L)) (q : Tree L) where
  abbrev Holds : Equation L → Type 0
  Holds e = Joined step q e.depth e.left e.right

  abbrev Known : List (Equation L) → Type 0
  Known es = (e : Equation L) → Contains es e → Holds e

  -- what follows from lines that hold holds
  follows_holds : (es : List (Equation L)) (e : Equation L) → Known es → Follows step q es e → Holds e
  follows_holds es e known lines.query = query
  follows_holds es e known (lines.part {s} {t} {u} {d} i c h) = part i (known (equation s t d) c) h
  follows_holds es e known (lines.rule {s} {t} {u} {d} r c h) = rule r (known (equation s t d) c) h
  follows_holds es e known (lines.turn {t} {u} {d} c) = turn (known (equation t u d) c)
  follows_holds es e known (lines.chain {s} {t} {u} {d} {e = f} c c') =
      chain (raise step q (omega arith) (known (equation s t d) c)) (raise step q (omega arith) (known (equation t u f) c'))
  follows_holds es e known (lines.inside {s} {t} {u} {v} {d} {e = f} i c h c') =
      inside i (raise step q (omega arith) (known (equation s t d) c)) h (raise step q (omega arith) (known (equation u v f) c'))

  lines_hold : (es : List (Equation L)) → IsDerivation step q es → Known es
  lines_hold [] ds e (k, h, p) = let n : ⊥ = omega (arith, h) in absurd n
  lines_hold (f ∷ es) ds e (zero, h, p) = subst Holds p (follows_holds es f (lines_hold es ds.1) ds.0)
  lines_hold (f ∷ es) ds e (suc k, h, p) = lines_hold es ds.1 e (k, omega (arith, h), p)

  -- soundness
  pub joined_of_lines : (k : ℕ) (t u : Tree L) → JoinedByLines step q k t u → Joined step q k t u
  joined_of_lines k t u (es, ds, found) = raise step q found.1 (lines_hold es ds (equation t u found.0) found.2)

  more_lines : (es fs : List (Equation L)) (e : Equation L) → ((x : Equation L) → Contains es x → Contains fs x) → Follows step q es e → Follows step q fs e
  more_lines es fs e w lines.query = lines.query
  more_lines es fs e w (lines.part {s} {t} {u} {d} i c h) = lines.part i (w (equation s t d) c) h
  more_lines es fs e w (lines.rule {s} {t} {u} {d} r c h) = lines.rule r (w (equation s t d) c) h
  more_lines es fs e w (lines.turn {t} {u} {d} c) = lines.turn (w (equation t u d) c)
  more_lines es fs e w (lines.chain {s} {t} {u} {d} {e = f} c c') = lines.chain (w (equation s t d) c) (w (equation t u f) c')
  more_lines es fs e w (lines.inside {s} {t} {u} {v} {d} {e = f} i c h c') = lines.inside i (w (equation s t d) c) h (w (equation u v f) c')

  both : (es fs : List (Equation L)) → IsDerivation step q es → IsDerivation step q fs → IsDerivation step q (es ++ fs)
  both [] fs ds rs = rs
  both (e ∷ es) fs ds rs = (more_lines es (es ++ fs) e (λ x c. contains_left x es fs c) ds.0, both es fs ds.1 rs)

  -- completeness
  pub lines_of_joined : {k : ℕ} {t u : Tree L} → Joined step q k t u → JoinedByLines step q k t u
  lines_of_joined query = (equation q q 0 ∷ [], (lines.query, tt), (0, omega arith, contains_here (equation q q 0) []))
  lines_of_joined (part {k} {s} {t} {u} i p e) =
      let (es, ds, (d, h, c)) = lines_of_joined p in (equation u u d ∷ es, (lines.part i c e, ds), (d, h, contains_here (equation u u d) es))
  lines_of_joined (rule {k} {s} {t} {u} r p e) =
      let (es, ds, (d, h, c)) = lines_of_joined p in (equation t u (suc d) ∷ es, (lines.rule r c e, ds), (suc d, omega (arith, h), contains_here (equation t u (suc d)) es))
  lines_of_joined (turn {k} {t} {u} p) =
      let (es, ds, (d, h, c)) = lines_of_joined p in (equation u t d ∷ es, (lines.turn c, ds), (d, h, contains_here (equation u t d) es))
  lines_of_joined (chain {k} {s} {t} {u} p p') =
      let (es, ds, (d, h, c)) = lines_of_joined p in let (fs, rs, (f, g, b)) = lines_of_joined p' in
      (equation s u (max d f) ∷ (es ++ fs), (lines.chain (contains_left (equation s t d) es fs c) (contains_right (equation t u f) es fs b), both es fs ds rs), (max d f, omega (arith, h, g), contains_here (equation s u (max d f)) (es ++ fs)))
  lines_of_joined (inside {k} {s} {t} {u} {v} i p e p') =
      let (es, ds, (d, h, c)) = lines_of_joined p in let (fs, rs, (f, g, b)) = lines_of_joined p' in
      (equation t (with_input t i v) (max d f) ∷ (es ++ fs), (lines.inside i (contains_left (equation s t d) es fs c) e (contains_right (equation u v f) es fs b), both es fs ds rs), (max d f, omega (arith, h, g), contains_here (equation t (with_input t i v) (max d f)) (es ++ fs)))
