-- What each step of the machine leads to.
use Rattle.std.proofs.Common.{◌≡◌, ℕ, zero, suc, ◌+◌, ◌-◌, ◌≤◌, true, false, inl, inr, List, [], ◌∷◌, ◌++◌, length, map, take, drop, reverse, refl, ap, ap₂, sym, ◌∙◌, arith}
use Rattle.std.proofs.lemmas.List.{reverse-append, reverse-reverse, length-reverse, length-map, length-drop, take-append-drop, append_assoc}
use Rattle.std.proofs.lemmas.Bool.{cases_lt}
use Rattle.pr_value.specs.Symbols.{Symbol}
use Rattle.pr_value.specs.Values.{members_in}
use Rattle.pr_value.specs.declared.value.Value.{Value}
use Rattle.pr_value.specs.declared.value.Value.TheVariants as value
use Rattle.rule_ast.specs.declared.expr.Expr as rust
use Rattle.rule_ast.specs.declared.expr.FoldKind.{FoldKind}
use Rattle.rule_ast.specs.Seen.{seen_expr, exprs_of}
use Rattle.rule_ast.specs.Syntax.{Expr, Exprs}
use Rattle.rule_ast.specs.Syntax as syntax
use Rattle.action_eval.specs.Builtins.{at, fold_value}
use Rattle.action_eval.specs.Machine.{World, Frame, Task, Maker, eval, make, turns, turn, leave, member, body, is_in_body, set, list, call, fold, ended, later, made, value_in_frame, steps_in_frame, steps_to_make, functions_in, steps_of_calls, scope_in, evals, turns_at}
use Rattle.action_eval.specs.Meaning.{values_by}
use Rattle.action_eval.specs.Steps.{steps_all, turn_steps}
use Rattle.action_eval.proofs.FoldLaws.{fold_value-map}

abbrev End : Type 0
End = Value × ℕ

-- ---- values on top of others

abbrev onto : List Value → List Value → List Value
onto [] vs = vs
onto (a ∷ args) vs = onto args (a ∷ vs)

onto-reverse : (args vs : List Value) → onto args vs ≡ reverse args ++ vs
onto-reverse [] vs = refl
onto-reverse (a ∷ args) vs = onto-reverse args (a ∷ vs) ∙ sym (ap (λ us. us ++ vs) (reverse-append (a ∷ []) args) ∙ append_assoc (reverse args) (a ∷ []) vs)

take-front : {A : Type 0} (us vs : List A) → take (length us) (us ++ vs) ≡ us
take-front [] vs = refl
take-front (u ∷ us) vs = ap (λ ws. u ∷ ws) (take-front us vs)

drop-front : {A : Type 0} (us vs : List A) → drop (length us) (us ++ vs) ≡ vs
drop-front [] vs = refl
drop-front (u ∷ us) vs = drop-front us vs

taken-onto : (n : ℕ) (args vs : List Value) → n ≡ length args → reverse (take n (onto args vs)) ≡ args
taken-onto n args vs is =
    ap₂ (λ k us. reverse (take k us)) (is ∙ sym (length-reverse args)) (onto-reverse args vs) ∙ ap reverse (take-front (reverse args) vs) ∙ reverse-reverse args

left-onto : (n : ℕ) (args vs : List Value) → n ≡ length args → drop n (onto args vs) ≡ vs
left-onto n args vs is = ap₂ (λ k us. drop k us) (is ∙ sym (length-reverse args)) (onto-reverse args vs) ∙ drop-front (reverse args) vs

-- ---- steps one after another

pub later-both : (w : World) (m n k : ℕ) (r : End) → k ≡ m + n → later w k r ≡ later w m (later w n r)
later-both w m n k r is = ap (λ j. (r.0, j)) (let e : k + r.1 ≡ m + (n + r.1) = omega (arith, is) in e)

later-none : (w : World) (r : End) → r ≡ later w 0 r
later-none w r = ap (λ n. (r.0, n)) (let e : r.1 ≡ 0 + r.1 = omega arith in e)

module _ (w : World) where
  abbrev all_values : List Frame → Exprs → List Value
  all_values fs es = values_by w.layout (functions_in w fs) (scope_in w fs) es

  abbrev all_steps : List Frame → Exprs → ℕ
  all_steps fs es = steps_all w.layout (functions_in w fs) (steps_of_calls w fs) (scope_in w fs) es

  -- expressions one after another
  ended-evals : (es : Exprs) (ts : List Task) (fs : List Frame) (vs : List Value) → ended w (evals es ++ ts) fs vs ≡ later w (all_steps fs es) (ended w ts fs (onto (all_values fs es) vs))
  ended-evals syntax.nil ts fs vs = later-none w (ended w ts fs vs)
  ended-evals (syntax.cons e es) ts fs vs =
      ap (later w (steps_in_frame w fs e)) (ended-evals es ts fs (value_in_frame w fs e ∷ vs)) ∙ sym (later-both w (steps_in_frame w fs e) (all_steps fs es) _ _ refl)

  -- turns one after another
  ended-turns : (x : Symbol) (ss : List Symbol) (e : Expr) (ts : List Task) (fs : List Frame) (vs : List Value)
      → ended w (turns_at x ss e ++ ts) fs vs ≡ later w (turn_steps (λ s. steps_in_frame w (member x s ∷ fs) e) ss) (ended w ts fs (onto (map (λ s. value_in_frame w (member x s ∷ fs) e) ss) vs))
  ended-turns x [] e ts fs vs = later-none w (ended w ts fs vs)
  ended-turns x (s ∷ ss) e ts fs vs =
      ap (later w (2 + steps_in_frame w (member x s ∷ fs) e)) (ended-turns x ss e ts fs (value_in_frame w (member x s ∷ fs) e ∷ vs))
      ∙ sym (later-both w (2 + steps_in_frame w (member x s ∷ fs) e) (turn_steps (λ s. steps_in_frame w (member x s ∷ fs) e) ss) _ _ refl)

  -- what is made of values on top of others
  ended-make : (o : Maker) (n : ℕ) (args : List Value) (ts : List Task) (fs : List Frame) (vs : List Value) → n ≡ length args
      → ended w (make o n ∷ ts) fs (onto args vs) ≡ later w (1 + steps_to_make w fs o args) (ended w ts fs (made w fs o args ∷ vs))
  ended-make o n args ts fs vs is =
      ap₂ (λ us rest. later w (1 + steps_to_make w fs o us) (ended w ts fs (made w fs o us ∷ rest))) (taken-onto n args vs is) (left-onto n args vs is)

  -- ---- expressions

  made_of : (o : Maker) (es : Exprs) (n k : ℕ) (ts : List Task) (fs : List Frame) (vs : List Value) → n ≡ length (all_values fs es) → k ≡ 2 + all_steps fs es + steps_to_make w fs o (all_values fs es)
      → later w k (ended w ts fs (made w fs o (all_values fs es) ∷ vs)) ≡ later w 1 (ended w (evals es ++ make o n ∷ ts) fs vs)
  made_of o es n k ts fs vs long is =
      let r = ended w ts fs (made w fs o (all_values fs es) ∷ vs) in
      let made_steps = steps_to_make w fs o (all_values fs es) in
      later-both w 1 (all_steps fs es + (1 + made_steps)) k r (omega (arith, is))
      ∙ ap (later w 1)
      (later-both w (all_steps fs es) (1 + made_steps) _ r refl
      ∙ ap (later w (all_steps fs es)) (sym (ended-make o n (all_values fs es) ts fs vs long))
      ∙ sym (ended-evals es (make o n ∷ ts) fs vs))

  pub set-step : (es : Exprs) (n : ℕ) (ts : List Task) (fs : List Frame) (vs : List Value) → n ≡ length (all_values fs es) → ended w (eval (syntax.set_of es) ∷ ts) fs vs ≡ later w 1 (ended w (evals es ++ make set n ∷ ts) fs vs)
  set-step es n ts fs vs long = made_of set es n (2 + all_steps fs es) ts fs vs long (omega arith)

  pub list-step : (es : Exprs) (n : ℕ) (ts : List Task) (fs : List Frame) (vs : List Value) → n ≡ length (all_values fs es) → ended w (eval (syntax.list_of es) ∷ ts) fs vs ≡ later w 1 (ended w (evals es ++ make list n ∷ ts) fs vs)
  list-step es n ts fs vs long = made_of list es n (2 + all_steps fs es) ts fs vs long (omega arith)

  pub call-step : (f : Symbol) (es : Exprs) (n : ℕ) (ts : List Task) (fs : List Frame) (vs : List Value) → n ≡ length (all_values fs es) → ended w (eval (syntax.call f es) ∷ ts) fs vs ≡ later w 1 (ended w (evals es ++ make (call f) n ∷ ts) fs vs)
  call-step f es n ts fs vs long = made_of (call f) es n _ ts fs vs long refl

  pub fold-step : (k : FoldKind) (x : Symbol) (over e : Expr) (ts : List Task) (fs : List Frame) (vs : List Value) → ended w (eval (syntax.fold k x over e) ∷ ts) fs vs ≡ later w 1 (ended w (eval over ∷ turns k x e ∷ ts) fs vs)
  fold-step k x over e ts fs vs =
      let m = steps_in_frame w fs over in
      let t = turn_steps (λ s. steps_in_frame w (member x s ∷ fs) e) (members_in (value_in_frame w fs over)) in
      let last = ended w ts fs (fold_value k (value_in_frame w fs over) (λ s. value_in_frame w (member x s ∷ fs) e) ∷ vs) in
      later-both w (1 + m) (2 + t) (3 + m + t) last (omega arith) ∙ later-both w 1 m (1 + m) (later w (2 + t) last) refl

  -- ---- folds

  folded_turns : (k : FoldKind) (x : Symbol) (over : Value) (e : Expr) (n : ℕ) (ts : List Task) (fs : List Frame) (vs : List Value) → n ≡ suc (length (members_in over))
      → ended w (turns k x e ∷ ts) fs (over ∷ vs) ≡ later w 1 (ended w (turns_at x (members_in over) e ++ make (fold k) n ∷ ts) fs (over ∷ vs))
  folded_turns k x over e n ts fs vs long =
      let each : Symbol → Value = λ s. value_in_frame w (member x s ∷ fs) e in
      let steps = turn_steps (λ s. steps_in_frame w (member x s ∷ fs) e) (members_in over) in
      let args : List Value = over ∷ map each (members_in over) in
      let r = ended w ts fs (made w fs (fold k) args ∷ vs) in
      ap (λ (v : Value). later w (2 + steps) (ended w ts fs (v ∷ vs))) (fold_value-map k over each)
      ∙ later-both w 1 (steps + 1) (2 + steps) r (omega arith)
      ∙ ap (later w 1)
      (later-both w steps 1 _ r refl
      ∙ ap (later w steps) (sym (ended-make (fold k) n args ts fs vs (long ∙ ap suc (sym (length-map (members_in over) each)))))
      ∙ sym (ended-turns x (members_in over) e (make (fold k) n ∷ ts) fs (over ∷ vs)))

  pub turns-step : (k : FoldKind) (x : Symbol) (e : Expr) (n : ℕ) (ts : List Task) (fs : List Frame) (vs : List Value) → n ≡ suc (length (members_in (at vs 0)))
      → ended w (turns k x e ∷ ts) fs vs ≡ later w 1 (ended w (turns_at x (members_in (at vs 0)) e ++ make (fold k) n ∷ ts) fs vs)
  turns-step k x e n ts fs [] long =
      ap (λ (v : Value). later w 2 (ended w ts fs (v ∷ []))) (fold_value-map k (value.Num 0) (λ s. value_in_frame w (member x s ∷ fs) e))
      ∙ later-both w 1 1 2 _ refl ∙ ap (λ j. later w 1 (ended w (make (fold k) j ∷ ts) fs [])) (sym long)
  turns-step k x e n ts fs (v ∷ vs) long = folded_turns k x v e n ts fs vs long

  pub turn-step : (x s : Symbol) (e : Expr) (ts : List Task) (fs : List Frame) (vs : List Value) → ended w (turn x s e ∷ ts) fs vs ≡ later w 1 (ended w (eval e ∷ leave ∷ ts) (member x s ∷ fs) vs)
  turn-step x s e ts fs vs =
      let m = steps_in_frame w (member x s ∷ fs) e in
      let r = ended w ts fs (value_in_frame w (member x s ∷ fs) e ∷ vs) in
      later-both w 1 (m + 1) (2 + m) r (omega arith) ∙ ap (later w 1) (later-both w m 1 _ r refl)

  -- as many values as expressions
  pub length-values : (fs : List Frame) (es : List rust.Expr) → length es ≡ length (all_values fs (exprs_of (map seen_expr es)))
  length-values fs [] = refl
  length-values fs (e ∷ es) = ap suc (length-values fs es)

-- ---- stacks

pub pushed : {A B : Type 0} (f : A → B) (xs new : List A) (x : A) → new ≡ xs ++ x ∷ [] → map f (reverse new) ≡ f x ∷ map f (reverse xs)
pushed f xs new x is = ap (λ ys. map f (reverse ys)) is ∙ ap (map f) (reverse-append xs (x ∷ []))

-- the latest of a stack
behind : {A : Type 0} (front tail : List A) (n : ℕ) → n ≡ length tail → (reverse (take n (reverse (front ++ tail))) ≡ tail) × (drop n (reverse (front ++ tail)) ≡ reverse front)
behind front tail n is =
    let turned = reverse-append front tail in
    let long : n ≡ length (reverse tail) = is ∙ sym (length-reverse tail) in
    (ap₂ (λ k us. reverse (take k us)) long turned ∙ ap reverse (take-front (reverse tail) (reverse front)) ∙ reverse-reverse tail, ap₂ (λ k us. drop k us) long turned ∙ drop-front (reverse tail) (reverse front))

pub past-all : {A : Type 0} (xs : List A) (n : ℕ) → length xs ≤ n → (take n xs ≡ xs) × (drop n xs ≡ [])
past-all [] zero all = (refl, refl)
past-all [] (suc n) all = (refl, refl)
past-all (x ∷ xs) zero all = absurd (omega (arith, all))
past-all (x ∷ xs) (suc n) all = let rest = past-all xs n (omega (arith, all)) in (ap (λ ys. x ∷ ys) rest.0, rest.1)

-- what is split off from so far behind, or from the start where there are fewer
pub split-behind : {A : Type 0} (xs : List A) (n front : ℕ) → front ≡ length xs - n → (drop front xs ≡ reverse (take n (reverse xs))) × (reverse (take front xs) ≡ drop n (reverse xs))
split-behind xs n front is =
    elim (cases_lt (length xs) n) [
      | inl fewer ↦
          let none : front ≡ 0 = omega (arith, is, fewer) in
          let all = past-all (reverse xs) n (omega (arith, fewer, length-reverse xs)) in
          (ap (λ k. drop k xs) none ∙ sym (ap reverse all.0 ∙ reverse-reverse xs), ap (λ k. reverse (take k xs)) none ∙ sym all.1)
      | inr enough ↦
          let long : n ≡ length (drop front xs) = omega (arith, is, enough, length-drop front xs) in
          let both = behind (take front xs) (drop front xs) n long in
          let whole = take-append-drop front xs in
          (sym (ap (λ ys. reverse (take n (reverse ys))) (sym whole) ∙ both.0), sym (ap (λ ys. drop n (reverse ys)) (sym whole) ∙ both.1))
    ]

-- ---- lists of tasks

pub evals-push : (es : List rust.Expr) (e : rust.Expr) (ts : List Task) → evals (exprs_of (map seen_expr (es ++ e ∷ []))) ++ ts ≡ evals (exprs_of (map seen_expr es)) ++ eval (seen_expr e) ∷ ts
evals-push [] e ts = refl
evals-push (d ∷ es) e ts = ap (λ us. eval (seen_expr d) ∷ us) (evals-push es e ts)

pub turns_at-push : (x : Symbol) (ss : List Symbol) (s : Symbol) (e : Expr) (ts : List Task) → turns_at x (ss ++ s ∷ []) e ++ ts ≡ turns_at x ss e ++ turn x s e ∷ ts
turns_at-push x [] s e ts = refl
turns_at-push x (r ∷ ss) s e ts = ap (λ us. turn x r e ∷ us) (turns_at-push x ss s e ts)

-- ---- frames

pub descs-in_body : (w : World) (fs : List Frame) → is_in_body fs ≡ true → (scope_in w fs).descs ≡ []
descs-in_body w [] is = cc
descs-in_body w (member x s ∷ fs) is = descs-in_body w fs is
descs-in_body w (body ps args n ∷ fs) is = refl

pub descs-outside : (w : World) (fs : List Frame) → is_in_body fs ≡ false → (scope_in w fs).descs ≡ w.descs
descs-outside w [] is = refl
descs-outside w (member x s ∷ fs) is = descs-outside w fs is
descs-outside w (body ps args n ∷ fs) is = cc
