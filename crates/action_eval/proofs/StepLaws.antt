-- The steps of the machine, as the code takes them.
use Rattle.std.proofs.Common.{◌≡◌, ℕ, zero, suc, ◌+◌, ◌<◌, Bool, false, List, [], ◌∷◌, ◌++◌, length, map, take, get_or, Some, None, Result, Ok, Err, refl, ap, ap₂, sym, ◌∙◌, arith}
use Rattle.std.specs.Prelude.{OnOk}
use Rattle.std.specs.List.{list_any}
use Rattle.std.specs.Str.{bytes_eq}
use Rattle.std.proofs.lemmas.Option.{slice_get_read}
use Rattle.pr_value.specs.Symbols.{Symbol}
use Rattle.pr_value.specs.Values.{members_in}
use Rattle.pr_value.specs.declared.value.Value.{Value}
use Rattle.pr_value.specs.declared.value.Value.TheVariants as value
use Rattle.rule_ast.specs.declared.expr.Expr as rust
use Rattle.rule_ast.specs.declared.expr.Expr.TheVariants as variant
use Rattle.rule_ast.specs.declared.expr.FoldKind.{FoldKind}
use Rattle.rule_ast.specs.declared.table.Builtin.{Builtin}
use Rattle.rule_ast.specs.declared.parts.Helper as helper
use Rattle.rule_ast.specs.declared.parts.Param.{Param}
use Rattle.rule_ast.specs.Seen.{seen_expr, seen_helper, exprs_of}
use Rattle.rule_ast.specs.Syntax.{Expr}
use Rattle.rule_ast.specs.Syntax as syntax
use Rattle.rule_ast.specs.Typing.{builtin_of}
use Rattle.rule_ast.proofs.SeenLaws.{seen_number, seen_truth, seen_symbol, seen_set, seen_list, seen_call, seen_fold}
use Rattle.action_eval.specs.Builtins.{at, builtin_value, meant}
use Rattle.action_eval.specs.Machine.{World, State, Task, Frame, eval, make, turns, turn, leave, member, body, set, list, call, fold, ended, ended_from, later, made, value_in_frame, steps_in_frame, evals, turns_at, helpers_in, StepsFrom, Calls, CallsHelper}
use Rattle.action_eval.specs.Meaning.{functions, no_calls, value_by, with_helpers}
use Rattle.action_eval.specs.Names.{IsLatest}
use Rattle.action_eval.specs.Steps.{call_steps, no_steps, passed, steps_by, with_helpers_steps}
use Rattle.action_eval.proofs.HelperLaws.{body_scope, helper-value, with_helpers-none}
use Rattle.action_eval.proofs.StepCounts.{helper-steps, steps-none}
use Rattle.action_eval.proofs.MachineLaws.{later-both, set-step, list-step, call-step, fold-step, turns-step, turn-step, length-values, evals-push, turns_at-push}

pub on-ok : {A E P Q : Type 0} (r : Result A E) → OnOk r P → (P → Q) → OnOk r Q
on-ok (Ok x) p f = f p
on-ok (Err e) p f = tt

module _ (w : World) (s s' : State) where
  -- a step to a state that is equal to another
  step-to : (t : Task) (x : State) → s' ≡ x → ended w (t ∷ s.tasks) s.frames s.values ≡ later w 1 (ended_from w x) → StepsFrom w t s s'
  step-to t x same is = is ∙ ap (λ y. later w 1 (ended_from w y)) (sym same)

  -- and of an expression that is seen as another
  step-of : (e : rust.Expr) (x : Expr) → seen_expr e ≡ x → StepsFrom w (eval x) s s' → StepsFrom w (eval (seen_expr e)) s s'
  step-of e x seen is = ap (λ y. ended w (eval y ∷ s.tasks) s.frames s.values) seen ∙ is

  abbrev pushed_value : Value → State
  pushed_value v = record s { values = v ∷ s.values }

  -- ---- expressions that have their value at once

  pub number-done : (e : rust.Expr) (n : ℕ) → e ≡ variant.Number n → s' ≡ pushed_value (value.Num n) → StepsFrom w (eval (seen_expr e)) s s'
  number-done e n is same = step-of e (syntax.number n) (ap seen_expr is ∙ seen_number n) (step-to (eval (syntax.number n)) _ same refl)

  pub truth-done : (e : rust.Expr) (b : Bool) → e ≡ variant.Truth b → s' ≡ pushed_value (value.Truth b) → StepsFrom w (eval (seen_expr e)) s s'
  truth-done e b is same = step-of e (syntax.truth b) (ap seen_expr is ∙ seen_truth b) (step-to (eval (syntax.truth b)) _ same refl)

  pub symbol-done : (e : rust.Expr) (t u : Symbol) → e ≡ variant.Sym t → u ≡ t → s' ≡ pushed_value (value.Sym u) → StepsFrom w (eval (seen_expr e)) s s'
  symbol-done e t u is copied same =
      step-of e (syntax.symbol t) (ap seen_expr is ∙ seen_symbol t) (step-to (eval (syntax.symbol t)) (pushed_value (value.Sym t)) (same ∙ ap (λ x. pushed_value (value.Sym x)) copied) refl)

  -- ---- expressions that others come before

  pub set-begun : (e : rust.Expr) (es slice : List rust.Expr) → e ≡ variant.SetOf es → slice ≡ es → s' ≡ record s { tasks = evals (exprs_of (map seen_expr slice)) ++ make set (length slice) ∷ s.tasks } → StepsFrom w (eval (seen_expr e)) s s'
  set-begun e es slice is whole same =
      step-of e (syntax.set_of (exprs_of (map seen_expr slice))) (ap seen_expr is ∙ seen_set es ∙ ap (λ xs. syntax.set_of (exprs_of (map seen_expr xs))) (sym whole))
      (step-to (eval (syntax.set_of (exprs_of (map seen_expr slice)))) _ same (set-step w (exprs_of (map seen_expr slice)) (length slice) s.tasks s.frames s.values (length-values w s.frames slice)))

  pub list-begun : (e : rust.Expr) (es slice : List rust.Expr) → e ≡ variant.ListOf es → slice ≡ es → s' ≡ record s { tasks = evals (exprs_of (map seen_expr slice)) ++ make list (length slice) ∷ s.tasks } → StepsFrom w (eval (seen_expr e)) s s'
  list-begun e es slice is whole same =
      step-of e (syntax.list_of (exprs_of (map seen_expr slice))) (ap seen_expr is ∙ seen_list es ∙ ap (λ xs. syntax.list_of (exprs_of (map seen_expr xs))) (sym whole))
      (step-to (eval (syntax.list_of (exprs_of (map seen_expr slice)))) _ same (list-step w (exprs_of (map seen_expr slice)) (length slice) s.tasks s.frames s.values (length-values w s.frames slice)))

  pub call-begun : (e : rust.Expr) (f : Symbol) (es slice : List rust.Expr) → e ≡ variant.Call f es → slice ≡ es → s' ≡ record s { tasks = evals (exprs_of (map seen_expr slice)) ++ make (call f) (length slice) ∷ s.tasks } → StepsFrom w (eval (seen_expr e)) s s'
  call-begun e f es slice is whole same =
      step-of e (syntax.call f (exprs_of (map seen_expr slice))) (ap seen_expr is ∙ seen_call f es ∙ ap (λ xs. syntax.call f (exprs_of (map seen_expr xs))) (sym whole))
      (step-to (eval (syntax.call f (exprs_of (map seen_expr slice)))) _ same (call-step w f (exprs_of (map seen_expr slice)) (length slice) s.tasks s.frames s.values (length-values w s.frames slice)))

  pub fold-begun : (e over each first inner : rust.Expr) (k : FoldKind) (x : Symbol) → e ≡ variant.Fold k x over each → first ≡ over → inner ≡ each → s' ≡ record s { tasks = eval (seen_expr first) ∷ turns k x (seen_expr inner) ∷ s.tasks } → StepsFrom w (eval (seen_expr e)) s s'
  fold-begun e over each first inner k x is f b same =
      step-of e (syntax.fold k x (seen_expr first) (seen_expr inner)) (ap seen_expr is ∙ seen_fold k x over each ∙ ap₂ (λ y z. syntax.fold k x (seen_expr y) (seen_expr z)) (sym f) (sym b))
      (step-to (eval (syntax.fold k x (seen_expr first) (seen_expr inner))) _ same (fold-step w k x (seen_expr first) (seen_expr inner) s.tasks s.frames s.values))

  -- ---- folds

  pub turns-begun : (k : FoldKind) (x : Symbol) (e : Expr) (members : List Symbol) (n : ℕ) → members ≡ members_in (at s.values 0) → n ≡ length members + 1 → s' ≡ record s { tasks = turns_at x members e ++ make (fold k) n ∷ s.tasks } → StepsFrom w (turns k x e) s s'
  turns-begun k x e members n are long same =
      step-to (turns k x e) (record s { tasks = turns_at x (members_in (at s.values 0)) e ++ make (fold k) n ∷ s.tasks }) (same ∙ ap (λ ms. record s { tasks = turns_at x ms e ++ make (fold k) n ∷ s.tasks }) are)
      (turns-step w k x e n s.tasks s.frames s.values (let e = ap (λ (ms : List Symbol). length ms) are in omega (arith, e, long)))

  pub turn-begun : (x m : Symbol) (e : Expr) → s' ≡ record s { tasks = eval e ∷ leave ∷ s.tasks; frames = member x m ∷ s.frames } → StepsFrom w (turn x m e) s s'
  turn-begun x m e same = step-to (turn x m e) _ same (turn-step w x m e s.tasks s.frames s.values)

  -- ---- calls

  pub builtin-called : (f : Symbol) (args : List Value) (g : Builtin) (v : Value) → Some g ≡ builtin_of f → v ≡ builtin_value w.catalog g args → s' ≡ pushed_value v → Calls w f args s s'
  builtin-called f args g v is made same =
      let hs = map seen_helper (helpers_in w s.frames) in
      ap (λ o. later w (1 + passed o (with_helpers_steps w.layout w.catalog no_calls no_steps hs) f args) (ended w s.tasks s.frames (meant w.catalog (with_helpers w.layout w.catalog no_calls hs) o f args ∷ s.values))) (sym is)
      ∙ ap (λ y. later w 1 (ended_from w y)) (sym (same ∙ ap pushed_value made))

  -- a helper's body is evaluated in a frame of its own
  pub helper-entered : (f : Symbol) (args : List Value) (seen : List helper.Helper) (i : ℕ) (h : helper.Helper) (ps : List Param) → seen ≡ helpers_in w s.frames → take i seen ≡ take i w.helpers → IsLatest seen f i → h ≡ get_or seen i h → ps ≡ h.params
      → s' ≡ record s { tasks = eval (seen_expr h.body) ∷ leave ∷ s.tasks; frames = body ps args i ∷ s.frames } → CallsHelper w f args s s'
  helper-entered f args seen i h ps all front latest here params same =
      let named = latest.named h (slice_get_read seen _ i h refl latest.within here) in
      let inside : List Frame = body ps args i ∷ s.frames in
      let r : Value → Value × ℕ = λ v. ended w s.tasks s.frames (v ∷ s.values) in
      let n = steps_in_frame w inside (seen_expr h.body) in
      let v = value_in_frame w inside (seen_expr h.body) in
      let value : with_helpers w.layout w.catalog no_calls (map seen_helper (helpers_in w s.frames)) f args ≡ v =
      ap (λ (hs : List helper.Helper). with_helpers w.layout w.catalog no_calls (map seen_helper hs) f args) (sym all)
      ∙ helper-value w.layout w.catalog seen i h f args latest.within here named latest.latest
      ∙ ap₂ (λ (hs : List helper.Helper) (qs : List Param). value_by w.layout (functions w.layout (map seen_helper hs) w.catalog) (body_scope qs args) (seen_expr h.body)) front (sym params)
      in
      let steps : with_helpers_steps w.layout w.catalog no_calls no_steps (map seen_helper (helpers_in w s.frames)) f args ≡ 1 + n =
      ap (λ (hs : List helper.Helper). with_helpers_steps w.layout w.catalog no_calls no_steps (map seen_helper hs) f args) (sym all)
      ∙ helper-steps w.layout w.catalog seen i h f args latest.within here named latest.latest
      ∙ ap₂ (λ (hs : List helper.Helper) (qs : List Param). 1 + steps_by w.layout (functions w.layout (map seen_helper hs) w.catalog) (call_steps w.layout (map seen_helper hs) w.catalog) (body_scope qs args) (seen_expr h.body)) front (sym params)
      in
      ap₂ (λ (k : ℕ) (x : Value). later w (1 + k) (r x)) steps value
      ∙ later-both w 1 (n + 1) (1 + (1 + n)) (r v) (omega arith) ∙ ap (later w 1) (later-both w n 1 _ (r v) refl)
      ∙ ap (λ y. later w 1 (ended_from w y)) (sym same)

  -- no helper that is seen has the name
  pub nothing-called : (f : Symbol) (args : List Value) (seen : List helper.Helper) → seen ≡ helpers_in w s.frames → list_any (λ h. bytes_eq h.name f) seen ≡ false → s' ≡ pushed_value (value.Num 0) → CallsHelper w f args s s'
  nothing-called f args seen all none same =
      ap₂ (λ (k : ℕ) (x : Value). later w (1 + k) (ended w s.tasks s.frames (x ∷ s.values)))
      (ap (λ (hs : List helper.Helper). with_helpers_steps w.layout w.catalog no_calls no_steps (map seen_helper hs) f args) (sym all) ∙ steps-none w.layout w.catalog seen f args none)
      (ap (λ (hs : List helper.Helper). with_helpers w.layout w.catalog no_calls (map seen_helper hs) f args) (sym all) ∙ with_helpers-none w.layout w.catalog seen f args none)
      ∙ ap (λ y. later w 1 (ended_from w y)) (sym same)

  -- the name is no built-in function's
  pub helper-called : (f : Symbol) (args : List Value) → None ≡ builtin_of f → CallsHelper w f args s s' → Calls w f args s s'
  helper-called f args is calls =
      let hs = map seen_helper (helpers_in w s.frames) in
      ap (λ o. later w (1 + passed o (with_helpers_steps w.layout w.catalog no_calls no_steps hs) f args) (ended w s.tasks s.frames (meant w.catalog (with_helpers w.layout w.catalog no_calls hs) o f args ∷ s.values))) (sym is) ∙ calls

-- helpers before those that are seen
pub take-within : {A : Type 0} (xs : List A) (i k : ℕ) → i < length (take k xs) → take i (take k xs) ≡ take i xs
take-within [] i zero within = refl
take-within [] i (suc k) within = refl
take-within (x ∷ xs) i zero within = absurd (omega (arith, within))
take-within (x ∷ xs) zero (suc k) within = refl
take-within (x ∷ xs) (suc i) (suc k) within = ap (λ ys. x ∷ ys) (take-within xs i k (omega (arith, within)))

-- ---- loops

-- one more expression is pushed, and all are
pub evals-left : (s s' all : State) (rest before : List rust.Expr) (e : rust.Expr) → rest ≡ before ++ e ∷ [] → s' ≡ record s { tasks = eval (seen_expr e) ∷ s.tasks } → record s { tasks = evals (exprs_of (map seen_expr rest)) ++ s.tasks } ≡ all
    → record s' { tasks = evals (exprs_of (map seen_expr before)) ++ s'.tasks } ≡ all
evals-left s s' all rest before e cut pushed so_far =
    ap (λ (t : State). record t { tasks = evals (exprs_of (map seen_expr before)) ++ t.tasks }) pushed
    ∙ sym (ap (λ (ts : List Task). record s { tasks = ts }) (ap (λ (es : List rust.Expr). evals (exprs_of (map seen_expr es)) ++ s.tasks) cut ∙ evals-push before e s.tasks))
    ∙ so_far

pub turns-left : (x : Symbol) (e : Expr) (s s' all : State) (rest before : List Symbol) (m n : Symbol) → rest ≡ before ++ m ∷ [] → n ≡ m → s' ≡ record s { tasks = turn x n e ∷ s.tasks } → record s { tasks = turns_at x rest e ++ s.tasks } ≡ all
    → record s' { tasks = turns_at x before e ++ s'.tasks } ≡ all
turns-left x e s s' all rest before m n cut copied pushed so_far =
    ap (λ (t : State). record t { tasks = turns_at x before e ++ t.tasks }) (pushed ∙ ap (λ (k : Symbol). record s { tasks = turn x k e ∷ s.tasks }) copied)
    ∙ sym (ap (λ (ts : List Task). record s { tasks = ts }) (ap (λ (ms : List Symbol). turns_at x ms e ++ s.tasks) cut ∙ turns_at-push x before m e s.tasks))
    ∙ so_far

-- the turns of a fold go on top of what is made of their values
pub turns-pushed : (s s1 s2 : State) (x : Symbol) (e : Expr) (members slice : List Symbol) (k : FoldKind) (n : ℕ) → slice ≡ members
    → s1 ≡ record s { tasks = make (fold k) n ∷ s.tasks } → s2 ≡ record s1 { tasks = turns_at x slice e ++ s1.tasks }
    → s2 ≡ record s { tasks = turns_at x members e ++ make (fold k) n ∷ s.tasks }
turns-pushed s s1 s2 x e members slice k n are first second =
    second ∙ ap₂ (λ (ms : List Symbol) (t : State). record t { tasks = turns_at x ms e ++ t.tasks }) are first

-- a task that is taken off, and done
pub run-on : (w : World) (old mid new : State) (t : Task) → old ≡ record mid { tasks = t ∷ mid.tasks } → StepsFrom w t mid new → ended_from w old ≡ later w 1 (ended_from w new)
run-on w old mid new t taken step = ap (ended_from w) taken ∙ step

-- ---- tasks that are pushed one after another

abbrev pub with_task : Task → State → State
with_task t s = record s { tasks = t ∷ s.tasks }

pub pushed-two : (s s1 s2 : State) (a b : Task) → s1 ≡ with_task b s → s2 ≡ with_task a s1 → s2 ≡ record s { tasks = a ∷ b ∷ s.tasks }
pushed-two s s1 s2 a b first second = second ∙ ap (with_task a) first
