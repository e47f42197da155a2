-- The readers of statements and declarations read what is spelled, and nothing else.
use Rattle.std.proofs.Common.{map, ◌≡◌, ℕ, ◌≤◌, true, List, ◌∷◌, ◌++◌, length, Some, refl, sym, ap, ◌∙◌, subst, arith, append_assoc}
use Rattle.std.specs.Prelude.{⊤, ◌&&◌, nat_le, flat_map, codes}
use Rattle.std.specs.List.{list_all}
use Rattle.pr_value.specs.Capped.{cap}
use Rattle.pr_value.specs.Symbols.{Symbol}
use Rattle.pr_value.specs.declared.kind.Kind.{Kind}
use Rattle.pr_value.specs.declared.token.Token.TheVariants as token
use Rattle.pr_value.specs.declared.token.Mark.TheVariants as mark
use Rattle.pr_value.specs.declared.property.Property.{Property}
use Rattle.rule_ast.specs.declared.parts.Algorithm.{Algorithm}
use Rattle.rule_ast.specs.declared.parts.Param.{Param}
use Rattle.rule_ast.specs.Syntax.{Expr, Stmt, set, copy, Body, Operator, Helper}
use Rattle.rule_syntax.specs.Tokens.{Text, m, name, commas, kind_name, expr_tokens, stmt_tokens, block, body_tokens, property_tokens, operator_tokens, algorithm_tokens, param_tokens, helper_tokens}
use Rattle.rule_ast.specs.Spelled.{is_free, has_some, spells_expr, spells_stmt, spells_body, spells_property, spells_operator, spells_algorithm, spells_param, spells_helper}
use Rattle.rule_syntax.specs.Levels.{most, stmt_levels, body_levels, operator_levels, helper_levels}
use Rattle.rule_syntax.specs.Reading.{unmarked, name_at}
use Rattle.rule_syntax.specs.ReadingParts.{assigned_at, changed_at, stmt_at, block_at, body_at, property_at, operator_at, algorithm_at, param_at, signature_at, helper_at}
use Rattle.rule_syntax.proofs.TokenLaws.{on_some, some_same, both_true, and_true, mark_sound, word_sound, name_sound, name_complete, number_sound, number_complete, kind_sound, kind_complete}
use Rattle.rule_syntax.proofs.ListLaws.{Sound, Complete, Every, Good, Closes, filled_sound, filled_complete, closed_sound, closed_complete, many_sound, many_complete, many_length, all_every, every_all, good_every, every_spelled, every_shallow}
use Rattle.rule_syntax.proofs.ExprLaws.{GoodExpr, step, expr_sound, expr_complete}

-- whatever may follow
abbrev pub Any : Text → Type 0
Any ts = ⊤

-- statements
abbrev pub GoodStmt : ℕ → Stmt → Type 0
GoodStmt n = Good spells_stmt stmt_levels n

good_set : (n : ℕ) (d p : Symbol) (e : Expr) → is_free d ≡ true → is_free p ≡ true → GoodExpr n e → GoodStmt n (set d p e)
good_set n d p e a b g = record { spelled = and_true (is_free d && is_free p) (spells_expr e) (and_true (is_free d) (is_free p) a b) g.spelled; shallow = g.shallow }

set_text : (d p : Symbol) (e : Expr) (rest : Text) → stmt_tokens (set d p e) ++ rest
    ≡ token.Name d ∷ token.Mark mark.Dot ∷ token.Name p ∷ token.Mark mark.Assign ∷ (expr_tokens e ++ token.Mark mark.Semicolon ∷ rest)
set_text d p e rest = simp append_assoc

assigned_sound : (n : ℕ) (ts : Text) (x : Expr × Text) → assigned_at n ts ≡ Some x → GoodExpr n x.0 × (ts ≡ token.Mark mark.Assign ∷ (expr_tokens x.0 ++ token.Mark mark.Semicolon ∷ x.1))
unfolding assigned_at
assigned_sound n ts x e =
    on_some _ _ x e (λ r h1 e. on_some _ _ x e (λ v h2 e. on_some _ _ x e (λ s h3 e.
    let sv = expr_sound n r v h2 in
    subst (λ (y : Expr × Text). GoodExpr n y.0 × (ts ≡ token.Mark mark.Assign ∷ (expr_tokens y.0 ++ token.Mark mark.Semicolon ∷ y.1))) (some_same (v.0, s) x e) (
      sv.0,
      mark_sound mark.Assign ts r h1 ∙ ap (λ us. token.Mark mark.Assign ∷ us) (sv.1 ∙ ap (λ us. expr_tokens v.0 ++ us) (mark_sound mark.Semicolon v.1 s h3)),
    ))))

assigned_complete : (n : ℕ) (v : Expr) → GoodExpr n v → (rest : Text) → assigned_at n (token.Mark mark.Assign ∷ (expr_tokens v ++ token.Mark mark.Semicolon ∷ rest)) ≡ Some (v, rest)
unfolding assigned_at
assigned_complete n v good rest = step _ _ _ _ (expr_complete n v good (token.Mark mark.Semicolon ∷ rest) refl) refl

changed_sound : (n : ℕ) (d : Symbol) → is_free d ≡ true → (ts : Text) (x : Stmt × Text) → changed_at n d ts ≡ Some x → GoodStmt n x.0 × (token.Name d ∷ ts ≡ stmt_tokens x.0 ++ x.1)
unfolding changed_at
changed_sound n d free (token.Mark mark.Dot ∷ ts) x e =
    on_some _ _ x e (λ p h1 e. on_some _ _ x e (λ v h2 e.
    let sp = name_sound ts p h1 in
    let sv = assigned_sound n p.1 v h2 in
    subst (λ (y : Stmt × Text). GoodStmt n y.0 × (token.Name d ∷ token.Mark mark.Dot ∷ ts ≡ stmt_tokens y.0 ++ y.1)) (some_same (set d p.0 v.0, v.1) x e) (
      good_set n d p.0 v.0 free (sp.0) (sv.0),
      rw (sp.1, sv.1) (sym (set_text d p.0 v.0 v.1)),
    )))
changed_sound n d free (token.Mark mark.Assign ∷ ts) x e =
    on_some _ _ x e (λ p h1 e. on_some _ _ x e (λ s h2 e.
    let sp = name_sound ts p h1 in
    subst (λ (y : Stmt × Text). GoodStmt n y.0 × (token.Name d ∷ token.Mark mark.Assign ∷ ts ≡ stmt_tokens y.0 ++ y.1)) (some_same (copy d p.0, s) x e) (
      record { spelled = and_true (is_free d) (is_free p.0) free (sp.0); shallow = omega arith },
      ap (λ us. token.Name d ∷ token.Mark mark.Assign ∷ us) (sp.1 ∙ ap (λ us. token.Name p.0 ∷ us) (mark_sound mark.Semicolon p.1 s h2)),
    )))
changed_sound n d free ts x e = cc

pub stmt_sound : (n : ℕ) → Sound stmt_tokens (GoodStmt n) (stmt_at n)
stmt_sound n ts x e =
    on_some _ _ x e (λ d h e.
    let sd = name_sound ts d h in
    let s = changed_sound n d.0 (sd.0) d.1 x e in (s.0, sd.1 ∙ s.1))

set_complete : (n : ℕ) (d p : Symbol) (v : Expr) → is_free p ≡ true → GoodExpr n v → (rest : Text)
    → changed_at n d (token.Mark mark.Dot ∷ token.Name p ∷ token.Mark mark.Assign ∷ (expr_tokens v ++ token.Mark mark.Semicolon ∷ rest)) ≡ Some (set d p v, rest)
unfolding changed_at
set_complete n d p v free good rest =
    step _ _ _ _ (name_complete p (token.Mark mark.Assign ∷ (expr_tokens v ++ token.Mark mark.Semicolon ∷ rest)) free) (step _ _ _ _ (assigned_complete n v good rest) refl)

copy_complete : (n : ℕ) (d e : Symbol) → is_free e ≡ true → (rest : Text) → changed_at n d (token.Mark mark.Assign ∷ token.Name e ∷ token.Mark mark.Semicolon ∷ rest) ≡ Some (copy d e, rest)
unfolding changed_at
copy_complete n d e free rest = step _ _ _ _ (name_complete e (token.Mark mark.Semicolon ∷ rest) free) refl

pub stmt_complete : (n : ℕ) → Complete stmt_tokens (GoodStmt n) Any (stmt_at n)
stmt_complete n (set d p v) good rest any =
    let b = both_true (is_free d && is_free p) (spells_expr v) good.spelled in
    let f = both_true (is_free d) (is_free p) (b.0) in
    let behind = token.Mark mark.Dot ∷ token.Name p ∷ token.Mark mark.Assign ∷ (expr_tokens v ++ token.Mark mark.Semicolon ∷ rest) in
    ap (stmt_at n) (set_text d p v rest) ∙ step _ _ _ _ (name_complete d behind (f.0)) (set_complete n d p v (f.1) (record { spelled = b.1; shallow = good.shallow }) rest)
stmt_complete n (copy d e) good rest any =
    let f = both_true (is_free d) (is_free e) good.spelled in
    step _ _ _ _ (name_complete d (token.Mark mark.Assign ∷ token.Name e ∷ token.Mark mark.Semicolon ∷ rest) (f.0)) (copy_complete n d e (f.1) rest)

some_stmt : (s : Stmt) → 1 ≤ length (stmt_tokens s)
some_stmt (set d p e) = omega arith
some_stmt (copy d e) = omega arith

no_brace : (s : Stmt) (ts : Text) → unmarked mark.CloseBrace (stmt_tokens s ++ ts) ≡ true
no_brace (set d p e) ts = refl
no_brace (copy d e) ts = refl

-- blocks and bodies
abbrev pub GoodBlock : ℕ → List Stmt → Type 0
GoodBlock n = Good (list_all spells_stmt) (most stmt_levels) n

pub block_sound : (n : ℕ) → Sound block (GoodBlock n) (block_at n)
unfolding block_at
block_sound n ts x e =
    on_some _ _ x e (λ r h1 e. on_some _ _ x e (λ ss h2 e. on_some _ _ x e (λ t h3 e.
    let p = many_sound stmt_tokens (GoodStmt n) (unmarked mark.CloseBrace) (stmt_at n) (stmt_sound n) (length r) r ss h2 in
    subst (λ (y : List Stmt × Text). GoodBlock n y.0 × (ts ≡ block y.0 ++ y.1)) (some_same (ss.0, t) x e) (
      record { spelled = every_spelled spells_stmt stmt_levels n ss.0 (p.0); shallow = every_shallow spells_stmt stmt_levels n ss.0 (p.0) },
      rw (mark_sound mark.OpenBrace ts r h1, p.1, mark_sound mark.CloseBrace ss.1 t h3) (ap (λ us. token.Mark mark.OpenBrace ∷ us) (sym (append_assoc (flat_map stmt_tokens ss.0) (m mark.CloseBrace) t))),
    ))))

pub block_complete : (n : ℕ) → Complete block (GoodBlock n) Any (block_at n)
unfolding block_at
block_complete n ss good rest any =
    let behind = token.Mark mark.CloseBrace ∷ rest in
    let text = flat_map stmt_tokens ss ++ behind in
    let all = good_every spells_stmt stmt_levels n ss good.spelled good.shallow in
    ap (λ us. block_at n (token.Mark mark.OpenBrace ∷ us)) (append_assoc (flat_map stmt_tokens ss) (m mark.CloseBrace) rest) ∙
    step _ _ _ _ (many_complete stmt_tokens (GoodStmt n) Any (unmarked mark.CloseBrace) (stmt_at n) (stmt_complete n) (λ ts. tt) no_brace (length text) ss all (many_length stmt_tokens some_stmt ss behind) behind refl) refl

abbrev pub GoodBody : ℕ → Body → Type 0
GoodBody n = Good spells_body body_levels n

-- six texts in a row
body_row : (a p b t c q rest : Text) → a ++ p ++ b ++ t ++ c ++ q ++ rest ≡ a ++ (p ++ (b ++ (t ++ (c ++ (q ++ rest)))))
body_row a p b t c q rest = simp append_assoc

body_text : (b : Body) (rest : Text) → body_tokens b ++ rest ≡ token.Name (codes "pre") ∷ (block b.pre ++ token.Name (codes "test") ∷ (expr_tokens b.test ++ token.Name (codes "post") ∷ (block b.post ++ rest)))
body_text b rest = body_row (name (codes "pre")) (block b.pre) (name (codes "test")) (expr_tokens b.test) (name (codes "post")) (block b.post) rest

good_body : (n : ℕ) (pre : List Stmt) (test : Expr) (post : List Stmt) → GoodBlock n pre → GoodExpr n test → GoodBlock n post → GoodBody n (record { pre = pre; test = test; post = post })
good_body n pre test post a b c =
    let la = a.shallow in
    let lb = b.shallow in
    let lc = c.shallow in
    record {
      spelled = and_true (list_all spells_stmt pre && spells_expr test) (list_all spells_stmt post) (and_true (list_all spells_stmt pre) (spells_expr test) a.spelled b.spelled) c.spelled;
      shallow = omega (arith, la, lb, lc);
    }

pub body_sound : (n : ℕ) → Sound body_tokens (GoodBody n) (body_at n)
body_sound n ts x e =
    on_some _ _ x e (λ r h1 e. on_some _ _ x e (λ pre h2 e. on_some _ _ x e (λ s h3 e. on_some _ _ x e (λ t h4 e. on_some _ _ x e (λ u h5 e. on_some _ _ x e (λ post h6 e.
    let sa = block_sound n r pre h2 in
    let sb = expr_sound n s t h4 in
    let sc = block_sound n u post h6 in
    subst (λ (y : Body × Text). GoodBody n y.0 × (ts ≡ body_tokens y.0 ++ y.1)) (some_same (record { pre = pre.0; test = t.0; post = post.0 }, post.1) x e) (
      good_body n pre.0 t.0 post.0 (sa.0) (sb.0) (sc.0),
      rw (word_sound (codes "pre") ts r h1, sa.1, word_sound (codes "test") pre.1 s h3, sb.1, word_sound (codes "post") t.1 u h5, sc.1) (sym (body_text (record { pre = pre.0; test = t.0; post = post.0 }) post.1)),
    )))))))

pub body_complete : (n : ℕ) → Complete body_tokens (GoodBody n) Any (body_at n)
body_complete n b good rest any =
    let g = both_true (list_all spells_stmt b.pre && spells_expr b.test) (list_all spells_stmt b.post) good.spelled in
    let f = both_true (list_all spells_stmt b.pre) (spells_expr b.test) (g.0) in
    let s = good.shallow in
    let behind_test = token.Name (codes "post") ∷ (block b.post ++ rest) in
    let behind_pre = token.Name (codes "test") ∷ (expr_tokens b.test ++ behind_test) in
    ap (body_at n) (body_text b rest) ∙
    step _ _ _ _ (block_complete n b.pre (record { spelled = f.0; shallow = omega (arith, s) }) behind_pre tt)
    (step _ _ _ _ (expr_complete n b.test (record { spelled = f.1; shallow = omega (arith, s) }) behind_test refl)
    (step _ _ _ _ (block_complete n b.post (record { spelled = g.1; shallow = omega (arith, s) }) rest tt) refl))

-- declarations
abbrev pub GoodProperty : Property → Type 0
GoodProperty p = spells_property p ≡ true

pub property_sound : Sound property_tokens GoodProperty property_at
property_sound ts x e =
    on_some _ _ x e (λ r h1 e. on_some _ _ x e (λ n h2 e. on_some _ _ x e (λ s h3 e. on_some _ _ x e (λ (k : Kind × Text) h4 e. on_some _ _ x e (λ t h5 e.
    let sn = name_sound r n h2 in
    subst (λ (y : Property × Text). GoodProperty y.0 × (ts ≡ property_tokens y.0 ++ y.1)) (some_same (record { name = n.0; kind = k.0 }, t) x e)
    (sn.0, rw (word_sound (codes "property") ts r h1, sn.1, mark_sound mark.Colon n.1 s h3, kind_sound s k h4, mark_sound mark.Semicolon k.1 t h5) refl))))))

pub property_complete : Complete property_tokens GoodProperty Any property_at
property_complete p good rest any =
    let behind = token.Mark mark.Semicolon ∷ rest in
    step _ _ _ _ (name_complete p.name (token.Mark mark.Colon ∷ token.Name (kind_name p.kind) ∷ behind) good) (step _ _ _ _ (kind_complete p.kind behind) refl)

abbrev pub GoodAlgorithm : Algorithm → Type 0
GoodAlgorithm a = spells_algorithm a ≡ true

pub algorithm_sound : Sound algorithm_tokens GoodAlgorithm algorithm_at
algorithm_sound ts x e =
    on_some _ _ x e (λ r h1 e. on_some _ _ x e (λ a h2 e. on_some _ _ x e (λ s h3 e. on_some _ _ x e (λ k h4 e. on_some _ _ x e (λ t h5 e.
    let sa = name_sound r a h2 in
    let sk = number_sound s k h4 in
    subst (λ (y : Algorithm × Text). GoodAlgorithm y.0 × (ts ≡ algorithm_tokens y.0 ++ y.1)) (some_same (record { name = a.0; arity = k.0 }, t) x e) (
      and_true (is_free a.0) (nat_le k.0 cap) (sa.0) (sk.0),
      rw (word_sound (codes "algorithm") ts r h1, sa.1, mark_sound mark.Slash a.1 s h3, sk.1, mark_sound mark.Semicolon k.1 t h5) refl,
    ))))))

pub algorithm_complete : Complete algorithm_tokens GoodAlgorithm Any algorithm_at
algorithm_complete a good rest any =
    let g = both_true (is_free a.name) (nat_le a.arity cap) good in
    let behind = token.Mark mark.Semicolon ∷ rest in
    step _ _ _ _ (name_complete a.name (token.Mark mark.Slash ∷ token.Number a.arity ∷ behind) (g.0)) (step _ _ _ _ (number_complete a.arity behind (g.1)) refl)

-- operators
abbrev Free : Symbol → Type 0
Free s = is_free s ≡ true

view_complete : Complete name Free Any name_at
view_complete s free rest any = name_complete s rest free

closes_views : Closes name Any mark.CloseParen
closes_views = record { itself = λ rest. refl; no_comma = λ rest. refl; no_part = λ s rest. refl; ends = λ rest. tt }

some_view : (s : Symbol) → 1 ≤ length (name s)
some_view s = omega arith

abbrev pub GoodOperator : ℕ → Operator → Type 0
GoodOperator n = Good spells_operator operator_levels n

good_operator : (n : ℕ) (o : Symbol) (views : List Symbol) (own : Symbol) (init : List Stmt) → is_free o ≡ true → has_some views ≡ true → Every Free views → is_free own ≡ true → GoodBlock n init
    → GoodOperator n (record { name = o; views = views; own = own; init = init })
good_operator n o views own init a b c d g =
    let all = every_all is_free views c in
    record {
      spelled =
          and_true (is_free o && has_some views && list_all is_free views && is_free own) (list_all spells_stmt init)
          (and_true (is_free o && has_some views && list_all is_free views) (is_free own) (and_true (is_free o && has_some views) (list_all is_free views) (and_true (is_free o) (has_some views) a b) all) d) g.spelled;
      shallow = g.shallow;
    }

operator_row : (o own : Symbol) (c b rest : Text) → name (codes "operator") ++ name o ++ (m mark.OpenParen ++ c ++ m mark.CloseParen) ++ m mark.Colon ++ name own ++ b ++ rest
    ≡ token.Name (codes "operator") ∷ token.Name o ∷ token.Mark mark.OpenParen ∷ (c ++ token.Mark mark.CloseParen ∷ token.Mark mark.Colon ∷ token.Name own ∷ (b ++ rest))
operator_row o own c b rest = simp append_assoc

operator_text : (o : Operator) (rest : Text) → operator_tokens o ++ rest
    ≡ token.Name (codes "operator") ∷ token.Name o.name ∷ token.Mark mark.OpenParen ∷ (commas (map name o.views) ++ token.Mark mark.CloseParen ∷ token.Mark mark.Colon ∷ token.Name o.own ∷ (block o.init ++ rest))
operator_text o rest = operator_row o.name o.own (commas (map name o.views)) (block o.init) rest

pub operator_sound : (n : ℕ) → Sound operator_tokens (GoodOperator n) (operator_at n)
operator_sound n ts x e =
    on_some _ _ x e (λ r h1 e. on_some _ _ x e (λ o h2 e. on_some _ _ x e (λ s h3 e. on_some _ _ x e (λ vs h4 e. on_some _ _ x e (λ t h5 e. on_some _ _ x e (λ own h6 e. on_some _ _ x e (λ init h7 e.
    let so = name_sound r o h2 in
    let sv = filled_sound name Free name_at name_sound mark.CloseParen s vs h4 in
    let sn = name_sound t own h6 in
    let si = block_sound n own.1 init h7 in
    subst (λ (y : Operator × Text). GoodOperator n y.0 × (ts ≡ operator_tokens y.0 ++ y.1)) (some_same (record { name = o.0; views = vs.0; own = own.0; init = init.0 }, init.1) x e) (
      good_operator n o.0 vs.0 own.0 init.0 (so.0) sv.some sv.every (sn.0) (si.0),
      rw (word_sound (codes "operator") ts r h1, so.1, mark_sound mark.OpenParen o.1 s h3, sv.text, mark_sound mark.Colon vs.1 t h5, sn.1, si.1)
          (sym (operator_text (record { name = o.0; views = vs.0; own = own.0; init = init.0 }) init.1)),
    ))))))))

pub operator_complete : (n : ℕ) → Complete operator_tokens (GoodOperator n) Any (operator_at n)
operator_complete n o good rest any =
    let a = both_true (is_free o.name && has_some o.views && list_all is_free o.views && is_free o.own) (list_all spells_stmt o.init) good.spelled in
    let b = both_true (is_free o.name && has_some o.views && list_all is_free o.views) (is_free o.own) (a.0) in
    let c = both_true (is_free o.name && has_some o.views) (list_all is_free o.views) (b.0) in
    let d = both_true (is_free o.name) (has_some o.views) (c.0) in
    let behind_own = block o.init ++ rest in
    let behind_views = token.Mark mark.Colon ∷ token.Name o.own ∷ behind_own in
    ap (operator_at n) (operator_text o rest) ∙
    step _ _ _ _ (name_complete o.name (token.Mark mark.OpenParen ∷ (commas (map name o.views) ++ token.Mark mark.CloseParen ∷ behind_views)) (d.0))
    (step _ _ _ _ (filled_complete name Free Any name_at view_complete (λ ts. tt) some_view mark.CloseParen closes_views o.views (d.1) (all_every is_free o.views (c.1)) behind_views)
    (step _ _ _ _ (name_complete o.own behind_own (b.1)) (step _ _ _ _ (block_complete n o.init (record { spelled = a.1; shallow = good.shallow }) rest tt) refl)))

-- helpers
abbrev GoodParam : Param → Type 0
GoodParam p = spells_param p ≡ true

param_sound : Sound param_tokens GoodParam param_at
param_sound ts x e =
    on_some _ _ x e (λ n h1 e. on_some _ _ x e (λ r h2 e. on_some _ _ x e (λ (k : Kind × Text) h3 e.
    let sn = name_sound ts n h1 in
    subst (λ (y : Param × Text). GoodParam y.0 × (ts ≡ param_tokens y.0 ++ y.1)) (some_same (record { name = n.0; kind = k.0 }, k.1) x e) (sn.0, rw (sn.1, mark_sound mark.Colon n.1 r h2, kind_sound r k h3) refl))))

param_complete : Complete param_tokens GoodParam Any param_at
param_complete p good rest any = step _ _ _ _ (name_complete p.name (token.Mark mark.Colon ∷ token.Name (kind_name p.kind) ∷ rest) good) (step _ _ _ _ (kind_complete p.kind rest) refl)

closes_params : Closes param_tokens Any mark.CloseParen
closes_params = record { itself = λ rest. refl; no_comma = λ rest. refl; no_part = λ p rest. refl; ends = λ rest. tt }

some_param : (p : Param) → 1 ≤ length (param_tokens p)
some_param p = omega arith

abbrev pub GoodHelper : ℕ → Helper → Type 0
GoodHelper n = Good spells_helper helper_levels n

good_helper : (n : ℕ) (h : Symbol) (params : List Param) (result : Kind) (body : Expr) → is_free h ≡ true → Every GoodParam params → GoodExpr n body
    → GoodHelper n (record { name = h; params = params; result = result; body = body })
good_helper n h params result body free ps g = record {
  spelled = and_true (is_free h && list_all spells_param params) (spells_expr body) (and_true (is_free h) (list_all spells_param params) free (every_all spells_param params ps)) g.spelled;
  shallow = g.shallow;
}

helper_text : (h : Helper) (rest : Text) → helper_tokens h ++ rest
    ≡ token.Name (codes "helper") ∷ token.Name h.name ∷ token.Mark mark.OpenParen ∷ (commas (map param_tokens h.params) ++ token.Mark mark.CloseParen ∷ token.Mark mark.Colon ∷ token.Name (kind_name h.result) ∷ token.Mark mark.Assign ∷
    (expr_tokens h.body ++ token.Mark mark.Semicolon ∷ rest))
helper_text h rest = simp append_assoc

signature_sound : (ts : Text) (x : (Symbol × List Param) × Text) → signature_at ts ≡ Some x
    → (is_free x.0.0 ≡ true) × (Every GoodParam x.0.1 × (ts ≡ token.Name x.0.0 ∷ token.Mark mark.OpenParen ∷ (commas (map param_tokens x.0.1) ++ token.Mark mark.CloseParen ∷ x.1)))
unfolding signature_at
signature_sound ts x e =
    on_some _ _ x e (λ h h1 e. on_some _ _ x e (λ s h2 e. on_some _ _ x e (λ ps h3 e.
    let sn = name_sound ts h h1 in
    let sp = closed_sound param_tokens GoodParam param_at param_sound mark.CloseParen s ps h3 in
    subst (λ (y : (Symbol × List Param) × Text). (is_free y.0.0 ≡ true) × (Every GoodParam y.0.1 × (ts ≡ token.Name y.0.0 ∷ token.Mark mark.OpenParen ∷ (commas (map param_tokens y.0.1) ++ token.Mark mark.CloseParen ∷ y.1))))
    (some_same ((h.0, ps.0), ps.1) x e) (sn.0, (sp.0, sn.1 ∙ ap (λ us. token.Name h.0 ∷ us) (mark_sound mark.OpenParen h.1 s h2 ∙ ap (λ us. token.Mark mark.OpenParen ∷ us) (sp.1)))))))

signature_complete : (h : Symbol) (ps : List Param) → is_free h ≡ true → Every GoodParam ps → (rest : Text)
    → signature_at (token.Name h ∷ token.Mark mark.OpenParen ∷ (commas (map param_tokens ps) ++ token.Mark mark.CloseParen ∷ rest)) ≡ Some ((h, ps), rest)
unfolding signature_at
signature_complete h ps free good rest =
    step _ _ _ _ (name_complete h (token.Mark mark.OpenParen ∷ (commas (map param_tokens ps) ++ token.Mark mark.CloseParen ∷ rest)) free)
    (step _ _ _ _ (closed_complete param_tokens GoodParam Any param_at param_complete (λ ts. tt) some_param mark.CloseParen closes_params ps good rest) refl)

pub helper_sound : (n : ℕ) → Sound helper_tokens (GoodHelper n) (helper_at n)
helper_sound n ts x e =
    on_some _ _ x e (λ r h1 e. on_some _ _ x e (λ h h2 e. on_some _ _ x e (λ t h3 e. on_some _ _ x e (λ (k : Kind × Text) h4 e. on_some _ _ x e (λ b h5 e.
    let sh = signature_sound r h h2 in
    let sb = assigned_sound n k.1 b h5 in
    subst (λ (y : Helper × Text). GoodHelper n y.0 × (ts ≡ helper_tokens y.0 ++ y.1)) (some_same (record { name = h.0.0; params = h.0.1; result = k.0; body = b.0 }, b.1) x e) (
      good_helper n h.0.0 h.0.1 k.0 b.0 (sh.0) (sh.1.0) (sb.0),
      rw (word_sound (codes "helper") ts r h1, sh.1.1, mark_sound mark.Colon h.1 t h3, kind_sound t k h4, sb.1)
          (sym (helper_text (record { name = h.0.0; params = h.0.1; result = k.0; body = b.0 }) b.1)),
    ))))))

pub helper_complete : (n : ℕ) → Complete helper_tokens (GoodHelper n) Any (helper_at n)
helper_complete n h good rest any =
    let g = both_true (is_free h.name && list_all spells_param h.params) (spells_expr h.body) good.spelled in
    let f = both_true (is_free h.name) (list_all spells_param h.params) (g.0) in
    let behind_kind = token.Mark mark.Assign ∷ (expr_tokens h.body ++ token.Mark mark.Semicolon ∷ rest) in
    let behind_params = token.Mark mark.Colon ∷ token.Name (kind_name h.result) ∷ behind_kind in
    ap (helper_at n) (helper_text h rest) ∙
    step _ _ _ _ (signature_complete h.name h.params (f.0) (all_every spells_param h.params (f.1)) behind_params)
    (step _ _ _ _ (kind_complete h.result behind_kind) (step _ _ _ _ (assigned_complete n h.body (record { spelled = g.1; shallow = good.shallow }) rest) refl))
