-- The reader of a rule set reads what is spelled, and nothing else.
use Rattle.std.proofs.Common.{◌≡◌, ℕ, ◌≤◌, Bool, true, false, List, [], ◌∷◌, ◌++◌, length, Some, refl, sym, ap, ◌∙◌, subst, arith, append_assoc, append-nil}
use Rattle.std.specs.Prelude.{max, ◌&&◌, flat_map, codes}
use Rattle.std.specs.Str.{bytes_eq}
use Rattle.std.specs.List.{list_all}
use Rattle.std.proofs.lemmas.Bool.{eqb-true}
use Rattle.std.proofs.Math.Dec.{eqb}
use Rattle.pr_value.specs.Symbols.{Symbol}
use Rattle.pr_value.specs.Trees.{Tree}
use Rattle.pr_value.specs.declared.token.Token.TheVariants as token
use Rattle.pr_value.specs.declared.token.Mark.TheVariants as mark
use Rattle.pr_value.specs.declared.property.Property.{Property}
use Rattle.rule_ast.specs.declared.parts.Algorithm.{Algorithm}
use Rattle.rule_ast.specs.declared.sides.ImplSide.{ImplSide}
use Rattle.rule_ast.specs.Syntax.{LeftLabel, RightLabel, Body, Operator, Helper, TRule, IRule, Rules}
use Rattle.rule_syntax.specs.Tokens.{Text, m, name, left_tokens, right_tokens, impl_tokens, body_tokens, property_tokens, operator_tokens, algorithm_tokens, helper_tokens, trule_tokens, irule_tokens, tokens_of}
use Rattle.rule_ast.specs.Spelled.{is_free, spells_left, spells_right, spells_impl, spells_body, spells_property, spells_operator, spells_algorithm, spells_helper, spells_trule, spells_irule, spells}
use Rattle.rule_syntax.specs.Levels.{most_levels, left_levels, right_levels, operator_levels, helper_levels, trule_levels, irule_levels, rules_levels, IsRules}
use Rattle.rule_syntax.specs.Reading.{Reader, begins}
use Rattle.rule_syntax.specs.ReadingParts.{section_at, property_at, operator_at, algorithm_at, helper_at}
use Rattle.rule_syntax.specs.ReadingRules.{trule_at, irule_at, sections_at, rules_at}
use Rattle.rule_syntax.specs.DistinctRules.{DistinctRules}
use Rattle.rule_syntax.proofs.TokenLaws.{on_some, some_same, guard_some, both_true, and_true, mark_sound, word_sound, name_sound, name_complete}
use Rattle.rule_syntax.proofs.ListLaws.{Sound, Complete, Every, Good, many_sound, many_complete, many_length, all_every, every_all, good_every, every_spelled, every_shallow}
use Rattle.rule_syntax.proofs.ExprLaws.{step}
use Rattle.rule_syntax.proofs.PartLaws.{Any, GoodBody, GoodProperty, GoodOperator, GoodAlgorithm, GoodHelper, body_sound, body_complete, property_sound, property_complete, operator_sound, operator_complete, algorithm_sound, algorithm_complete, helper_sound, helper_complete}
use Rattle.rule_syntax.proofs.SideLaws.{left_sound, left_complete, right_sound, right_complete, impl_sound, impl_complete}

-- a rule's tokens, whatever its sides are
rule_row : (w r : Symbol) (left right body rest : Text) → name w ++ name r ++ m mark.Colon ++ left ++ m mark.Arrow ++ right ++ body ++ rest
    ≡ token.Name w ∷ token.Name r ∷ token.Mark mark.Colon ∷ (left ++ token.Mark mark.Arrow ∷ (right ++ (body ++ rest)))
rule_row w r left right body rest = simp append_assoc

-- T-rules
abbrev GoodTRule : ℕ → TRule → Type 0
GoodTRule n = Good spells_trule trule_levels n

good_trule : (n : ℕ) (r : Symbol) (l : Tree LeftLabel) (g : Tree RightLabel) (b : Body) → is_free r ≡ true → Good spells_left left_levels n l → Good spells_right right_levels n g → GoodBody n b
    → GoodTRule n (record { name = r; left = l; right = g; body = b })
good_trule n r l g b free sl sg sb =
    let a = sl.shallow in
    let c = sg.shallow in
    let d = sb.shallow in
    record {
      spelled = and_true (is_free r && spells_left l && spells_right g) (spells_body b) (and_true (is_free r && spells_left l) (spells_right g) (and_true (is_free r) (spells_left l) free sl.spelled) sg.spelled) sb.spelled;
      shallow = omega (arith, a, c, d);
    }

trule_text : (r : TRule) (rest : Text) → trule_tokens r ++ rest
    ≡ token.Name (codes "trule") ∷ token.Name r.name ∷ token.Mark mark.Colon ∷ (left_tokens r.left ++ token.Mark mark.Arrow ∷ (right_tokens r.right ++ (body_tokens r.body ++ rest)))
trule_text r rest = rule_row (codes "trule") r.name (left_tokens r.left) (right_tokens r.right) (body_tokens r.body) rest

trule_sound : (n : ℕ) → Sound trule_tokens (GoodTRule n) (trule_at n)
trule_sound n ts x e =
    on_some _ _ x e (λ r h1 e. on_some _ _ x e (λ t h2 e. on_some _ _ x e (λ s h3 e. on_some _ _ x e (λ l h4 e. on_some _ _ x e (λ u h5 e. on_some _ _ x e (λ g h6 e. on_some _ _ x e (λ b h7 e.
    let st = name_sound r t h2 in
    let sl = left_sound n s l h4 in
    let sg = right_sound n u g h6 in
    let sb = body_sound n g.1 b h7 in
    subst (λ (y : TRule × Text). GoodTRule n y.0 × (ts ≡ trule_tokens y.0 ++ y.1)) (some_same (record { name = t.0; left = l.0; right = g.0; body = b.0 }, b.1) x e) (
      good_trule n t.0 l.0 g.0 b.0 (st.0) (sl.0) (sg.0) (sb.0),
      rw (word_sound (codes "trule") ts r h1, st.1, mark_sound mark.Colon t.1 s h3, sl.1, mark_sound mark.Arrow l.1 u h5, sg.1, sb.1) (sym (trule_text (record { name = t.0; left = l.0; right = g.0; body = b.0 }) b.1)),
    ))))))))

trule_complete : (n : ℕ) → Complete trule_tokens (GoodTRule n) Any (trule_at n)
trule_complete n r good rest any =
    let a = both_true (is_free r.name && spells_left r.left && spells_right r.right) (spells_body r.body) good.spelled in
    let b = both_true (is_free r.name && spells_left r.left) (spells_right r.right) (a.0) in
    let c = both_true (is_free r.name) (spells_left r.left) (b.0) in
    let s = good.shallow in
    let behind_right = body_tokens r.body ++ rest in
    let behind_left = token.Mark mark.Arrow ∷ (right_tokens r.right ++ behind_right) in
    ap (trule_at n) (trule_text r rest) ∙
    step _ _ _ _ (name_complete r.name (token.Mark mark.Colon ∷ (left_tokens r.left ++ behind_left)) (c.0))
    (step _ _ _ _ (left_complete n r.left (record { spelled = c.1; shallow = omega (arith, s) }) behind_left tt)
    (step _ _ _ _ (right_complete n r.right (record { spelled = b.1; shallow = omega (arith, s) }) behind_right tt)
    (step _ _ _ _ (body_complete n r.body (record { spelled = a.1; shallow = omega (arith, s) }) rest tt) refl)))

-- I-rules
abbrev GoodIRule : ℕ → IRule → Type 0
GoodIRule n = Good spells_irule irule_levels n

good_irule : (n : ℕ) (r : Symbol) (l : Tree LeftLabel) (g : ImplSide) (b : Body) → is_free r ≡ true → Good spells_left left_levels n l → spells_impl g ≡ true → GoodBody n b
    → GoodIRule n (record { name = r; left = l; right = g; body = b })
good_irule n r l g b free sl sg sb =
    let a = sl.shallow in
    let d = sb.shallow in
    record {
      spelled = and_true (is_free r && spells_left l && spells_impl g) (spells_body b) (and_true (is_free r && spells_left l) (spells_impl g) (and_true (is_free r) (spells_left l) free sl.spelled) sg) sb.spelled;
      shallow = omega (arith, a, d);
    }

irule_text : (r : IRule) (rest : Text) → irule_tokens r ++ rest
    ≡ token.Name (codes "irule") ∷ token.Name r.name ∷ token.Mark mark.Colon ∷ (left_tokens r.left ++ token.Mark mark.Arrow ∷ (impl_tokens r.right ++ (body_tokens r.body ++ rest)))
irule_text r rest = rule_row (codes "irule") r.name (left_tokens r.left) (impl_tokens r.right) (body_tokens r.body) rest

irule_sound : (n : ℕ) → Sound irule_tokens (GoodIRule n) (irule_at n)
irule_sound n ts x e =
    on_some _ _ x e (λ r h1 e. on_some _ _ x e (λ t h2 e. on_some _ _ x e (λ s h3 e. on_some _ _ x e (λ l h4 e. on_some _ _ x e (λ u h5 e. on_some _ _ x e (λ g h6 e. on_some _ _ x e (λ b h7 e.
    let st = name_sound r t h2 in
    let sl = left_sound n s l h4 in
    let sg = impl_sound u g h6 in
    let sb = body_sound n g.1 b h7 in
    subst (λ (y : IRule × Text). GoodIRule n y.0 × (ts ≡ irule_tokens y.0 ++ y.1)) (some_same (record { name = t.0; left = l.0; right = g.0; body = b.0 }, b.1) x e) (
      good_irule n t.0 l.0 g.0 b.0 (st.0) (sl.0) (sg.0) (sb.0),
      rw (word_sound (codes "irule") ts r h1, st.1, mark_sound mark.Colon t.1 s h3, sl.1, mark_sound mark.Arrow l.1 u h5, sg.1, sb.1) (sym (irule_text (record { name = t.0; left = l.0; right = g.0; body = b.0 }) b.1)),
    ))))))))

irule_complete : (n : ℕ) → Complete irule_tokens (GoodIRule n) Any (irule_at n)
irule_complete n r good rest any =
    let a = both_true (is_free r.name && spells_left r.left && spells_impl r.right) (spells_body r.body) good.spelled in
    let b = both_true (is_free r.name && spells_left r.left) (spells_impl r.right) (a.0) in
    let c = both_true (is_free r.name) (spells_left r.left) (b.0) in
    let s = good.shallow in
    let behind_right = body_tokens r.body ++ rest in
    let behind_left = token.Mark mark.Arrow ∷ (impl_tokens r.right ++ behind_right) in
    ap (irule_at n) (irule_text r rest) ∙
    step _ _ _ _ (name_complete r.name (token.Mark mark.Colon ∷ (left_tokens r.left ++ behind_left)) (c.0))
    (step _ _ _ _ (left_complete n r.left (record { spelled = c.1; shallow = omega (arith, s) }) behind_left tt)
    (step _ _ _ _ (impl_complete r.right (b.1) behind_right tt)
    (step _ _ _ _ (body_complete n r.body (record { spelled = a.1; shallow = omega (arith, s) }) rest tt) refl)))

-- sections: what is read, and that what follows does not go on with the section
record ReadsRules (n : ℕ) (ts : Text) (r : Rules) (rest : Text) : Type 0 where
  spelled : spells r ≡ true
  shallow : rules_levels r ≤ n
  text : ts ≡ flat_map property_tokens r.properties ++ (flat_map operator_tokens r.operators ++ (flat_map algorithm_tokens r.algorithms ++
      (flat_map helper_tokens r.helpers ++ (flat_map trule_tokens r.trules ++ (flat_map irule_tokens r.irules ++ rest)))))

six_true : (a b c d e f : Bool) → a ≡ true → b ≡ true → c ≡ true → d ≡ true → e ≡ true → f ≡ true → (a && b && c && d && e && f) ≡ true
six_true a b c d e f p q r s t u = rw (p, q, r, s, t, u) refl

sections_found : (n : ℕ) (ts t1 t2 t3 t4 t5 rest : Text) (ps : List Property) (os : List Operator) (al : List Algorithm) (hs : List Helper) (tr : List TRule) (ir : List IRule) →
    section_at (codes "property") property_at ts ≡ Some (ps, t1) → section_at (codes "operator") (operator_at n) t1 ≡ Some (os, t2) → section_at (codes "algorithm") algorithm_at t2 ≡ Some (al, t3) →
    section_at (codes "helper") (helper_at n) t3 ≡ Some (hs, t4) → section_at (codes "trule") (trule_at n) t4 ≡ Some (tr, t5) → section_at (codes "irule") (irule_at n) t5 ≡ Some (ir, rest)
    → ReadsRules n ts (record { properties = ps; operators = os; algorithms = al; helpers = hs; trules = tr; irules = ir }) rest
sections_found n ts t1 t2 t3 t4 t5 rest ps os al hs tr ir h1 h2 h3 h4 h5 h6 =
    let s1 = many_sound property_tokens GoodProperty (begins (codes "property")) property_at property_sound (length ts) ts (ps, t1) h1 in
    let s2 = many_sound operator_tokens (GoodOperator n) (begins (codes "operator")) (operator_at n) (operator_sound n) (length t1) t1 (os, t2) h2 in
    let s3 = many_sound algorithm_tokens GoodAlgorithm (begins (codes "algorithm")) algorithm_at algorithm_sound (length t2) t2 (al, t3) h3 in
    let s4 = many_sound helper_tokens (GoodHelper n) (begins (codes "helper")) (helper_at n) (helper_sound n) (length t3) t3 (hs, t4) h4 in
    let s5 = many_sound trule_tokens (GoodTRule n) (begins (codes "trule")) (trule_at n) (trule_sound n) (length t4) t4 (tr, t5) h5 in
    let s6 = many_sound irule_tokens (GoodIRule n) (begins (codes "irule")) (irule_at n) (irule_sound n) (length t5) t5 (ir, rest) h6 in
    let l2 = every_shallow spells_operator operator_levels n os (s2.0) in
    let l4 = every_shallow spells_helper helper_levels n hs (s4.0) in
    let l5 = every_shallow spells_trule trule_levels n tr (s5.0) in
    let l6 = every_shallow spells_irule irule_levels n ir (s6.0) in
    record {
      spelled =
          six_true (list_all spells_property ps) (list_all spells_operator os) (list_all spells_algorithm al) (list_all spells_helper hs) (list_all spells_trule tr) (list_all spells_irule ir)
          (every_all spells_property ps (s1.0)) (every_spelled spells_operator operator_levels n os (s2.0)) (every_all spells_algorithm al (s3.0)) (every_spelled spells_helper helper_levels n hs (s4.0))
          (every_spelled spells_trule trule_levels n tr (s5.0)) (every_spelled spells_irule irule_levels n ir (s6.0));
      shallow = omega (arith, l2, l4, l5, l6);
      text = rw (s1.1, s2.1, s3.1, s4.1, s5.1, s6.1) refl;
    }

-- what the six loops read is spelled
pub sections_spelled : (n : ℕ) (ts t1 t2 t3 t4 t5 rest : Text) (ps : List Property) (os : List Operator) (al : List Algorithm) (hs : List Helper) (tr : List TRule) (ir : List IRule) →
    section_at (codes "property") property_at ts ≡ Some (ps, t1) → section_at (codes "operator") (operator_at n) t1 ≡ Some (os, t2) → section_at (codes "algorithm") algorithm_at t2 ≡ Some (al, t3) →
    section_at (codes "helper") (helper_at n) t3 ≡ Some (hs, t4) → section_at (codes "trule") (trule_at n) t4 ≡ Some (tr, t5) → section_at (codes "irule") (irule_at n) t5 ≡ Some (ir, rest)
    → spells (record { properties = ps; operators = os; algorithms = al; helpers = hs; trules = tr; irules = ir }) ≡ true
sections_spelled n ts t1 t2 t3 t4 t5 rest ps os al hs tr ir h1 h2 h3 h4 h5 h6 =
    let r = sections_found n ts t1 t2 t3 t4 t5 rest ps os al hs tr ir h1 h2 h3 h4 h5 h6 in r.spelled

sections_sound : (n : ℕ) (ts : Text) (x : Rules × Text) → sections_at n ts ≡ Some x → ReadsRules n ts x.0 x.1
sections_sound n ts x e =
    on_some _ _ x e (λ p h1 e. on_some _ _ x e (λ o h2 e. on_some _ _ x e (λ a h3 e. on_some _ _ x e (λ h h4 e. on_some _ _ x e (λ t h5 e. on_some _ _ x e (λ i h6 e.
    subst (λ (y : Rules × Text). ReadsRules n ts y.0 y.1) (some_same (record { properties = p.0; operators = o.0; algorithms = a.0; helpers = h.0; trules = t.0; irules = i.0 }, i.1) x e)
    (sections_found n ts p.1 o.1 a.1 h.1 t.1 i.1 p.0 o.0 a.0 h.0 t.0 i.0 h1 h2 h3 h4 h5 h6)))))))

not_first : {A : Type 0} (tokens : A → Text) (w : Symbol) → ((x : A) (ts : Text) → begins w (tokens x ++ ts) ≡ false) → (xs : List A) (rest : Text) → begins w rest ≡ false → begins w (flat_map tokens xs ++ rest) ≡ false
not_first tokens w first [] rest h = h
not_first tokens w first (x ∷ xs) rest h = ap (begins w) (append_assoc (tokens x) (flat_map tokens xs) rest) ∙ first x (flat_map tokens xs ++ rest)

section_complete : {A : Type 0} (tokens : A → Text) (Good : A → Type 0) (w : Symbol) (read : Reader A) → Complete tokens Good Any read → ((x : A) (ts : Text) → begins w (tokens x ++ ts) ≡ true) → ((x : A) → 1 ≤ length (tokens x)) →
    (xs : List A) → Every Good xs → (rest : Text) → begins w rest ≡ false → section_at w read (flat_map tokens xs ++ rest) ≡ Some (xs, rest)
section_complete tokens Good w read complete first some xs every rest last =
    many_complete tokens Good Any (begins w) read complete (λ ts. tt) first (length (flat_map tokens xs ++ rest)) xs every (many_length tokens some xs rest) rest last

-- a section and those behind it
abbrev irules_text : Rules → Text
irules_text r = flat_map irule_tokens r.irules ++ []

abbrev trules_text : Rules → Text
trules_text r = flat_map trule_tokens r.trules ++ irules_text r

abbrev helpers_text : Rules → Text
helpers_text r = flat_map helper_tokens r.helpers ++ trules_text r

abbrev algorithms_text : Rules → Text
algorithms_text r = flat_map algorithm_tokens r.algorithms ++ helpers_text r

abbrev operators_text : Rules → Text
operators_text r = flat_map operator_tokens r.operators ++ algorithms_text r

abbrev properties_text : Rules → Text
properties_text r = flat_map property_tokens r.properties ++ operators_text r

six_row : (a b c d e f : Text) → a ++ b ++ c ++ d ++ e ++ f ≡ a ++ (b ++ (c ++ (d ++ (e ++ (f ++ [])))))
six_row a b c d e f = simp (append_assoc, append-nil)

rules_text : (r : Rules) → tokens_of r ≡ properties_text r
rules_text r =
    six_row (flat_map property_tokens r.properties) (flat_map operator_tokens r.operators) (flat_map algorithm_tokens r.algorithms) (flat_map helper_tokens r.helpers) (flat_map trule_tokens r.trules) (flat_map irule_tokens r.irules)

-- they do not begin with another section's word
not_irules : (w : Symbol) (r : Rules) → bytes_eq (codes "irule") w ≡ false → begins w (irules_text r) ≡ false
not_irules w r i = not_first irule_tokens w (λ x ts. i) r.irules [] refl

not_trules : (w : Symbol) (r : Rules) → bytes_eq (codes "irule") w ≡ false → bytes_eq (codes "trule") w ≡ false → begins w (trules_text r) ≡ false
not_trules w r i t = not_first trule_tokens w (λ x ts. t) r.trules (irules_text r) (not_irules w r i)

not_helpers : (w : Symbol) (r : Rules) → bytes_eq (codes "irule") w ≡ false → bytes_eq (codes "trule") w ≡ false → bytes_eq (codes "helper") w ≡ false → begins w (helpers_text r) ≡ false
not_helpers w r i t h = not_first helper_tokens w (λ x ts. h) r.helpers (trules_text r) (not_trules w r i t)

not_algorithms : (w : Symbol) (r : Rules) → bytes_eq (codes "irule") w ≡ false → bytes_eq (codes "trule") w ≡ false → bytes_eq (codes "helper") w ≡ false → bytes_eq (codes "algorithm") w ≡ false → begins w (algorithms_text r) ≡ false
not_algorithms w r i t h a = not_first algorithm_tokens w (λ x ts. a) r.algorithms (helpers_text r) (not_helpers w r i t h)

not_operators : (w : Symbol) (r : Rules) → bytes_eq (codes "irule") w ≡ false → bytes_eq (codes "trule") w ≡ false → bytes_eq (codes "helper") w ≡ false → bytes_eq (codes "algorithm") w ≡ false → bytes_eq (codes "operator") w ≡ false
    → begins w (operators_text r) ≡ false
not_operators w r i t h a o = not_first operator_tokens w (λ x ts. o) r.operators (algorithms_text r) (not_algorithms w r i t h a)

sections_complete : (n : ℕ) (r : Rules) → spells r ≡ true → rules_levels r ≤ n → sections_at n (properties_text r) ≡ Some (r, [])
sections_complete n r spelled shallow =
    let a = both_true (list_all spells_property r.properties && list_all spells_operator r.operators && list_all spells_algorithm r.algorithms && list_all spells_helper r.helpers && list_all spells_trule r.trules) (list_all spells_irule r.irules) spelled in
    let b = both_true (list_all spells_property r.properties && list_all spells_operator r.operators && list_all spells_algorithm r.algorithms && list_all spells_helper r.helpers) (list_all spells_trule r.trules) (a.0) in
    let c = both_true (list_all spells_property r.properties && list_all spells_operator r.operators && list_all spells_algorithm r.algorithms) (list_all spells_helper r.helpers) (b.0) in
    let d = both_true (list_all spells_property r.properties && list_all spells_operator r.operators) (list_all spells_algorithm r.algorithms) (c.0) in
    let f = both_true (list_all spells_property r.properties) (list_all spells_operator r.operators) (d.0) in
    step _ _ _ _ (section_complete property_tokens GoodProperty (codes "property") property_at property_complete (λ x ts. refl) (λ x. omega arith) r.properties (all_every spells_property r.properties (f.0)) (operators_text r) (not_operators (codes "property") r refl refl refl refl refl))
    (step _ _ _ _ (section_complete operator_tokens (GoodOperator n) (codes "operator") (operator_at n) (operator_complete n) (λ x ts. refl) (λ x. omega arith) r.operators (good_every spells_operator operator_levels n r.operators (f.1) (omega (arith, shallow))) (algorithms_text r) (not_algorithms (codes "operator") r refl refl refl refl))
    (step _ _ _ _ (section_complete algorithm_tokens GoodAlgorithm (codes "algorithm") algorithm_at algorithm_complete (λ x ts. refl) (λ x. omega arith) r.algorithms (all_every spells_algorithm r.algorithms (d.1)) (helpers_text r) (not_helpers (codes "algorithm") r refl refl refl))
    (step _ _ _ _ (section_complete helper_tokens (GoodHelper n) (codes "helper") (helper_at n) (helper_complete n) (λ x ts. refl) (λ x. omega arith) r.helpers (good_every spells_helper helper_levels n r.helpers (c.1) (omega (arith, shallow))) (trules_text r) (not_trules (codes "helper") r refl refl))
    (step _ _ _ _ (section_complete trule_tokens (GoodTRule n) (codes "trule") (trule_at n) (trule_complete n) (λ x ts. refl) (λ x. omega arith) r.trules (good_every spells_trule trule_levels n r.trules (b.1) (omega (arith, shallow))) (irules_text r) (not_irules (codes "trule") r refl))
    (step _ _ _ _ (section_complete irule_tokens (GoodIRule n) (codes "irule") (irule_at n) (irule_complete n) (λ x ts. refl) (λ x. omega arith) r.irules (good_every spells_irule irule_levels n r.irules (a.1) (omega (arith, shallow))) [] refl) refl)))))

length_none : (ts : Text) → length ts ≡ 0 → ts ≡ []
length_none [] e = refl
length_none (t ∷ ts) e = absurd (omega arith)

-- what is read is a text of it, and each text is read
pub rules_found : (ts : Text) (r : Rules) → rules_at most_levels ts ≡ Some r → IsRules r ts
rules_found ts r e =
    on_some _ _ r e (λ x h e.
    let g = guard_some (eqb (length x.1) 0) (Some x.0) r e in
    let s = sections_sound most_levels ts x h in
    let none : x.1 ≡ [] = length_none x.1 (eqb-true (length x.1) 0 (g.0)) in
    subst (λ (y : Rules). IsRules y ts) (some_same x.0 r (g.1)) (record {
      spelled = s.spelled;
      shallow = s.shallow;
      tokens = s.text ∙ ap (λ us. flat_map property_tokens x.0.properties ++ (flat_map operator_tokens x.0.operators ++ (flat_map algorithm_tokens x.0.algorithms ++
          (flat_map helper_tokens x.0.helpers ++ (flat_map trule_tokens x.0.trules ++ (flat_map irule_tokens x.0.irules ++ us)))))) none ∙ sym (rules_text x.0);
    }))

rules_complete : (n : ℕ) (r : Rules) → spells r ≡ true → rules_levels r ≤ n → rules_at n (tokens_of r) ≡ Some r
rules_complete n r spelled shallow = ap (rules_at n) (rules_text r) ∙ step _ _ _ _ (sections_complete n r spelled shallow) refl

pub rules_again : (ts : Text) (r : Rules) → IsRules r ts → rules_at most_levels ts ≡ Some r
rules_again ts r t = ap (rules_at most_levels) t.tokens ∙ rules_complete most_levels r t.spelled t.shallow

pub distinct_rules : DistinctRules
distinct_rules r s a b e =
    let n = max (rules_levels r) (rules_levels s) in
    let one = rules_complete n r a (omega arith) in
    let two = rules_complete n s b (omega arith) in
    some_same r s (sym one ∙ ap (rules_at n) e ∙ two)
