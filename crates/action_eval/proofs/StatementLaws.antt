-- What statements leave: places of properties, soundness, and one statement more.
use Rattle.std.proofs.Common.{◌≡◌, ℕ, zero, suc, ◌+◌, ◌<◌, Bool, true, false, cond, List, [], ◌∷◌, ◌++◌, length, take, get_or, map, Option, Some, None, Result, Ok, Err, refl, ap, sym, ◌∙◌, subst, arith}
use Rattle.std.specs.Prelude.{OnErr, ◌&&◌}
use Rattle.std.specs.List.{list_all}
use Rattle.std.specs.Cmp.{first_so, second_so}
use Rattle.std.specs.Cmp.Derive.{both_true}
use Rattle.std.specs.Str.{bytes_eq}
use Rattle.std.proofs.lemmas.List.{take_more}
use Rattle.pr_value.specs.Symbols.{Symbol}
use Rattle.pr_value.specs.SymbolSets.{contains}
use Rattle.pr_value.specs.Values.{has_kind}
use Rattle.pr_value.specs.declared.kind.Kind.{Kind}
use Rattle.pr_value.specs.declared.kind.Kind.TheVariants as kind
use Rattle.pr_value.specs.declared.value.Value.{Value}
use Rattle.pr_value.specs.declared.value.Value.TheVariants as value
use Rattle.catalog.specs.Contents.{Catalog}
use Rattle.descriptor_types.specs.Descriptors.{Layout, Desc, fits, with_value}
use Rattle.rule_ast.specs.declared.expr.Stmt as rust
use Rattle.pr_value.specs.declared.property.Property.{Property}
use Rattle.rule_ast.specs.Syntax.{Expr, Stmt, set, copy, Helper, Rules}
use Rattle.rule_ast.specs.Seen.{seen_stmt}
use Rattle.rule_ast.specs.Typing.{Context, type_of_kind, property_kind, fits_property, is_typed_stmt, signatures_of}
use Rattle.action_eval.specs.Environments.{Env, IsSound, context_of, scope_of, type_in, are_typed_here, value_here, after}
use Rattle.action_eval.specs.Meaning.{Scope, desc_in, with_desc_in, functions, value_by, run_one, run}
use Rattle.action_eval.proofs.HelperLaws.{sound-functions}
use Rattle.action_eval.proofs.KindLaws.{Is, value-is, fits-desc_in}
use Rattle.action_eval.proofs.TypeLaws.{some-same, is_type-is}

pub with_desc_in-same : (ds : List (Symbol × Desc)) (name : Symbol) → with_desc_in ds name (desc_in ds name) ≡ ds
with_desc_in-same [] name = refl
with_desc_in-same (d ∷ ds) name =
    elim (bytes_eq d.0 name) as (λ b. cond b ((d.0, cond b d.1 (desc_in ds name)) ∷ ds) (d ∷ with_desc_in ds name (cond b d.1 (desc_in ds name))) ≡ d ∷ ds) [
      | true ↦ refl
      | false ↦ ap (λ (es : List (Symbol × Desc)). d ∷ es) (with_desc_in-same ds name)
    ]

-- ---- soundness

fits-with_value : (ps : List Property) (p : Symbol) (k : Kind) (v : Value) (d : Desc) → property_kind ps p ≡ Some k → has_kind k v ≡ true → fits ps d ≡ true → fits ps (with_value ps p v d) ≡ true
fits-with_value [] p k v d is has fit = fit
fits-with_value (q ∷ ps) p k v [] is has fit = fit
fits-with_value (q ∷ ps) p k v (w ∷ d) is has fit =
    elim (bytes_eq q.name p) as (λ b. cond b (Some q.kind) (property_kind ps p) ≡ Some k → fits (q ∷ ps) (cond b (v ∷ d) (w ∷ with_value ps p v d)) ≡ true) [
      | true ↦ λ e. both_true (subst (λ (j : Kind). has_kind j v ≡ true) (sym (some-same e)) has) (second_so (has_kind q.kind w) (fits ps d) fit)
      | false ↦ λ e. both_true (first_so (has_kind q.kind w) (fits ps d) fit) (fits-with_value ps p k v d e has (second_so (has_kind q.kind w) (fits ps d) fit))
    ] is

fits-with_desc_in : (layout : Layout) (ds : List (Symbol × Desc)) (name : Symbol) (e : Desc) → list_all (λ d. fits layout d.1) ds ≡ true → fits layout e ≡ true → list_all (λ d. fits layout d.1) (with_desc_in ds name e) ≡ true
fits-with_desc_in layout [] name e all fit = refl
fits-with_desc_in layout (d ∷ ds) name e all fit =
    elim (bytes_eq d.0 name) as (λ b. list_all (λ d. fits layout d.1) (cond b ((d.0, e) ∷ ds) (d ∷ with_desc_in ds name e)) ≡ true) [
      | true ↦ both_true fit (second_so (fits layout d.1) (list_all (λ d. fits layout d.1) ds) all)
      | false ↦ both_true (first_so (fits layout d.1) (list_all (λ d. fits layout d.1) ds) all) (fits-with_desc_in layout ds name e (second_so (fits layout d.1) (list_all (λ d. fits layout d.1) ds) all) fit)
    ]

abbrev names : List (Symbol × Desc) → List Symbol
names = map (λ d. d.0)

names-with_desc_in : (ds : List (Symbol × Desc)) (name : Symbol) (e : Desc) → names (with_desc_in ds name e) ≡ names ds
names-with_desc_in [] name e = refl
names-with_desc_in (d ∷ ds) name e =
    elim (bytes_eq d.0 name) as (λ b. names (cond b ((d.0, e) ∷ ds) (d ∷ with_desc_in ds name e)) ≡ d.0 ∷ names ds) [
      | true ↦ refl
      | false ↦ ap (λ (ss : List Symbol). d.0 ∷ ss) (names-with_desc_in ds name e)
    ]

-- the same names stand for descriptors
pub context-with_desc_in : (env : Env) (name : Symbol) (e : Desc) → context_of (record env { descs = with_desc_in env.descs name e }) ≡ context_of env
context-with_desc_in env name e = ap (λ (ss : List Symbol). let c : Context = record { descs = ss; vars = [] } in c) (names-with_desc_in env.descs name e)

sound-with_desc_in : (env : Env) (name : Symbol) (e : Desc) → IsSound env → fits env.layout e ≡ true → IsSound (record env { descs = with_desc_in env.descs name e })
sound-with_desc_in env name e sound fit = record { layout = sound.layout; helpers = sound.helpers; descs = fits-with_desc_in env.layout env.descs name e sound.descs fit }

kind-has : (k : Kind) (v : Value) → has_kind (type_of_kind k) v ≡ true → has_kind k v ≡ true
kind-has kind.Num v has = has
kind-has kind.Truth v has = has
kind-has kind.Symbol v has = has
kind-has kind.Set v has = has
kind-has kind.List v has = has
kind-has kind.Cost (value.Num n) has = has
kind-has kind.Cost _ has = cc

property-kind : (o : Option Kind) (p : Option Kind) → fits_property o p ≡ true → (k : Kind) × (o ≡ Some k) × (p ≡ Some (type_of_kind k))
property-kind None p is = cc
property-kind (Some k) p is = (k, refl, is_type-is (type_of_kind k) p is)

alone : (b : Bool) → (b && true) ≡ true → b ≡ true
alone true is = refl
alone false is = is

pub sound-set : (env : Env) (d p : Symbol) (e : Expr) (v : Value) → IsSound env → are_typed_here env (set d p e ∷ []) ≡ true → ((t : Kind) → type_in env e ≡ Some t → has_kind t v ≡ true)
    → IsSound (record env { descs = with_desc_in env.descs d (with_value env.layout p v (desc_in env.descs d)) })
sound-set env d p e v sound typed has =
    let stmt = alone (is_typed_stmt env.rules.properties (signatures_of env.rules.helpers) (context_of env) (set d p e)) typed in
    let there = first_so (contains (names env.descs) d) (fits_property (property_kind env.rules.properties p) (type_in env e)) stmt in
    let k = property-kind (property_kind env.rules.properties p) (type_in env e) (second_so (contains (names env.descs) d) _ stmt) in
    sound-with_desc_in env d (with_value env.layout p v (desc_in env.descs d)) sound
    (subst (λ (l : Layout). fits l (with_value l p v (desc_in env.descs d)) ≡ true) (sym sound.layout)
    (fits-with_value env.rules.properties p k.0 v (desc_in env.descs d) k.1 (kind-has k.0 v (has (type_of_kind k.0) k.2))
    (subst (λ (l : Layout). fits l (desc_in env.descs d) ≡ true) sound.layout (fits-desc_in env.layout env.descs d sound.descs there))))

pub copied-known : (env : Env) (d e : Symbol) → are_typed_here env (copy d e ∷ []) ≡ true → contains (names env.descs) e ≡ true
copied-known env d e typed = second_so (contains (names env.descs) d) (contains (names env.descs) e) (alone (contains (names env.descs) d && contains (names env.descs) e) typed)

pub sound-copy : (env : Env) (d e : Symbol) → IsSound env → are_typed_here env (copy d e ∷ []) ≡ true → IsSound (record env { descs = with_desc_in env.descs d (desc_in env.descs e) })
sound-copy env d e sound typed = sound-with_desc_in env d (desc_in env.descs e) sound (fits-desc_in env.layout env.descs e sound.descs (copied-known env d e typed))

-- ---- statements one after another

run-push : (layout : Layout) (hs : List Helper) (catalog : Catalog) (ss : List Stmt) (s : Stmt) (scope : Scope) → run layout hs catalog (ss ++ s ∷ []) scope ≡ run_one layout hs catalog s (run layout hs catalog ss scope)
run-push layout hs catalog [] s scope = refl
run-push layout hs catalog (t ∷ ss) s scope = run-push layout hs catalog ss s (run_one layout hs catalog t scope)

one-values : (layout : Layout) (hs : List Helper) (catalog : Catalog) (s : Stmt) (scope : Scope) → (run_one layout hs catalog s scope).values ≡ scope.values
one-values layout hs catalog (set d p e) scope = refl
one-values layout hs catalog (copy d e) scope = refl

run-values : (layout : Layout) (hs : List Helper) (catalog : Catalog) (ss : List Stmt) (scope : Scope) → (run layout hs catalog ss scope).values ≡ scope.values
run-values layout hs catalog [] scope = refl
run-values layout hs catalog (s ∷ ss) scope = run-values layout hs catalog ss (run_one layout hs catalog s scope) ∙ one-values layout hs catalog s scope

scope-after : (env : Env) (catalog : Catalog) (ss : List Stmt) → scope_of (after env catalog ss) ≡ run env.layout env.rules.helpers catalog ss (scope_of env)
scope-after env catalog ss =
    let ran = run env.layout env.rules.helpers catalog ss (scope_of env) in
    ap (λ (vs : List (Symbol × Value)). let s : Scope = record { descs = ran.descs; values = vs } in s) (sym (run-values env.layout env.rules.helpers catalog ss (scope_of env)))

pub after-push : (env : Env) (catalog : Catalog) (ss : List Stmt) (s : Stmt) → after (after env catalog ss) catalog (s ∷ []) ≡ after env catalog (ss ++ s ∷ [])
after-push env catalog ss s =
    let with : Scope → Env = λ scope. record env { descs = scope.descs } in
    ap (λ (scope : Scope). with (run_one env.layout env.rules.helpers catalog s scope)) (scope-after env catalog ss) ∙ ap with (sym (run-push env.layout env.rules.helpers catalog ss s (scope_of env)))

map-push : (ss : List rust.Stmt) (s : rust.Stmt) → map seen_stmt (ss ++ s ∷ []) ≡ map seen_stmt ss ++ seen_stmt s ∷ []
map-push [] s = refl
map-push (t ∷ ss) s = ap (λ (us : List Stmt). seen_stmt t ∷ us) (map-push ss s)

-- one statement more
pub after-more : (start env new : Env) (catalog : Catalog) (ss : List rust.Stmt) (i : ℕ) (s : rust.Stmt) → i < length ss → s ≡ get_or ss i s → env ≡ after start catalog (map seen_stmt (take i ss)) → new ≡ after env catalog (seen_stmt s ∷ [])
    → new ≡ after start catalog (map seen_stmt (take (i + 1) ss))
after-more start env new catalog ss i s within here so_far is =
    is ∙ ap (λ (e : Env). after e catalog (seen_stmt s ∷ [])) so_far ∙ after-push start catalog (map seen_stmt (take i ss)) (seen_stmt s)
    ∙ ap (after start catalog) (sym (map-push (take i ss) s) ∙ ap (λ (t : rust.Stmt). map seen_stmt (take i ss ++ t ∷ [])) here ∙ ap (map seen_stmt) (sym (take_more ss i s within)))

pub take-map : (ss : List rust.Stmt) (i : ℕ) → map seen_stmt (take i ss) ≡ take i (map seen_stmt ss)
take-map [] zero = refl
take-map [] (suc i) = refl
take-map (s ∷ ss) zero = refl
take-map (s ∷ ss) (suc i) = ap (λ (us : List Stmt). seen_stmt s ∷ us) (take-map ss i)

all-at : (test : Stmt → Bool) (ss : List rust.Stmt) (i : ℕ) (d : rust.Stmt) → list_all test (map seen_stmt ss) ≡ true → i < length ss → test (seen_stmt (get_or ss i d)) ≡ true
all-at test [] i d all within = absurd (omega (arith, within))
all-at test (s ∷ ss) zero d all within = first_so (test (seen_stmt s)) (list_all test (map seen_stmt ss)) all
all-at test (s ∷ ss) (suc i) d all within = all-at test ss i d (second_so (test (seen_stmt s)) (list_all test (map seen_stmt ss)) all) (omega (arith, within))

-- a statement that is well typed at the start is so later
pub typed-later : (start env : Env) (catalog : Catalog) (before : List Stmt) (ss : List rust.Stmt) (i : ℕ) (s : rust.Stmt) → are_typed_here start (map seen_stmt ss) ≡ true → i < length ss → s ≡ get_or ss i s → env ≡ after start catalog before → context_of env ≡ context_of start
    → are_typed_here env (seen_stmt s ∷ []) ≡ true
typed-later start env catalog before ss i s typed within here so_far same =
    ap (λ (r : Rules). is_typed_stmt r.properties (signatures_of r.helpers) (context_of env) (seen_stmt s) && true) (ap (λ (e : Env). e.rules) so_far)
    ∙ ap (λ (c : Context). is_typed_stmt start.rules.properties (signatures_of start.rules.helpers) c (seen_stmt s) && true) same
    ∙ ap (λ b. b && true)
    (ap (λ (t : rust.Stmt). is_typed_stmt start.rules.properties (signatures_of start.rules.helpers) (context_of start) (seen_stmt t)) here
    ∙ all-at (is_typed_stmt start.rules.properties (signatures_of start.rules.helpers) (context_of start)) ss i s typed within)

pub on-err : {A E : Type 0} (r : Result A E) (P : Type 0) → P → OnErr r P
on-err (Ok x) P p = tt
on-err (Err e) P p = p

-- ---- the value of an expression

has_kind-of : (t : Kind) (v : Value) → Is t v → has_kind t v ≡ true
has_kind-of t (value.Num n) is = subst (λ (k : Kind). has_kind k (value.Num n) ≡ true) is.0 is.1
has_kind-of t (value.Truth b) is = subst (λ (k : Kind). has_kind k (value.Truth b) ≡ true) is.0 refl
has_kind-of t (value.Sym s) is = subst (λ (k : Kind). has_kind k (value.Sym s) ≡ true) is.0 refl
has_kind-of t (value.Set ss) is = subst (λ (k : Kind). has_kind k (value.Set ss) ≡ true) is.0 refl
has_kind-of t (value.List ss) is = subst (λ (k : Kind). has_kind k (value.List ss) ≡ true) is.0 refl

-- it is of the expression's type, and a number within the cap
pub has_kind-value_here : (env : Env) (catalog : Catalog) (e : Expr) (t : Kind) → IsSound env → type_in env e ≡ Some t → has_kind t (value_here env catalog e) ≡ true
has_kind-value_here env catalog e t sound typed =
    let ps = env.rules.properties in
    let there : has_kind t (value_by ps (functions ps env.rules.helpers catalog) (scope_of env) e) ≡ true =
    has_kind-of t _
    (value-is ps (signatures_of env.rules.helpers) (functions ps env.rules.helpers catalog) (sound-functions ps catalog env.rules.helpers sound.helpers) e (scope_of env) t
    record { descs = subst (λ (l : Layout). list_all (λ d. fits l d.1) env.descs ≡ true) sound.layout sound.descs; values = refl } typed)
    in
    subst (λ (l : Layout). has_kind t (value_by l (functions l env.rules.helpers catalog) (scope_of env) e) ≡ true) (sym sound.layout) there
