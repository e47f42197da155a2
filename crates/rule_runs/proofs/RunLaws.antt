-- The environments of rules, and what stands in them after a run.
use Rattle.std.proofs.Common.{◌≡◌, Bool, true, false, cond, List, [], ◌∷◌, ◌++◌, length, map, Result, Ok, Err, IfOk, Some, None, option_map, refl, ap, sym, ◌∙◌, subst, arith, length-append, append_assoc}
use Rattle.std.specs.Prelude.{zip}
use Rattle.std.specs.Cmp.{first_so, second_so}
use Rattle.std.specs.Cmp.Derive.{both_true}
use Rattle.std.specs.List.{list_all}
use Rattle.std.proofs.lemmas.List.{length-map}
use Rattle.std.proofs.lemmas.List.Folds.{list_all-append}
use Rattle.action_eval.proofs.KindLaws.{desc_in-unknown}
use Rattle.action_eval.proofs.StatementLaws.{context-with_desc_in, has_kind-value_here, sound-copy, sound-set}
use Rattle.action_eval.proofs.TypeLaws.{some-same}
use Rattle.action_eval.specs.Environments.{Env, IsSound, after, are_typed_here, context_of, names_bound, value_here}
use Rattle.action_eval.specs.Meaning.{desc_in}
use Rattle.catalog.specs.Contents.{Catalog}
use Rattle.descriptor_types.proofs.FitLaws.{fits-plain}
use Rattle.descriptor_types.specs.Descriptors.{Desc, Layout, fits, plain, with_value}
use Rattle.pr_value.proofs.Shelf.{option_map-some}
use Rattle.pr_value.proofs.ZipLaws.{firsts}
use Rattle.pr_value.specs.Symbols.{Symbol}
use Rattle.pr_value.specs.SymbolSets.{contains}
use Rattle.pr_value.specs.Values.{truth_in}
use Rattle.pr_value.specs.declared.memory.Memory.{Memory}
use Rattle.rule_ast.specs.Descs.{node_descs, stream_descs, left_descs, right_descs, trule_descs}
use Rattle.rule_ast.specs.Syntax.{Body, Stmt, set, copy, TRule, Rules}
use Rattle.rule_ast.specs.Typing.{Context, is_typed_body, is_typed_stmt, signatures_of}
use Rattle.rule_runs.specs.Conditions.{AreSlotsOf, CanRun, IsTypedOver}
use Rattle.rule_runs.specs.Ready.{IsReady}
use Rattle.rule_runs.specs.Runs.{Scope, env_over, tested, trule_scope, trule_run}
use Rattle.rule_runs.specs.Slotting.{all_slots}
use Rattle.rule_runs.specs.declared.slots.Slots.{Slots}
use Rattle.rule_runs.proofs.ScopeLaws.{sound_over}

-- ---- lists side by side

pub zip-append : {A B : Type 0} (xs us : List A) (ys vs : List B) → length xs ≡ length ys → zip (xs ++ us) (ys ++ vs) ≡ zip xs ys ++ zip us vs
zip-append [] us [] vs e = refl
zip-append [] us (y ∷ ys) vs e = absurd (omega (arith, e))
zip-append (x ∷ xs) us [] vs e = absurd (omega (arith, e))
zip-append {A} {B} (x ∷ xs) us (y ∷ ys) vs e =
    let f : length xs ≡ length ys = omega (arith, e) in
    ap (λ (zs : List (A × B)). (x, y) ∷ zs) (zip-append xs us ys vs f)

-- the defaults under each of these names
zip-defaults : (ds : List Symbol) (d : Desc) → zip ds (map (λ n. d) ds) ≡ map (λ n. (n, d)) ds
zip-defaults [] d = refl
zip-defaults (n ∷ ds) d = ap (λ (ps : List (Symbol × Desc)). (n, d) ∷ ps) (zip-defaults ds d)

-- ---- names with their descriptors

-- as many of both, which make this scope
pub record IsScoped (names : List Symbol) (descs : List Desc) (scope : Scope) : Type 0 where
  pub is : zip names descs ≡ scope
  pub as_many : length names ≡ length descs

pub and_scope : (ns ms : List Symbol) (ds es : List Desc) (s t : Scope) → IsScoped ns ds s → IsScoped ms es t → IsScoped (ns ++ ms) (ds ++ es) (s ++ t)
and_scope ns ms ds es s t one other = record {
  is = zip-append ns ms ds es one.as_many ∙ (ap (λ (ps : Scope). ps ++ zip ms es) one.is ∙ ap (λ (ps : Scope). s ++ ps) other.is);
  as_many =
      let a = length-append ns ms in
      let b = length-append ds es in
      let c = one.as_many in
      let d = other.as_many in
      omega (arith, a, b, c, d);
}

pub zipped : (ns : List Symbol) (ds : List Desc) → length ns ≡ length ds → IsScoped ns ds (zip ns ds)
zipped ns ds long = record { is = refl; as_many = long }

pub left-scope : (r : Rules) (l : _) (s : Slots) → AreSlotsOf r l s → IsScoped (left_descs l) (all_slots s) (zip (node_descs l) s.nodes ++ zip (stream_descs l) s.streams)
left-scope r l s slots =
    and_scope (node_descs l) (stream_descs l) s.nodes s.streams (zip (node_descs l) s.nodes) (zip (stream_descs l) s.streams) (zipped (node_descs l) s.nodes (sym slots.nodes)) (zipped (stream_descs l) s.streams (sym slots.streams))

pub trule-scoped : (r : Rules) (t : TRule) (s : Slots) → AreSlotsOf r t.left s → IsScoped (trule_descs t) (all_slots s ++ map (λ n. plain r.properties) (right_descs t.right)) (trule_scope r t s)
trule-scoped r t s slots =
    let d = plain r.properties in
    let right = right_descs t.right in
    let defaults : IsScoped right (map (λ n. d) right) (map (λ n. (n, d)) right) = record { is = zip-defaults right d; as_many = sym (length-map right (λ n. d)) } in
    let nodes : Scope = zip (node_descs t.left) s.nodes in
    let streams : Scope = zip (stream_descs t.left) s.streams in
    subst (IsScoped (trule_descs t) (all_slots s ++ map (λ n. d) right)) (append_assoc nodes streams (map (λ n. (n, d)) right))
    (and_scope (left_descs t.left) right (all_slots s) (map (λ n. d) right) (nodes ++ streams) (map (λ n. (n, d)) right) (left-scope r t.left s slots) defaults)

-- ---- what fits

pub both-fit : (r : Rules) (ds es : List Desc) → list_all (fits r.properties) ds ≡ true → list_all (fits r.properties) es ≡ true → list_all (fits r.properties) (ds ++ es) ≡ true
both-fit r ds es one other = list_all-append (fits r.properties) ds es ∙ both_true one other

pub slots-fit : (r : Rules) (l : _) (s : Slots) → AreSlotsOf r l s → list_all (fits r.properties) (all_slots s) ≡ true
slots-fit r l s slots = both-fit r s.nodes s.streams slots.nodes_fit slots.streams_fit

defaults-fit : (r : Rules) (names : List Symbol) → list_all (fits r.properties) (map (λ n. plain r.properties) names) ≡ true
defaults-fit r [] = refl
defaults-fit r (n ∷ names) = both_true (fits-plain r.properties) (defaults-fit r names)

pub trule-fits : (r : Rules) (t : TRule) (s : Slots) → AreSlotsOf r t.left s → list_all (fits r.properties) (all_slots s ++ map (λ n. plain r.properties) (right_descs t.right)) ≡ true
trule-fits r t s slots = both-fit r (all_slots s) (map (λ n. plain r.properties) (right_descs t.right)) (slots-fit r t.left s slots) (defaults-fit r (right_descs t.right))

-- ---- environments that are ready

-- the environment of these descriptors under these names
pub record IsPrepared (r : Rules) (names : List Symbol) (scope : Scope) (env : Env) : Type 0 where
  pub is : env ≡ env_over r scope
  pub ready : IsReady r names env

pub prepared : (r : Rules) (names given : List Symbol) (all descs : List Desc) (scope : Scope) (env : Env) → IsScoped names all scope → given ≡ names → descs ≡ all → env ≡ env_over r (zip given descs) → IsSound env → IsPrepared r names scope env
prepared r names given all descs scope env scoped same are is sound =
    let e : env ≡ env_over r (zip names all) = is ∙ (ap (λ (ns : List Symbol). env_over r (zip ns descs)) same ∙ ap (λ (ds : List Desc). env_over r (zip names ds)) are) in
    record {
      is = e ∙ ap (λ (s : Scope). env_over r s) scoped.is;
      ready = record {
        sound = sound;
        rules = ap (λ (v : Env). v.rules) e;
        bound = ap (λ (v : Env). names_bound v.descs) e ∙ sym (firsts names all scoped.as_many);
      };
    }

pub as_many-here : (names given : List Symbol) (all descs : List Desc) (scope : Scope) → IsScoped names all scope → given ≡ names → descs ≡ all → length given ≡ length descs
as_many-here names given all descs scope scoped same are = ap length same ∙ (scoped.as_many ∙ ap length (sym are))

-- the slots and the defaults, as they are put together
pub with-defaults : (r : Rules) (layout : Layout) (t : TRule) (s : Slots) (mid descs : List Desc) (names : List Symbol) → layout ≡ r.properties → names ≡ right_descs t.right → mid ≡ all_slots s → descs ≡ mid ++ map (λ n. plain layout) names
    → descs ≡ all_slots s ++ map (λ n. plain r.properties) (right_descs t.right)
with-defaults r layout t s mid descs names same are all is =
    is ∙ (ap (λ (ds : List Desc). ds ++ map (λ n. plain layout) names) all
    ∙ (ap (λ (l : Layout). all_slots s ++ map (λ n. plain l) names) same ∙ ap (λ (ns : List Symbol). all_slots s ++ map (λ n. plain r.properties) ns) are))

-- ---- statements in an environment that is ready

pub context-ready : (r : Rules) (names : List Symbol) (env : Env) → IsReady r names env → context_of env ≡ record { descs = names; vars = [] }
context-ready r names env ready = ap (λ (ss : List Symbol). let c : Context = record { descs = ss; vars = [] } in c) ready.bound

-- statements that are typed over the names are so in the environment
pub body-typed : (r : Rules) (names : List Symbol) (env : Env) (b : Body) → IsReady r names env → IsTypedOver r names b → is_typed_body env.rules.properties (signatures_of env.rules.helpers) (context_of env) b ≡ true
body-typed r names env b ready over =
    ap (λ (s : Rules). is_typed_body s.properties (signatures_of s.helpers) (context_of env) b) ready.rules
    ∙ (ap (λ (c : Context). is_typed_body r.properties (signatures_of r.helpers) c b) (context-ready r names env ready) ∙ over.typed)

pub post-typed : (r : Rules) (names : List Symbol) (env : Env) (b : Body) → IsReady r names env → IsTypedOver r names b → are_typed_here env b.post ≡ true
post-typed r names env b ready over = second_so _ _ (body-typed r names env b ready over)

pre-typed : (r : Rules) (names : List Symbol) (env : Env) (b : Body) → IsReady r names env → IsTypedOver r names b → are_typed_here env b.pre ≡ true
pre-typed r names env b ready over = first_so _ _ (first_so _ _ (body-typed r names env b ready over))

-- after other statements it is ready still
pub ready-after : (r : Rules) (names : List Symbol) (old new : Env) → IsReady r names old → IsSound new → context_of new ≡ context_of old → new.rules ≡ old.rules → IsReady r names new
ready-after r names old new ready sound context rules = record {
  sound = sound;
  rules = rules ∙ ready.rules;
  bound = ap (λ (c : Context). c.descs) context ∙ ready.bound;
}

chosen-same : {X : Type 0} (b : Bool) (x y : X) → cond b (Some x) None ≡ Some y → x ≡ y
chosen-same true x y e = some-same e
chosen-same false x y e = cc

-- where the test is true, the environment is the one after the statements before it
pub tested-after : (c : Catalog) (b : Body) (old new : Env) → tested c b old ≡ Some new → new ≡ after old c b.pre
tested-after c b old new e = sym (chosen-same (truth_in (value_here (after old c b.pre) c b.test)) (after old c b.pre) new e)

pub tested-rules : (c : Catalog) (b : Body) (old new : Env) → tested c b old ≡ Some new → new.rules ≡ old.rules
tested-rules c b old new e = ap (λ (v : Env). v.rules) (tested-after c b old new e)

pub came-true : (c : Catalog) (body : Body) (b : Bool) (start mid : Env) → tested c body start ≡ cond b (Some mid) None → b ≡ true → tested c body start ≡ Some mid
came-true c body b start mid came holds = came ∙ ap (λ (k : Bool). cond k (Some mid) None) holds

pub came-false : (c : Catalog) (body : Body) (b : Bool) (start mid : Env) → tested c body start ≡ cond b (Some mid) None → b ≡ false → tested c body start ≡ None
came-false c body b start mid came fails = came ∙ ap (λ (k : Bool). cond k (Some mid) None) fails

-- ---- the run of a T-rule

-- the test is false
pub run-none : (r : Rules) (c : Catalog) (t : TRule) (s : Slots) (b : Bool) (start mid : Env) → start ≡ env_over r (trule_scope r t s) → tested c t.body start ≡ cond b (Some mid) None → b ≡ false → None ≡ trule_run r c t s
run-none r c t s b start mid is came fails =
    sym (ap (option_map (λ (e : Env). after e c t.body.post)) (ap (tested c t.body) (sym is) ∙ came-false c t.body b start mid came fails))

-- or true
pub run-some : (r : Rules) (c : Catalog) (t : TRule) (s : Slots) (b : Bool) (start mid new : Env) → start ≡ env_over r (trule_scope r t s) → tested c t.body start ≡ cond b (Some mid) None → b ≡ true → new ≡ after mid c t.body.post → Some new ≡ trule_run r c t s
run-some r c t s b start mid new is came holds after_it =
    ap Some after_it ∙ sym (ap (option_map (λ (e : Env). after e c t.body.post)) (ap (tested c t.body) (sym is) ∙ came-true c t.body b start mid came holds))

-- what has no descriptor stands for an empty one
pub none-described : (o : Result Desc Memory) (l : Layout) (ds : Scope) (name : Symbol) → l ≡ [] → contains (names_bound ds) name ≡ false → IfOk o (λ d. d ≡ plain l) → IfOk o (λ d. d ≡ desc_in ds name)
none-described (Ok d) l ds name empty unknown is = is ∙ (ap plain empty ∙ sym (desc_in-unknown ds name unknown))
none-described (Err e) l ds name empty unknown is = tt

-- ---- what statements leave

after-cons : (env : Env) (c : Catalog) (s : Stmt) (ss : List Stmt) → after env c (s ∷ ss) ≡ after (after env c (s ∷ [])) c ss
after-cons env c (set d p e) ss = refl
after-cons env c (copy d e) ss = refl

-- sound still, with the same names
pub record StaysSound (old new : Env) : Type 0 where
  pub sound : IsSound new
  pub context : context_of new ≡ context_of old

after-one : (env : Env) (c : Catalog) (s : Stmt) → IsSound env → are_typed_here env (s ∷ []) ≡ true → StaysSound env (after env c (s ∷ []))
after-one env c (set d p e) sound typed = record {
  sound = sound-set env d p e (value_here env c e) sound typed (λ t is. has_kind-value_here env c e t sound is);
  context = context-with_desc_in env d (with_value env.layout p (value_here env c e) (desc_in env.descs d));
}
after-one env c (copy d e) sound typed = record { sound = sound-copy env d e sound typed; context = context-with_desc_in env d (desc_in env.descs e) }

after-context : (env : Env) (c : Catalog) (s : Stmt) (ss : List Stmt) → context_of (after env c (s ∷ [])) ≡ context_of env → are_typed_here env ss ≡ true → are_typed_here (after env c (s ∷ [])) ss ≡ true
after-context env c s ss same typed = ap (λ (k : Context). list_all (is_typed_stmt env.rules.properties (signatures_of env.rules.helpers) k) ss) same ∙ typed

pub after-sound : (env : Env) (c : Catalog) (ss : List Stmt) → IsSound env → are_typed_here env ss ≡ true → StaysSound env (after env c ss)
after-sound env c [] sound typed = record { sound = sound; context = refl }
after-sound env c (s ∷ ss) sound typed =
    let typed_first : (p : Stmt → Bool) → list_all p (s ∷ ss) ≡ true → list_all p (s ∷ []) ≡ true = λ p all. both_true (first_so (p s) (list_all p ss) all) refl in
    let typed_rest : (p : Stmt → Bool) → list_all p (s ∷ ss) ≡ true → list_all p ss ≡ true = λ p all. second_so (p s) (list_all p ss) all in
    let asked : Stmt → Bool = is_typed_stmt env.rules.properties (signatures_of env.rules.helpers) (context_of env) in
    let one = after-one env c s sound (typed_first asked typed) in
    let rest = after-sound (after env c (s ∷ [])) c ss one.sound (after-context env c s ss one.context (typed_rest asked typed)) in
    subst (λ (new : Env). StaysSound env new) (sym (after-cons env c s ss)) (record { sound = rest.sound; context = rest.context ∙ one.context })

-- where its test is true, the environment that a T-rule leaves is ready
pub trule_run-ready : (r : Rules) (c : Catalog) (t : TRule) (s : Slots) (env : Env) → CanRun r t → AreSlotsOf r t.left s → trule_run r c t s ≡ Some env → IsReady r (trule_descs t) env
trule_run-ready r c t s env rule slots ran =
    let names : List Symbol = trule_descs t in
    let descs : List Desc = all_slots s ++ map (λ n. plain r.properties) (right_descs t.right) in
    let start : Env = env_over r (trule_scope r t s) in
    let scoped = trule-scoped r t s slots in
    let is : start ≡ env_over r (zip names descs) = ap (λ (p : Scope). env_over r p) (sym scoped.is) in
    let sound : IsSound start = subst IsSound (sym is) (sound_over r names descs rule.helpers (trule-fits r t s slots)) in
    let ready = (prepared r names names descs descs (trule_scope r t s) start scoped refl refl is sound).ready in
    let mid = option_map-some (λ (e : Env). after e c t.body.post) (tested c t.body start) env ran in
    let before : Env = after start c t.body.pre in
    let first = after-sound start c t.body.pre sound (pre-typed r names start t.body ready rule) in
    let ready_mid = ready-after r names start before ready first.sound first.context refl in
    let last = after-sound before c t.body.post first.sound (post-typed r names before t.body ready_mid rule) in
    let ready_last = ready-after r names before (after before c t.body.post) ready_mid last.sound last.context refl in
    subst (IsReady r names) (ap (λ (e : Env). after e c t.body.post) (sym (tested-after c t.body start mid.0 mid.1)) ∙ mid.2) ready_last
