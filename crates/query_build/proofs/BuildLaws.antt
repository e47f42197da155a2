-- The trees of a query, and the scopes of initializers.
use Rattle.std.proofs.Common.{◌≡◌, ◌≢◌, ℕ, zero, suc, ◌+◌, ◌<◌, Bool, true, false, cond, not, ◌||◌, ◌&&◌, List, [], ◌∷◌, ◌++◌, get_or, length, map, take, Option, Some, None, Result, Ok, Err, IfOk, refl, ap, sym, ◌∙◌, subst, arith, length-append}
use Rattle.std.specs.Prelude.{◌==◌, slice_get}
use Rattle.std.specs.Cmp.{first_so, second_so, unsigned_Decides}
use Rattle.std.specs.Cmp.Derive.{both_true}
use Rattle.std.specs.Cmp.Lexicographic.{bytes_decides}
use Rattle.std.specs.List.{list_any, list_all, zip}
use Rattle.std.specs.Str.{bytes_eq}
use Rattle.std.proofs.lemmas.Bool.{false≢true, not-false, not-true}
use Rattle.std.proofs.lemmas.List.{map-append, take_more}
use Rattle.std.proofs.lemmas.List.Folds.{list_all-append, list_any-append}
use Rattle.action_eval.proofs.KindLaws.{fits-desc_in}
use Rattle.action_eval.proofs.PlainLaws.{or_first, or_second}
use Rattle.action_eval.proofs.TypeLaws.{some-same, bytes_eq-sym}
use Rattle.action_eval.specs.Environments.{Env, IsSound, after, are_typed_here, context_of, scope_of}
use Rattle.action_eval.specs.Meaning.{desc_in}
use Rattle.catalog.specs.Contents as contents
use Rattle.catalog.specs.Contents.{Catalog, Entry, entry, listed, unknown}
use Rattle.descriptor_types.specs.Descriptors.{Desc, Mask, fits, plain}
use Rattle.descriptor_types.specs.Labels.{Label, file, operator, seen_tree, view}
use Rattle.descriptor_types.specs.declared.tree.Tree as rust
use Rattle.pr_value.proofs.TreeLaws.{list_of_trees_of}
use Rattle.pr_value.proofs.ZipLaws.{zip-push, firsts}
use Rattle.pr_value.specs.Repeats.{are_distinct}
use Rattle.pr_value.specs.Symbols.{Symbol}
use Rattle.pr_value.specs.SymbolSets.{contains}
use Rattle.pr_value.specs.Trees.{Tree, node, Trees, cons, list_of, trees_of, tree}
use Rattle.pr_value.specs.declared.memory.Memory.{Memory}
use Rattle.pr_value.specs.declared.property.Property.{Property}
use Rattle.rule_trees.proofs.CostLaws.{AreFree, free-desc_in, free-run}
use Rattle.query_build.specs.Built.{built_operator}
use Rattle.rule_trees.proofs.OperatorLaws.{Stands, stands-takes}
use Rattle.rule_trees.specs.Arities.{operator_named}
use Rattle.query_build.specs.Query.{initial_desc, operator_scope, query_tree, query_trees, with_settings}
use Rattle.rule_trees.proofs.FoundLaws.{view-IsDesc}
use Rattle.query_build.proofs.PartLaws.{inputs_of-list}
use Rattle.query_build.specs.Faultless.{IsFaultless, IsRight}
use Rattle.query_build.specs.Refusals.{IsTold, is_unknown, named_if, unknown_file, wrong_arity}
use Rattle.rule_runs.specs.Runs.{Scope, env_over}
use Rattle.rule_runs.specs.Sides.{operator_at}
use Rattle.rule_trees.specs.Trees.{IsDesc, IsFree, IsTree, AreTrees}
use Rattle.rule_trees.specs.Views.{seen, view_in}
use Rattle.rule_ast.specs.CostForms.{cost_name}
use Rattle.rule_ast.specs.Descs.{operator_descs}
use Rattle.query_build.specs.declared.refusal.QueryRefusal.{QueryRefusal}
use Rattle.query_build.specs.declared.refusal.QueryRefusal.TheVariants as refusal
use Rattle.rule_ast.proofs.SeenLaws.{seen_node}
use Rattle.rule_ast.specs.Seen.{seen_operator, seen_query}
use Rattle.rule_ast.specs.declared.parts.Operator as code
use Rattle.rule_ast.specs.Syntax.{QueryLabel, Operator, Query, Rules}
use Rattle.rule_ast.specs.Typing.{Context, is_typed_stmt, signatures_of}
use Rattle.rule_ast.specs.declared.query.QueryText as query
use Rattle.rule_ast.specs.declared.query.QueryText.TheVariants as queries
use Rattle.rule_ast.specs.declared.query.Setting.{Setting}
use Rattle.rule_types.proofs.AcceptedCosts.{accepted-assigned}
use Rattle.rule_types.proofs.AcceptedNames.{accepted-descs, accepted-names}
use Rattle.rule_types.proofs.AcceptedTypes.{accepted-types}
use Rattle.rule_types.specs.AcceptedLaws.{has_typed_init, no_use_in}
use Rattle.rule_types.specs.Conditions.{operator_names, refused_by, takes}
use Rattle.rule_types.specs.LaterConditions.{assigns_cost}
use Rattle.rule_types.specs.Uses.{any_use_in}

-- ---- operators

-- what all operators pass, a declared one does
passes-at : {A : Type 0} (p : A → Bool) (xs : List A) (i : ℕ) (x : A) → list_all p xs ≡ true → slice_get xs i ≡ Some x → p x ≡ true
passes-at p [] i x all at = cc
passes-at p (y ∷ ys) zero x all at = subst (λ z. p z ≡ true) (some-same at) (first_so (p y) _ all)
passes-at p (y ∷ ys) (suc i) x all at = passes-at p ys i x (second_so (p y) _ all) at

-- ---- the scope of an initializer

fits-views : (r : Rules) (c : Catalog) (ts : List (Tree Label)) → AreTrees r c (trees_of ts) → list_all (fits r.properties) (map (view_in r) ts) ≡ true
fits-views r c [] sound = refl
fits-views r c (t ∷ ts) sound = both_true (view-IsDesc r c t sound.0).0 (fits-views r c ts sound.1)

pub fits-scope : (r : Rules) (c : Catalog) (ts : List (Tree Label)) (d : Desc) (ds : List Desc) → refused_by r ≡ None → AreTrees r c (trees_of ts) → IsDesc r d → ds ≡ map (view_in r) ts ++ d ∷ []
    → list_all (fits r.properties) ds ≡ true
fits-scope r c ts d ds accepted sound own is =
    ap (list_all (fits r.properties)) is
    ∙ (list_all-append (fits r.properties) (map (view_in r) ts) (d ∷ []) ∙ both_true (fits-views r c ts sound) (both_true own.0 refl))

free-zip : (r : Rules) (c : Catalog) (names : List Symbol) (ts : List (Tree Label)) (name : Symbol) (d : Desc) → AreTrees r c (trees_of ts) → IsFree r d
    → AreFree r (zip names (map (view_in r) ts) ++ (name, d) ∷ [])
free-zip r c [] ts name d sound free = (free, tt)
free-zip r c (n ∷ names) [] name d sound free = (free, tt)
free-zip r c (n ∷ names) (t ∷ ts) name d sound free = ((view-IsDesc r c t sound.0).1, free-zip r c names ts name d sound.1 free)

pub names-scope : (o : Operator) (views : List Desc) (d : Desc) → length o.views ≡ length views → map (λ (p : Symbol × Desc). p.0) (operator_scope o views d) ≡ operator_descs o
names-scope o views d as_many =
    ap (map (λ (p : Symbol × Desc). p.0)) (sym (zip-push o.views views o.own d as_many))
    ∙ sym (firsts (o.views ++ o.own ∷ []) (views ++ d ∷ []) more) where
      more : length (o.views ++ o.own ∷ []) ≡ length (views ++ d ∷ [])
      more = omega (arith, length-append o.views (o.own ∷ []), length-append views (d ∷ []), as_many)

pub contains-own : (o : Operator) → contains (operator_descs o) o.own ≡ true
contains-own o =
    list_any-append (bytes_eq o.own) o.views (o.own ∷ [])
    ∙ (ap (λ b. contains o.views o.own || (b || false)) ((bytes_decides o.own o.own).1 refl) ∙ or_true (contains o.views o.own)) where
      or_true : (b : Bool) → (b || true) ≡ true
      or_true true = refl
      or_true false = refl

-- ---- what an accepted rule set's operators are

pub distinct-descs : (r : Rules) (i : ℕ) (o : Operator) → refused_by r ≡ None → slice_get r.operators i ≡ Some o → are_distinct (operator_descs o) ≡ true
distinct-descs r i o accepted at = passes-at (λ (p : Operator). are_distinct (operator_descs p)) r.operators i o (accepted-descs r accepted).operators at

pub typed-init : (r : Rules) (i : ℕ) (o : Operator) (views : List Desc) (d : Desc) (env : Env) → refused_by r ≡ None → slice_get r.operators i ≡ Some o → length o.views ≡ length views
    → env ≡ env_over r (operator_scope o views d) → are_typed_here env o.init ≡ true
typed-init r i o views d env accepted at as_many is =
    let typed = passes-at (has_typed_init r) r.operators i o (accepted-types r accepted).inits at in
    let context : List Symbol → Context = λ ss. record { descs = ss; vars = [] } in
    ap (λ (e : Env). are_typed_here e o.init) is
    ∙ (ap (λ (ss : List Symbol). list_all (is_typed_stmt r.properties (signatures_of r.helpers) (context ss)) o.init) (names-scope o views d as_many) ∙ typed)

pub initial-free : (r : Rules) (c : Catalog) (i : ℕ) (o : Operator) (ss : List Setting) (ts : List (Tree Label)) → refused_by r ≡ None → slice_get r.operators i ≡ Some o → AreTrees r c (trees_of ts)
    → IsDesc r (with_settings r.properties ss (plain r.properties)) → IsFree r (initial_desc r c o ss (map (view_in r) ts))
initial-free r c i o ss ts accepted at sound own =
    let d = with_settings r.properties ss (plain r.properties) in
    let scope = operator_scope o (map (view_in r) ts) d in
    let cost = cost_name r.properties in
    let none = not-true (list_any (any_use_in (assigns_cost cost)) o.init) (passes-at (λ (p : Operator). no_use_in (assigns_cost cost) p.init) r.operators i o (accepted-assigned r accepted).inits at) in
    free-desc_in r (after (env_over r scope) c o.init).descs o.own
    (free-run r c o.init (scope_of (env_over r scope)) none (free-zip r c o.views ts o.own d sound own.1))

-- ---- trees

query_trees-list : (r : Rules) (c : Catalog) (qs : List query.QueryText) → query_trees r c (trees_of (map seen_query qs)) ≡ trees_of (map (λ q. query_tree r c (seen_query q)) qs)
query_trees-list r c [] = refl
query_trees-list r c (q ∷ qs) = ap (λ (ts : Trees Label). cons (query_tree r c (seen_query q)) ts) (query_trees-list r c qs)

-- an operator's node over the trees of its inputs
pub query_tree-node : (r : Rules) (c : Catalog) (o : Symbol) (ss : List Setting) (qs : List query.QueryText) (ts : List (Tree Label)) → ts ≡ map (λ q. query_tree r c (seen_query q)) qs
    → built_operator r c o ss ts ≡ query_tree r c (tree (QueryLabel.operator o ss) (map seen_query qs))
query_tree-node r c o ss qs ts are =
    let below : query_trees r c (trees_of (map seen_query qs)) ≡ trees_of ts = query_trees-list r c qs ∙ ap trees_of (sym are) in
    let made : Trees Label → Tree Label =
    λ us. node (operator (operator_at r.operators o) (initial_desc r c (operator_named r.operators o) ss (map (view_in r) (list_of us)))) us in
    ap (λ (us : List (Tree Label)). node (operator (operator_at r.operators o) (initial_desc r c (operator_named r.operators o) ss (map (view_in r) us))) (trees_of ts)) (sym (list_of_trees_of ts))
    ∙ ap made (sym below)

pub trees-push : (r : Rules) (c : Catalog) (ts : List rust.Tree) (t : rust.Tree) → AreTrees r c (trees_of (map seen_tree ts)) → IsTree r c (seen_tree t) → AreTrees r c (trees_of (map seen_tree (ts ++ t ∷ [])))
trees-push r c [] t all sound = (sound, tt)
trees-push r c (u ∷ ts) t all sound = (all.0, trees-push r c ts t all.1 sound)

pub file-tree : (r : Rules) (c : Catalog) (name : Symbol) (d : Desc) → IsDesc r d → unknown_file c (QueryLabel.file name) 0 ≡ None → IsTree r c (tree (file name d) [])
file-tree r c name d sound known = (sound, (is_known (entry c name) name known, refl), tt) where
  is_known : (e : Entry) (name : Symbol) → named_if (is_unknown e) name ≡ None → e ≢ unknown
  is_known (listed fields) name is = λ e. cc
  is_known contents.free name is = λ e. cc
  is_known unknown name is = λ e. cc

pub operator-tree : (r : Rules) (c : Catalog) (o : Symbol) (ss : List Setting) (ts : List (Tree Label)) → Stands r.operators o (length ts) → AreTrees r c (trees_of ts)
    → IsDesc r (initial_desc r c (operator_named r.operators o) ss (map (view_in r) ts)) → IsTree r c (built_operator r c o ss ts)
operator-tree r c o ss ts stands sound own =
    (own, (operator_named r.operators o, stands.at, stands.views ∙ sym (ap length (list_of_trees_of ts))), sound)

-- a condition that names nothing does not hold
pub named_nothing : (b : Bool) (name : Symbol) → named_if b name ≡ None → b ≡ false
named_nothing true name is = cc
named_nothing false name is = refl

pub takes-right : (r : Rules) (o : Symbol) (ss : List Setting) (n : ℕ) → wrong_arity r (QueryLabel.operator o ss) n ≡ None → takes r.operators o n ≡ true
takes-right r o ss n is = not-false _ (named_nothing (not (takes r.operators o n)) o is)

pub stands-right : (r : Rules) (o : Symbol) (ss : List Setting) (n : ℕ) → refused_by r ≡ None → wrong_arity r (QueryLabel.operator o ss) n ≡ None → Stands r.operators o n
stands-right r o ss n accepted is = stands-takes r.operators o n (accepted-names r accepted).operators (takes-right r o ss n is)

-- ---- as the code meets them

pub desc_in-unknown : (ds : Scope) (name : Symbol) → contains (map (λ (d : Symbol × Desc). d.0) ds) name ≡ false → desc_in ds name ≡ []
desc_in-unknown [] name is = refl
desc_in-unknown (d ∷ ds) name is =
    ap (λ b. cond b d.1 (desc_in ds name)) (bytes_eq-sym d.0 name ∙ or_first (bytes_eq name d.0) _ is) ∙ desc_in-unknown ds name (or_second (bytes_eq name d.0) _ is)

pub ok-same : (result : Result Desc Memory) (d e : Desc) → IfOk result (λ f. f ≡ d) → d ≡ e → IfOk result (λ f. f ≡ e)
ok-same (Ok f) d e is same = is ∙ same
ok-same (Err m) d e is same = tt

map-views : (layout : List Property) (m : Mask) (ts : List rust.Tree) → map (λ t. view layout m (seen_tree t)) ts ≡ map (view layout m) (map seen_tree ts)
map-views layout m [] = refl
map-views layout m (t ∷ ts) = ap (λ (ds : List Desc). view layout m (seen_tree t) ∷ ds) (map-views layout m ts)

pub views-pushed : (r : Rules) (layout : List Property) (m : Mask) (ts : List rust.Tree) (old new : List Desc) → layout ≡ r.properties → m ≡ seen r → old ≡ []
    → new ≡ old ++ map (λ t. view layout m (seen_tree t)) ts → new ≡ map (view_in r) (map seen_tree ts)
views-pushed r layout m ts old new laid seen_so none is =
    is
    ∙ (ap (λ (ds : List Desc). ds ++ map (λ t. view layout m (seen_tree t)) ts) none
    ∙ (map-views layout m ts
    ∙ (ap (λ (l : List Property). map (view l m) (map seen_tree ts)) laid ∙ ap (λ (n : Mask). map (view r.properties n) (map seen_tree ts)) seen_so)))

pub zip-scope : (o : Operator) (views : List Desc) (d : Desc) (names : List Symbol) (descs : List Desc) → length o.views ≡ length views → names ≡ operator_descs o → descs ≡ views ++ d ∷ []
    → zip names descs ≡ operator_scope o views d
zip-scope o views d names descs as_many named made =
    ap (λ (ss : List Symbol). zip ss descs) named ∙ (ap (zip (operator_descs o)) made ∙ zip-push o.views views o.own d as_many)

pub initial-fits : (r : Rules) (o : Operator) (views : List Desc) (d : Desc) (old new : Env) → length o.views ≡ length views → old ≡ env_over r (operator_scope o views d) → new.layout ≡ old.layout → IsSound new
    → context_of new ≡ context_of old → fits r.properties (desc_in new.descs o.own) ≡ true
initial-fits r o views d old new as_many is laid sound context =
    let layout : new.layout ≡ r.properties = laid ∙ ap (λ (e : Env). e.layout) is in
    let there : contains (map (λ (p : Symbol × Desc). p.0) new.descs) o.own ≡ true =
    ap (λ (x : Context). contains x.descs o.own) context
    ∙ (ap (λ (e : Env). contains (map (λ (p : Symbol × Desc). p.0) e.descs) o.own) is
    ∙ (ap (λ (ss : List Symbol). contains ss o.own) (names-scope o views d as_many) ∙ contains-own o)) in
    ap (λ (l : List Property). fits l (desc_in new.descs o.own)) (sym layout) ∙ fits-desc_in new.layout new.descs o.own sound.descs there

pub within-map : {X Y : Type 0} (f : X → Y) (xs : List X) (i : ℕ) (y : Y) → slice_get (map f xs) i ≡ Some y → i < length xs
within-map f [] i y at = cc
within-map f (x ∷ xs) zero y at = omega arith
within-map f (x ∷ xs) (suc i) y at = let rest = within-map f xs i y at in omega (arith, rest)

-- the operator that is found by its name
pub found : (os all : List code.Operator) (o : Symbol) (n place : ℕ) → all ≡ os → place ≡ operator_at (map seen_operator all) o → Stands (map seen_operator os) o n
    → (place ≡ operator_at (map seen_operator os) o) × (slice_get (map seen_operator all) place ≡ Some (operator_named (map seen_operator os) o))
found os all o n place same at stands =
    let there : place ≡ operator_at (map seen_operator os) o = at ∙ ap (λ (xs : List code.Operator). operator_at (map seen_operator xs) o) same in
    (there, ap (λ (xs : List code.Operator). slice_get (map seen_operator xs) place) same ∙ (ap (slice_get (map seen_operator os)) there ∙ stands.at))

-- what is right at an operator's node, and below it
pub node-right : (r : Rules) (c : Catalog) (q : query.QueryText) (o : Symbol) (ss : List Setting) (qs : List query.QueryText) → q ≡ queries.Node o ss qs → IsFaultless r c (seen_query q)
    → IsRight r c (QueryLabel.operator o ss) (length qs)
node-right r c q o ss qs is all =
    let here = subst (λ (x : Query). IsFaultless r c x) (ap seen_query is ∙ seen_node o ss qs) all in
    subst (λ (n : ℕ). IsRight r c (QueryLabel.operator o ss) n) (inputs_of-list qs) here.0

abbrev built : Rules → Catalog → query.QueryText → Tree Label
built r c q = query_tree r c (seen_query q)

pub built-more : (r : Rules) (c : Catalog) (qs : List query.QueryText) (i : ℕ) (q : query.QueryText) (ts new : List rust.Tree) (t : rust.Tree) → i < length qs → q ≡ get_or qs i q
    → (map seen_tree ts ≡ map (built r c) (take i qs)) × AreTrees r c (trees_of (map seen_tree ts)) → seen_tree t ≡ built r c q → IsTree r c (seen_tree t) → new ≡ ts ++ t ∷ []
    → (map seen_tree new ≡ map (built r c) (take (i + 1) qs)) × AreTrees r c (trees_of (map seen_tree new))
built-more r c qs i q ts new t within at so_far made sound pushed =
    let more : take (i + 1) qs ≡ take i qs ++ q ∷ [] = take_more qs i q within ∙ ap (λ (x : query.QueryText). take i qs ++ x ∷ []) (sym at) in (
      ap (map seen_tree) pushed
          ∙ (map-append seen_tree ts (t ∷ [])
          ∙ (ap (λ (us : List (Tree Label)). us ++ seen_tree t ∷ []) so_far.0
          ∙ (ap (λ (u : Tree Label). map (built r c) (take i qs) ++ u ∷ []) made
          ∙ sym (ap (map (built r c)) more ∙ map-append (built r c) (take i qs) (q ∷ []))))),
      subst (λ (us : List rust.Tree). AreTrees r c (trees_of (map seen_tree us))) (sym pushed) (trees-push r c ts t so_far.1 sound),
    )

pub tree-same : (result : Result rust.Tree Memory) (t u : Tree Label) → IfOk result (λ x. seen_tree x ≡ t) → t ≡ u → IfOk result (λ x. seen_tree x ≡ u)
tree-same (Ok x) t u is same = is ∙ same
tree-same (Err m) t u is same = tt

pub told-some : (why : Option QueryRefusal) (e : QueryRefusal) → why ≡ Some e → IsTold why e
told-some why refusal.TooManyNodes is = is
told-some why (refusal.UnknownOperator name) is = is
told-some why (refusal.UnknownFile name) is = is
told-some why (refusal.Arity name) is = is
told-some why (refusal.UnknownProperty name) is = is
told-some why (refusal.WrongType name) is = is
told-some why refusal.Memory is = tt
