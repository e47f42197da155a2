-- The tree of a query that is not refused is one of the rules and the catalog.
use Rattle.std.proofs.Common.{◌≡◌, ℕ, suc, true, List, [], ◌∷◌, ◌++◌, length, map, None, Some, refl, ap, sym, ◌∙◌, subst}
use Rattle.std.specs.Prelude.{slice_get}
use Rattle.std.specs.Cmp.{first_so, second_so}
use Rattle.std.specs.Cmp.Derive.{both_true}
use Rattle.std.specs.List.{list_all}
use Rattle.std.proofs.lemmas.List.{length-map}
use Rattle.action_eval.proofs.StatementLaws.{context-with_desc_in, has_kind-value_here, sound-copy, sound-set}
use Rattle.action_eval.specs.Environments.{Env, IsSound, after, are_typed_here, context_of, value_here}
use Rattle.action_eval.specs.Meaning.{desc_in}
use Rattle.catalog.specs.Contents.{Catalog, entry}
use Rattle.descriptor_types.specs.Descriptors.{Desc, plain, with_value}
use Rattle.descriptor_types.specs.Labels.{Label}
use Rattle.pr_value.proofs.TreeLaws.{trees_of_list_of}
use Rattle.pr_value.specs.Symbols.{Symbol}
use Rattle.pr_value.specs.Trees.{Tree, node, Trees, nil, cons, list_of, trees_of}
use Rattle.query_build.proofs.BuildLaws.{file-tree, fits-scope, initial-fits, initial-free, named_nothing, stands-right, typed-init, zip-scope}
use Rattle.query_build.proofs.FaultLaws.{faultless}
use Rattle.rule_runs.proofs.ScopeLaws.{sound_over}
use Rattle.query_build.proofs.SoundLaws.{file-sound, settings-sound}
use Rattle.rule_trees.proofs.PlainLaws.{plain-sound}
use Rattle.query_build.specs.Faultless.{AreFaultless, IsFaultless}
use Rattle.query_build.specs.Query.{fields_in, file_desc, initial_desc, operator_scope, query_tree, query_trees, with_settings}
use Rattle.rule_trees.specs.Arities.{operator_named}
use Rattle.query_build.specs.Refusals.{first_setting, is_wrong_file, is_wrong_setting, refusal_of}
use Rattle.rule_runs.specs.Runs.{env_over}
use Rattle.rule_trees.specs.Trees.{AreTrees, IsDesc, IsTree}
use Rattle.rule_trees.specs.Views.{view_in}
use Rattle.rule_ast.specs.Descs.{operator_descs}
use Rattle.rule_ast.specs.Syntax.{Operator, Query, QueryLabel, Rules, Stmt, set, copy}
use Rattle.rule_ast.specs.Typing.{Context, is_typed_stmt, signatures_of}
use Rattle.rule_ast.specs.declared.query.Setting.{Setting}
use Rattle.rule_types.proofs.AcceptedCosts.{accepted-one_cost}
use Rattle.rule_types.proofs.AcceptedTypes.{accepted-types}
use Rattle.rule_types.specs.Conditions.{refused_by}

-- ---- statements that are well typed

-- the descriptors fit still, under the same names
record StaysSound (old new : Env) : Type 0 where
  sound : IsSound new
  context : context_of new ≡ context_of old

-- statements that are well typed before another one are so behind it
typed-behind : (env : Env) (s : Stmt) (ss : List Stmt) (context : Context) → context ≡ context_of env → are_typed_here env (s ∷ ss) ≡ true
    → list_all (is_typed_stmt env.rules.properties (signatures_of env.rules.helpers) context) ss ≡ true
typed-behind env s ss context same typed =
    let is_typed = is_typed_stmt env.rules.properties (signatures_of env.rules.helpers) in
    ap (λ (x : Context). list_all (is_typed x) ss) same ∙ second_so (is_typed (context_of env) s) (list_all (is_typed (context_of env)) ss) typed

typed-first : (env : Env) (s : Stmt) (ss : List Stmt) → are_typed_here env (s ∷ ss) ≡ true → are_typed_here env (s ∷ []) ≡ true
typed-first env s ss typed =
    let is_typed = is_typed_stmt env.rules.properties (signatures_of env.rules.helpers) (context_of env) in
    both_true (first_so (is_typed s) (list_all is_typed ss) typed) refl

sound-after : (c : Catalog) (ss : List Stmt) (env : Env) → IsSound env → are_typed_here env ss ≡ true → StaysSound env (after env c ss)
sound-after c [] env sound typed = record { sound = sound; context = refl }
sound-after c (set d p e ∷ ss) env sound typed =
    let v = value_here env c e in
    let one = sound-set env d p e v sound (typed-first env (set d p e) ss typed) (λ t is. has_kind-value_here env c e t sound is) in
    let context = context-with_desc_in env d (with_value env.layout p v (desc_in env.descs d)) in
    let rest = sound-after c ss (after env c (set d p e ∷ [])) one (typed-behind env (set d p e) ss _ context typed) in
    record { sound = rest.sound; context = rest.context ∙ context }
sound-after c (copy d e ∷ ss) env sound typed =
    let one = sound-copy env d e sound (typed-first env (copy d e) ss typed) in
    let context = context-with_desc_in env d (desc_in env.descs e) in
    let rest = sound-after c ss (after env c (copy d e ∷ [])) one (typed-behind env (copy d e) ss _ context typed) in
    record { sound = rest.sound; context = rest.context ∙ context }

-- ---- nodes

sound-initial_desc : (r : Rules) (c : Catalog) (i : ℕ) (o : Operator) (ss : List Setting) (ts : List (Tree Label)) → refused_by r ≡ None → slice_get r.operators i ≡ Some o → length o.views ≡ length ts
    → AreTrees r c (trees_of ts) → first_setting (is_wrong_setting r) ss ≡ None → IsDesc r (initial_desc r c o ss (map (view_in r) ts))
sound-initial_desc r c i o ss ts accepted at as_many sound right =
    let one = accepted-one_cost r accepted in
    let views = map (view_in r) ts in
    let d = with_settings r.properties ss (plain r.properties) in
    let own = settings-sound r one ss (plain r.properties) right (plain-sound r one) in
    let seen : length o.views ≡ length views = as_many ∙ sym (length-map ts (view_in r)) in
    let env = env_over r (operator_scope o views d) in
    let zipped = zip-scope o views d (operator_descs o) (views ++ d ∷ []) seen refl refl in
    let start : IsSound env =
    subst (λ (ds : List (Symbol × Desc)). IsSound (env_over r ds)) zipped
    (sound_over r (operator_descs o) (views ++ d ∷ []) (accepted-types r accepted).helpers (fits-scope r c ts d (views ++ d ∷ []) accepted sound own refl)) in
    let stays = sound-after c o.init env start (typed-init r i o views d env accepted at seen refl) in (
      initial-fits r o views d env (after env c o.init) seen refl refl stays.sound stays.context,
      initial-free r c i o ss ts accepted at sound own,
    )

length-query_trees : (r : Rules) (c : Catalog) (qs : Trees QueryLabel) → length (list_of (query_trees r c qs)) ≡ length (list_of qs)
length-query_trees r c nil = refl
length-query_trees r c (cons q qs) = ap suc (length-query_trees r c qs)

-- ---- trees

module _ (r : Rules) (c : Catalog) (accepted : refused_by r ≡ None) where
  mutual
    tree-faultless : (q : Query) → IsFaultless r c q → IsTree r c (query_tree r c q)
    tree-faultless (node (QueryLabel.file name) qs) (right, below) =
        let fields = fields_in (entry c name) in
        file-tree r c name (file_desc r.properties fields) (file-sound r fields (accepted-one_cost r accepted) (named_nothing (is_wrong_file r fields) name right.types)) right.file
    tree-faultless (node (QueryLabel.operator o ss) qs) (right, below) =
        let ts = query_trees r c qs in
        let all = trees-faultless qs below in
        let stands = stands-right r o ss (length (list_of qs)) accepted right.arity in
        let as_many : length (operator_named r.operators o).views ≡ length (list_of ts) = stands.views ∙ sym (length-query_trees r c qs) in
        let listed = subst (λ (us : Trees Label). AreTrees r c us) (sym (trees_of_list_of ts)) all in (
          sound-initial_desc r c _ (operator_named r.operators o) ss (list_of ts) accepted stands.at as_many listed right.types,
          (operator_named r.operators o, stands.at, as_many),
          all,
        )

    trees-faultless : (qs : Trees QueryLabel) → AreFaultless r c qs → AreTrees r c (query_trees r c qs)
    trees-faultless nil all = tt
    trees-faultless (cons q qs) all = (tree-faultless q all.0, trees-faultless qs all.1)

pub built-tree : (r : Rules) (c : Catalog) (q : Query) → refused_by r ≡ None → refusal_of r c q ≡ None → IsTree r c (query_tree r c q)
built-tree r c q accepted built = tree-faultless r c accepted q (faultless r c q built)
