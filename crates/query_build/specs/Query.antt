-- The tree of a query, bottom-up.
use Rattle.std.specs.Prelude.{List, [], ◌∷◌, ◌++◌, map, zip, unwrap_or, if◌then◌else◌}
use Rattle.std.specs.Str.{bytes_eq}
use Rattle.pr_value.specs.Symbols.{Symbol}
use Rattle.pr_value.specs.SymbolSets.{set_of}
use Rattle.pr_value.specs.Trees.{Tree, node, Trees, nil, cons, list_of, tree}
use Rattle.pr_value.specs.Values.{default_of}
use Rattle.pr_value.specs.declared.value.Value.{Value}
use Rattle.pr_value.specs.declared.value.Value.TheVariants as value
use Rattle.catalog.specs.Contents.{Field, Entry, listed, free, unknown, Catalog, field, entry}
use Rattle.descriptor_types.specs.Descriptors.{Desc, Layout, plain, with_value}
use Rattle.descriptor_types.specs.Labels.{Label, file, operator}
use Rattle.rule_ast.specs.declared.query.Literal.{Literal}
use Rattle.rule_ast.specs.declared.query.Literal.TheVariants as literal
use Rattle.rule_ast.specs.declared.query.Setting.{Setting}
use Rattle.rule_ast.specs.Syntax.{QueryLabel, Operator, Rules, Query}
use Rattle.action_eval.specs.Environments.{after}
use Rattle.action_eval.specs.Meaning.{desc_in}
use Rattle.rule_runs.specs.Runs.{Scope, env_over}
use Rattle.rule_runs.specs.Sides.{operator_at}
use Rattle.rule_trees.specs.Arities.{operator_named}
use Rattle.rule_trees.specs.Views.{view_in}

abbrev pub literal_value : Literal → Value
literal_value (literal.Number n) = value.Num n
literal_value (literal.Truth b) = value.Truth b
literal_value (literal.Sym s) = value.Sym s
literal_value (literal.SetOf ss) = value.Set (set_of ss)
literal_value (literal.ListOf ss) = value.List ss

-- what the catalog says of a file's properties, of which a free file has none
abbrev pub fields_in : Entry → List Field
fields_in (listed fields) = fields
fields_in free = []
fields_in unknown = []

-- the listed values of declared properties, and the defaults of the others
abbrev pub file_desc : Layout → List Field → Desc
file_desc layout fields = map (λ p. unwrap_or (field fields p.name) (default_of p.kind)) layout

-- settings in order: a later one replaces an earlier one of its property
abbrev pub with_settings : Layout → List Setting → Desc → Desc
with_settings layout [] d = d
with_settings layout (s ∷ ss) d = with_settings layout ss (with_value layout s.property (literal_value s.value) d)

-- an operator's views, and then its own descriptor
abbrev pub operator_scope : Operator → List Desc → Desc → Scope
operator_scope o views own = zip o.views views ++ (o.own, own) ∷ []

-- the defaults, changed by the settings, and then by the initializer over the inputs' views
abbrev pub initial_desc : Rules → Catalog → Operator → List Setting → List Desc → Desc
initial_desc r c o settings views =
    desc_in
    (after (env_over r (operator_scope o views (with_settings r.properties settings (plain r.properties)))) c o.init).descs
    o.own

abbrev mutual
  pub query_tree : Rules → Catalog → Query → Tree Label
  query_tree r c (node (QueryLabel.file name) qs) =
      tree (file name (file_desc r.properties (fields_in (entry c name)))) []
  query_tree r c (node (QueryLabel.operator o settings) qs) =
      node
      (operator (operator_at r.operators o)
      (initial_desc r c (operator_named r.operators o) settings (map (view_in r) (list_of (query_trees r c qs)))))
      (query_trees r c qs)

  pub query_trees : Rules → Catalog → Trees QueryLabel → Trees Label
  query_trees r c nil = nil
  query_trees r c (cons q qs) = cons (query_tree r c q) (query_trees r c qs)
