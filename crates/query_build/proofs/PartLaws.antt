-- The nodes of a query, and what is at fault at them.
use Rattle.std.proofs.Common.{◌≡◌, ℕ, false, List, [], ◌∷◌, ◌++◌, flat_map, length, map, refl, ap, sym, ◌∙◌, append_assoc}
use Rattle.std.specs.List.{list_any}
use Rattle.std.proofs.lemmas.List.{length-map, map-append}
use Rattle.pr_value.specs.Symbols.{Symbol}
use Rattle.pr_value.specs.Trees.{trees_of, list_of}
use Rattle.pr_value.specs.declared.property.Property.{Property}
use Rattle.pr_value.proofs.TreeLaws.{list_of_trees_of}
use Rattle.catalog.specs.Contents.{field}
use Rattle.query_build.specs.Refusals.{Part, parts, parts_of, is_wrong_field}
use Rattle.query_build.specs.SeenParts.{seen_part}
use Rattle.query_build.specs.declared.parts.Part as rust
use Rattle.rule_ast.specs.Syntax.{QueryLabel}
use Rattle.rule_ast.specs.Seen.{seen_query}
use Rattle.rule_ast.proofs.SeenLaws.{seen_node}
use Rattle.rule_ast.specs.declared.query.QueryText as query
use Rattle.rule_ast.specs.declared.query.QueryText.TheVariants as queries
use Rattle.rule_ast.specs.declared.query.Setting.{Setting}

pub inputs_of-list : (qs : List query.QueryText) → length (list_of (trees_of (map seen_query qs))) ≡ length qs
inputs_of-list qs = ap length (list_of_trees_of (map seen_query qs)) ∙ length-map qs seen_query

parts-list : (qs : List query.QueryText) → parts_of (trees_of (map seen_query qs)) ≡ flat_map (λ q. parts (seen_query q)) qs
parts-list [] = refl
parts-list (q ∷ qs) = ap (λ ps. parts (seen_query q) ++ ps) (parts-list qs)

abbrev operator_part : Symbol → List Setting → ℕ → Part
operator_part o ss n = record { label = QueryLabel.operator o ss; inputs = n }

parts_node : (o : Symbol) (ss : List Setting) (qs : List query.QueryText) → parts (seen_query (queries.Node o ss qs)) ≡ operator_part o ss (length qs) ∷ flat_map (λ q. parts (seen_query q)) qs
parts_node o ss qs =
    ap parts (seen_node o ss qs)
    ∙ (ap (λ n. operator_part o ss n ∷ parts_of (trees_of (map seen_query qs))) (inputs_of-list qs)
    ∙ ap (λ ps. operator_part o ss (length qs) ∷ ps) (parts-list qs))

-- an operator, and then what stands below it
pub node_pushed : (q : query.QueryText) (o : Symbol) (ss : List Setting) (qs below : List query.QueryText) (old mid new : List rust.Part) (p : rust.Part)
    → q ≡ queries.Node o ss qs → mid ≡ old ++ p ∷ [] → seen_part p ≡ operator_part o ss (length qs) → below ≡ qs
    → map seen_part new ≡ map seen_part mid ++ flat_map (λ x. parts (seen_query x)) below → map seen_part new ≡ map seen_part old ++ parts (seen_query q)
node_pushed q o ss qs below old mid new p is pushed seen same rest =
    let here : map seen_part mid ≡ map seen_part old ++ operator_part o ss (length qs) ∷ [] =
    ap (map seen_part) pushed ∙ (map-append seen_part old (p ∷ []) ∙ ap (λ x. map seen_part old ++ x ∷ []) seen) in
    rest
    ∙ (ap (λ xs. map seen_part mid ++ flat_map (λ x. parts (seen_query x)) xs) same
    ∙ (ap (λ ps. ps ++ flat_map (λ x. parts (seen_query x)) qs) here
    ∙ (append_assoc (map seen_part old) (operator_part o ss (length qs) ∷ []) (flat_map (λ x. parts (seen_query x)) qs)
    ∙ ap (λ ps. map seen_part old ++ ps) (sym (ap (λ x. parts (seen_query x)) is ∙ parts_node o ss qs)))))

-- a file of which the catalog says nothing has no wrong value
pub none_wrong : (ps : List Property) → list_any (λ p. is_wrong_field p (field [] p.name)) ps ≡ false
none_wrong [] = refl
none_wrong (p ∷ ps) = none_wrong ps
