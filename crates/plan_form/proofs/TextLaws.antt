-- The text of a plan, piece by piece.
use Rattle.std.proofs.Common.{◌≡◌, ℕ, ◌+◌, ◌<◌, ◌≤◌, min, List, [], ◌∷◌, ◌++◌, take, length, Option, Some, get_or, ap, sym, ◌∙◌, append_assoc, append-nil}
use Rattle.std.specs.Prelude.{slice_get, zip}
use Rattle.std.specs.List.{flat_map}
use Rattle.std.proofs.lemmas.List.Concat.{flat_map-append}
use Rattle.pr_value.specs.Symbols.{Symbol}
use Rattle.pr_value.specs.Trees.{tree, trees_of}
use Rattle.pr_value.specs.declared.property.Property.{Property}
use Rattle.pr_value.specs.declared.value.Value.{Value}
use Rattle.descriptor_types.specs.Descriptors.{Desc, Layout}
use Rattle.rule_ast.specs.Syntax.{Rules}
use Rattle.plan_form.proofs.PairLaws.{zip-more, zip-all, read-at}
use Rattle.plan_form.specs.Plans.{Plan, algorithm}
use Rattle.plan_form.specs.PlanText.{algorithm_name, all_shown, inner, inputs_text, line, node_text, shown}

abbrev pair_shown : Property × Value → List ℕ
pair_shown p = shown p.0 p.1

all_shown-more : (l : Layout) (d : Desc) (i : ℕ) (p : Property) (v : Value) → slice_get l i ≡ Some p → slice_get d i ≡ Some v → all_shown (take (i + 1) l) d ≡ all_shown (take i l) d ++ shown p v
all_shown-more l d i p v first second =
    ap (flat_map pair_shown) (zip-more l d i p v first second)
    ∙ (flat_map-append pair_shown (zip (take i l) d) ((p, v) ∷ []) ∙ ap (λ t. all_shown (take i l) d ++ t) (append-nil (shown p v)))

-- one property more
pub shown_more : (l : Layout) (d : Desc) (i : ℕ) (p : Property) (v : Value) (old mid new : List ℕ) → i < length l → p ≡ get_or l i p → slice_get d i ≡ Some v
    → mid ≡ old ++ all_shown (take i l) d → new ≡ mid ++ shown p v → new ≡ old ++ all_shown (take (i + 1) l) d
shown_more l d i p v old mid new within read second before after =
    after ∙ (ap (λ t. t ++ shown p v) before ∙ (append_assoc old (all_shown (take i l) d) (shown p v) ∙ ap (λ t. old ++ t) (sym (all_shown-more l d i p v (read-at l i p within read) second))))

-- and in the end all
pub shown_all : (l : Layout) (d : Desc) (n : ℕ) (old new : List ℕ) → min (length l) (length d) ≤ n → new ≡ old ++ all_shown (take n l) d → new ≡ old ++ all_shown l d
shown_all l d n old new past is = is ∙ ap (λ ps. old ++ flat_map pair_shown ps) (zip-all l d n past)

-- a node's line and its inputs
pub node_pieces : (r : Rules) (indent deep : List ℕ) (n : ℕ) (d : Desc) (name : Option Symbol) (ps qs : List Plan) (p : Plan) (old mid new : List ℕ) → p ≡ tree (algorithm n d) ps → deep ≡ inner indent name → qs ≡ ps
    → name ≡ algorithm_name r n → mid ≡ old ++ line r indent name d → new ≡ mid ++ inputs_text r deep (trees_of qs) → new ≡ old ++ node_text r indent p
node_pieces r indent deep n d name ps qs p old mid new is deeper same found first second =
    let below : inputs_text r deep (trees_of qs) ≡ inputs_text r (inner indent name) (trees_of ps) =
    ap (λ t. inputs_text r t (trees_of qs)) deeper ∙ ap (λ (xs : List Plan). inputs_text r (inner indent name) (trees_of xs)) same in
    second ∙ (ap (λ t. t ++ inputs_text r deep (trees_of qs)) first ∙ (append_assoc old (line r indent name d) (inputs_text r deep (trees_of qs))
    ∙ (ap (λ t. old ++ (line r indent name d ++ t)) below ∙ (ap (λ (o : Option Symbol). old ++ (line r indent o d ++ inputs_text r (inner indent o) (trees_of ps))) found
    ∙ ap (λ (x : Plan). old ++ node_text r indent x) (sym is)))))

inputs_text-push : (r : Rules) (indent : List ℕ) (ps : List Plan) (p : Plan) → inputs_text r indent (trees_of (ps ++ p ∷ [])) ≡ inputs_text r indent (trees_of ps) ++ node_text r indent p
inputs_text-push r indent [] p = append-nil (node_text r indent p)
inputs_text-push r indent (q ∷ ps) p = ap (λ t. node_text r indent q ++ t) (inputs_text-push r indent ps p) ∙ sym (append_assoc (node_text r indent q) (inputs_text r indent (trees_of ps)) (node_text r indent p))

-- one node more
pub inputs_more : (r : Rules) (indent : List ℕ) (ps qs : List Plan) (p : Plan) (old mid new : List ℕ) → qs ≡ ps ++ p ∷ [] → mid ≡ old ++ inputs_text r indent (trees_of ps) → new ≡ mid ++ node_text r indent p
    → new ≡ old ++ inputs_text r indent (trees_of qs)
inputs_more r indent ps qs p old mid new more first second =
    second ∙ (ap (λ t. t ++ node_text r indent p) first ∙ (append_assoc old (inputs_text r indent (trees_of ps)) (node_text r indent p)
    ∙ (ap (λ t. old ++ t) (sym (inputs_text-push r indent ps p)) ∙ ap (λ (xs : List Plan). old ++ inputs_text r indent (trees_of xs)) (sym more))))
