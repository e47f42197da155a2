-- When the code's trees are seen as equal ones.
use Rattle.std.proofs.Common.{◌≡◌, ℕ, ◌<◌, List, length, map, get_or, Some, option_map, refl, ap, sym, ◌∙◌}
use Rattle.std.specs.Prelude.{slice_get}
use Rattle.std.proofs.lemmas.Option.{same_Some, slice_get-map, slice_get_read}
use Rattle.pr_value.specs.Trees.{Tree, tree}
use Rattle.descriptor_types.proofs.SeenLaws.{inputs-seen_node, seen_node}
use Rattle.descriptor_types.specs.Descriptors.{Desc}
use Rattle.descriptor_types.specs.Labels.{Label, operator, seen_tree}
use Rattle.descriptor_types.specs.declared.tree.Tree as rust
use Rattle.descriptor_types.specs.declared.tree.Tree.TheVariants as variant
use Rattle.pr_value.specs.Trees.{inputs}

-- operators over inputs that are seen as equal
pub same-node : (o p : ℕ) (d e : Desc) (ts us : List rust.Tree) → o ≡ p → d ≡ e → map seen_tree ts ≡ map seen_tree us → seen_tree (variant.Node o d ts) ≡ seen_tree (variant.Node p e us)
same-node o p d e ts us ops descs below =
    seen_node o d ts ∙ (ap (λ (n : ℕ). tree (operator n d) (map seen_tree ts)) ops ∙ (ap (λ (f : Desc). tree (operator p f) (map seen_tree ts)) descs
    ∙ (ap (tree (operator p e)) below ∙ sym (seen_node p e us))))

pub below-node : (o p : ℕ) (d e : Desc) (ts us : List rust.Tree) → seen_tree (variant.Node o d ts) ≡ seen_tree (variant.Node p e us) → map seen_tree ts ≡ map seen_tree us
below-node o p d e ts us same = sym (inputs-seen_node o d ts) ∙ (ap inputs same ∙ inputs-seen_node p e us)

-- where lists are seen as equal, so is what stands at a place
pub same-at : (ts us : List rust.Tree) (i : ℕ) (t u : rust.Tree) → i < length ts → i < length us → t ≡ get_or ts i t → u ≡ get_or us i u → map seen_tree ts ≡ map seen_tree us → seen_tree t ≡ seen_tree u
same-at ts us i t u within others first second same =
    let left : slice_get (map seen_tree ts) i ≡ Some (seen_tree t) = slice_get-map seen_tree ts i ∙ ap (option_map seen_tree) (slice_get_read ts (length ts) i t refl within first) in
    let right : slice_get (map seen_tree us) i ≡ Some (seen_tree u) = slice_get-map seen_tree us i ∙ ap (option_map seen_tree) (slice_get_read us (length us) i u refl others second) in
    same_Some (seen_tree t) (seen_tree u) (sym left ∙ (ap (λ (xs : List (Tree Label)). slice_get xs i) same ∙ right))
