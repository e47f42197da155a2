-- What is asked of the inputs of a tree is lower than the tree.
use Rattle.std.proofs.Common.{◌≡◌, suc, ◌<◌, ◌≤◌, List, [], ◌∷◌, refl, ap, arith}
use Rattle.pr_value.proofs.TreeLaws.{trees_of_list_of}
use Rattle.pr_value.specs.Trees.{Tree, Trees, node, height, highest, inputs, trees_of}
use Rattle.descriptor_types.specs.Descriptors.{Desc, Mask}
use Rattle.descriptor_types.specs.Labels.{Label, ask}
use Rattle.plan_form.specs.Plans.{each_asked}

ask-height : (m : Mask) (w : Desc) (t : Tree Label) → height (ask m w t) ≡ height t
ask-height m w (node l ts) = refl

each_asked-highest : (m : Mask) (ws : List Desc) (ts : List (Tree Label)) → highest (trees_of (each_asked m ws ts)) ≤ highest (trees_of ts)
each_asked-highest m [] ts = omega arith
each_asked-highest m (w ∷ ws) [] = omega arith
each_asked-highest m (w ∷ ws) (t ∷ ts) = omega (arith, ask-height m w t, each_asked-highest m ws ts)

inputs-highest : (t : Tree Label) → suc (highest (trees_of (inputs t))) ≡ height t
inputs-highest (node l ts) = ap (λ (us : Trees Label). suc (highest us)) (trees_of_list_of ts)

pub asked-lower : (m : Mask) (ws : List Desc) (t : Tree Label) → highest (trees_of (each_asked m ws (inputs t))) < height t
asked-lower m ws t = omega (arith, each_asked-highest m ws (inputs t), inputs-highest t)
