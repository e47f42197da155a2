-- Small layouts, descriptors and trees.
use Rattle.std.proofs.Common.{◌≡◌, ◌+◌, true, false, [], ◌∷◌, Some, None, refl}
use Rattle.std.specs.Prelude.{codes}
use Rattle.pr_value.specs.Capped.{cap}
use Rattle.pr_value.specs.Symbols.{dash}
use Rattle.pr_value.specs.Trees.{tree}
use Rattle.pr_value.specs.declared.kind.Kind.TheVariants as kind
use Rattle.pr_value.specs.declared.value.Value.TheVariants as value
use Rattle.descriptor_types.specs.Descriptors.{Layout, Desc, Mask, place_of, plain, fits, value_of, with_value, only, asked_of, same_desc}
use Rattle.descriptor_types.specs.Labels.{file, operator, view, ask}

abbrev layout : Layout
layout =
    record { name = codes "card"; kind = kind.Num } ∷ record { name = codes "order"; kind = kind.Symbol } ∷ record { name = codes "cost"; kind = kind.Cost } ∷ []

abbrev scan : Desc
scan = value.Num 7 ∷ value.Sym (codes "a") ∷ value.Num 3 ∷ []

abbrev wanted : Desc
wanted = value.Num 0 ∷ value.Sym (codes "b") ∷ value.Num 9 ∷ []

-- the second property alone
abbrev order : Mask
order = false ∷ true ∷ false ∷ []

place-first : place_of layout (codes "card") ≡ Some 0
place-first = refl

place-last : place_of layout (codes "cost") ≡ Some 2
place-last = refl

place-none : place_of layout (codes "files") ≡ None
place-none = refl

place-twice : place_of (record { name = codes "a"; kind = kind.Num } ∷ record { name = codes "a"; kind = kind.Set } ∷ []) (codes "a") ≡ Some 0
place-twice = refl

plain-each : plain layout ≡ value.Num 0 ∷ value.Sym dash ∷ value.Num 0 ∷ []
plain-each = refl

fits-each : fits layout scan ≡ true
fits-each = refl

fits-empty : fits [] [] ≡ true
fits-empty = refl

fits-shorter : fits layout (value.Num 7 ∷ value.Sym dash ∷ []) ≡ false
fits-shorter = refl

fits-longer : fits [] scan ≡ false
fits-longer = refl

fits-other_kind : fits layout (value.Num 7 ∷ value.Truth true ∷ value.Num 3 ∷ []) ≡ false
fits-other_kind = refl

fits-past_cap : fits layout (value.Num 7 ∷ value.Sym dash ∷ value.Num (cap + 1) ∷ []) ≡ false
fits-past_cap = refl

value-second : value_of layout (codes "order") scan ≡ value.Sym (codes "a")
value-second = refl

value-none : value_of layout (codes "files") scan ≡ value.Num 0
value-none = refl

with-second : with_value layout (codes "order") (value.Sym dash) scan ≡ value.Num 7 ∷ value.Sym dash ∷ value.Num 3 ∷ []
with-second = refl

with-none : with_value layout (codes "files") (value.Num 1) scan ≡ scan
with-none = refl

only-second : only layout order scan ≡ value.Num 0 ∷ value.Sym (codes "a") ∷ value.Num 0 ∷ []
only-second = refl

only-others : only layout (true ∷ false ∷ true ∷ []) scan ≡ value.Num 7 ∷ value.Sym dash ∷ value.Num 3 ∷ []
only-others = refl

asked-second : asked_of order wanted scan ≡ value.Num 7 ∷ value.Sym (codes "b") ∷ value.Num 3 ∷ []
asked-second = refl

asked-none : asked_of (false ∷ false ∷ false ∷ []) wanted scan ≡ scan
asked-none = refl

view-root : view layout order (tree (operator 2 scan) (tree (file (codes "emp") wanted) [] ∷ [])) ≡ value.Num 0 ∷ value.Sym (codes "a") ∷ value.Num 0 ∷ []
view-root = refl

ask-root : ask order wanted (tree (operator 2 scan) (tree (file (codes "emp") scan) [] ∷ []))
    ≡ tree (operator 2 (value.Num 7 ∷ value.Sym (codes "b") ∷ value.Num 3 ∷ [])) (tree (file (codes "emp") scan) [] ∷ [])
ask-root = refl

same-twice : same_desc scan scan ≡ true
same-twice = refl

same-other : same_desc scan wanted ≡ false
same-other = refl

same-shorter : same_desc (value.Num 7 ∷ []) scan ≡ false
same-shorter = refl
