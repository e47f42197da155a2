-- What the readers of the sides of rules do.
use Rattle.std.specs.Prelude.{ℕ, zero, suc, if◌then◌else◌, List, [], Some, None, codes}
use Rattle.pr_value.specs.Symbols.{Symbol}
use Rattle.pr_value.specs.Trees.{Tree, tree}
use Rattle.pr_value.specs.declared.token.Mark.TheVariants as mark
use Rattle.rule_ast.specs.declared.sides.AlgName.{AlgName}
use Rattle.rule_ast.specs.declared.sides.AlgName.TheVariants as alg
use Rattle.rule_ast.specs.declared.sides.ImplIn.{ImplIn}
use Rattle.rule_ast.specs.declared.sides.ImplSide.{ImplSide}
use Rattle.rule_ast.specs.Syntax.{LeftLabel, RightLabel}
use Rattle.rule_syntax.specs.Reading.{◌>>=◌, Reader, mark_at, marked, word_at, begins, name_at, number_at, filled_at}

-- "?" NUMBER
abbrev pub stream_at : Reader ℕ
stream_at ts = mark_at mark.Question ts >>= number_at

-- iin = "?" NUMBER ":" NAME
abbrev pub impl_in_at : Reader ImplIn
impl_in_at ts = stream_at ts >>= (λ n. mark_at mark.Colon n.1 >>= (λ r. name_at r >>= (λ d. Some (record { number = n.0; desc = d.0 }, d.1))))

-- "(" part { "," part } ")" ":" NAME
unfoldable pub inputs_at : {A : Type 0} → Reader A → Reader (List A × Symbol)
inputs_at part ts =
    mark_at mark.OpenParen ts >>= (λ r. filled_at part mark.CloseParen r >>= (λ xs. mark_at mark.Colon xs.1 >>= (λ s. name_at s >>= (λ d. Some ((xs.0, d.0), d.1)))))

-- NAME "(" part { "," part } ")" ":" NAME
unfoldable pub node_at : {L : Type 0} → (Symbol → Symbol → L) → Reader (Tree L) → Reader (Tree L)
node_at operator part ts = name_at ts >>= (λ o. inputs_at part o.1 >>= (λ i. Some (tree (operator o.0 i.0.1) i.0.0, i.1)))

-- lin = left | "?" NUMBER ":" NAME
unfoldable pub left_in_at : Reader (Tree LeftLabel) → Reader (Tree LeftLabel)
left_in_at left ts = if marked mark.Question ts then (impl_in_at ts >>= (λ s. Some (tree (LeftLabel.stream s.0.number s.0.desc) [], s.1))) else left ts

-- left = NAME "(" lin { "," lin } ")" ":" NAME, of so many levels at most
unfoldable pub left_at : ℕ → Reader (Tree LeftLabel)
left_at zero ts = None
left_at (suc n) ts = node_at LeftLabel.operator (left_in_at (left_at n)) ts

-- rin = right | "?" NUMBER
unfoldable pub right_in_at : Reader (Tree RightLabel) → Reader (Tree RightLabel)
right_in_at right ts = if marked mark.Question ts then (stream_at ts >>= (λ n. Some (tree (RightLabel.stream n.0) [], n.1))) else right ts

-- right = NAME "(" rin { "," rin } ")" ":" NAME, of so many levels at most
unfoldable pub right_at : ℕ → Reader (Tree RightLabel)
right_at zero ts = None
right_at (suc n) ts = node_at RightLabel.operator (right_in_at (right_at n)) ts

-- NAME | "Null"
abbrev pub alg_at : Reader AlgName
alg_at ts = if begins (codes "Null") ts then (word_at (codes "Null") ts >>= (λ r. Some (alg.Null, r))) else (name_at ts >>= (λ a. Some (alg.Named a.0, a.1)))

-- impl = ( NAME | "Null" ) "(" iin { "," iin } ")" ":" NAME
unfoldable pub impl_at : Reader ImplSide
impl_at ts = alg_at ts >>= (λ a. inputs_at impl_in_at a.1 >>= (λ i. Some (record { alg = a.0; inputs = i.0.0; desc = i.0.1 }, i.1)))
