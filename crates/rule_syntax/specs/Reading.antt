-- What the readers do, as functions on lists of tokens.
use Rattle.std.specs.Prelude.{◌≡◌, ℕ, zero, suc, Bool, true, false, not, nat_le, if◌then◌else◌, List, [], ◌∷◌, ◌++◌, length, ◌==◌, Option, Some, None, Result, Ok, Err, ⊤, codes}
use Rattle.std.specs.Str.{bytes_eq}
use Rattle.pr_value.specs.Capped.{cap}
use Rattle.pr_value.specs.Symbols.{Symbol, is_symbol}
use Rattle.pr_value.specs.declared.kind.Kind.{Kind}
use Rattle.pr_value.specs.declared.kind.Kind.TheVariants as kind
use Rattle.pr_value.specs.declared.token.Token.TheVariants as token
use Rattle.pr_value.specs.declared.token.Mark.{Mark}
use Rattle.pr_value.specs.declared.token.Mark.TheVariants as mark
use Rattle.rule_ast.specs.declared.expr.BinOp.{BinOp}
use Rattle.rule_ast.specs.declared.expr.BinOp.TheVariants as op
use Rattle.rule_ast.specs.declared.expr.FoldKind.{FoldKind}
use Rattle.rule_ast.specs.declared.expr.FoldKind.TheVariants as folding
use Rattle.rule_syntax.specs.declared.reading.stop.Stop.{Stop}
use Rattle.rule_syntax.specs.declared.reading.stop.Stop.TheVariants as stop
use Rattle.rule_syntax.specs.Tokens.{Text}
use Rattle.rule_ast.specs.Spelled.{is_free}

infixl 10 ◌>>=◌
abbrev pub ◌>>=◌ : {A B : Type 0} → Option A → (A → Option B) → Option B
(Some x) >>= f = f x
None >>= f = None

-- a part and the tokens behind it
abbrev pub Reader : Type 0 → Type 0
Reader A = Text → Option (A × Text)

-- nothing is read, unless memory ran out
abbrev pub Fails : {Y : Type 0} → Stop → Option Y → Type 0
Fails (stop.Bad left) read = read ≡ None
Fails (stop.Deep left) read = read ≡ None
Fails stop.Memory read = ⊤

-- what was read, seen by view, unless memory ran out
abbrev pub Gives : {X Y : Type 0} → (X → Y) → Result X Stop → Option Y → Type 0
Gives view (Ok x) read = read ≡ Some (view x)
Gives view (Err e) read = Fails e read

-- the same of a part that may be missing
abbrev pub Finds : {X Y : Type 0} → (X → Y) → Option X → Option Y → Type 0
Finds view (Some x) read = read ≡ Some (view x)
Finds view None read = read ≡ None

abbrev pub mark_number : Mark → ℕ
mark_number mark.OpenBrace = 0
mark_number mark.CloseBrace = 1
mark_number mark.OpenBracket = 2
mark_number mark.CloseBracket = 3
mark_number mark.OpenParen = 4
mark_number mark.CloseParen = 5
mark_number mark.Comma = 6
mark_number mark.Semicolon = 7
mark_number mark.Colon = 8
mark_number mark.Dot = 9
mark_number mark.Question = 10
mark_number mark.Assign = 11
mark_number mark.Arrow = 12
mark_number mark.Equal = 13
mark_number mark.NotEqual = 14
mark_number mark.Less = 15
mark_number mark.LessEqual = 16
mark_number mark.Greater = 17
mark_number mark.GreaterEqual = 18
mark_number mark.Plus = 19
mark_number mark.Minus = 20
mark_number mark.Times = 21
mark_number mark.Slash = 22
mark_number mark.AndAnd = 23
mark_number mark.OrOr = 24

abbrev pub same_mark : Mark → Mark → Bool
same_mark a b = mark_number a == mark_number b

-- what stands behind the mark
abbrev pub mark_at : Mark → Text → Option Text
mark_at wanted (token.Mark found ∷ ts) = if same_mark found wanted then Some ts else None
mark_at wanted ts = None

-- whether the mark comes next
abbrev pub marked : Mark → Text → Bool
marked wanted (token.Mark found ∷ ts) = same_mark found wanted
marked wanted ts = false

-- whether something other than the mark comes next, or nothing
abbrev pub unmarked : Mark → Text → Bool
unmarked wanted ts = not (marked wanted ts)

-- whether the word comes next
abbrev pub begins : Symbol → Text → Bool
begins wanted (token.Name found ∷ ts) = bytes_eq found wanted
begins wanted ts = false

-- what stands behind the word
abbrev pub word_at : Symbol → Text → Option Text
word_at wanted (token.Name found ∷ ts) = if bytes_eq found wanted then Some ts else None
word_at wanted ts = None

-- NAME
abbrev pub name_at : Reader Symbol
name_at (token.Name found ∷ ts) = if is_free found then Some (found, ts) else None
name_at ts = None

-- NUMBER
abbrev pub number_at : Reader ℕ
number_at (token.Number n ∷ ts) = if nat_le n cap then Some (n, ts) else None
number_at ts = None

-- SYMBOL
abbrev pub quoted_at : Reader Symbol
quoted_at (token.Quoted s ∷ ts) = if is_symbol s then Some (s, ts) else None
quoted_at ts = None

-- the kind of this name
abbrev pub kind_of : Symbol → Option Kind
kind_of s =
    if bytes_eq s (codes "num") then Some kind.Num else
    (if bytes_eq s (codes "truth") then Some kind.Truth else
    (if bytes_eq s (codes "symbol") then Some kind.Symbol else
    (if bytes_eq s (codes "set") then Some kind.Set else
    (if bytes_eq s (codes "list") then Some kind.List else
    (if bytes_eq s (codes "cost") then Some kind.Cost else None)))))

-- KIND
abbrev pub kind_at : Reader Kind
kind_at (token.Name found ∷ ts) = kind_of found >>= (λ k. Some (k, ts))
kind_at ts = None

-- the truth of this name
abbrev pub truth_of : Symbol → Option Bool
truth_of s = if bytes_eq s (codes "true") then Some true else (if bytes_eq s (codes "false") then Some false else None)

-- the fold of this name
abbrev pub fold_of : Symbol → Option FoldKind
fold_of s =
    if bytes_eq s (codes "sum") then Some folding.Sum else
    (if bytes_eq s (codes "product") then Some folding.Product else
    (if bytes_eq s (codes "any") then Some folding.Any else
    (if bytes_eq s (codes "all") then Some folding.All else
    (if bytes_eq s (codes "keep") then Some folding.Keep else None))))

-- the operator of this mark
abbrev pub binop_of : Mark → Option BinOp
binop_of mark.Plus = Some op.Add
binop_of mark.Minus = Some op.Sub
binop_of mark.Times = Some op.Mul
binop_of mark.Slash = Some op.Div
binop_of mark.Equal = Some op.Equal
binop_of mark.NotEqual = Some op.NotEqual
binop_of mark.Less = Some op.Less
binop_of mark.LessEqual = Some op.LessEqual
binop_of mark.Greater = Some op.Greater
binop_of mark.GreaterEqual = Some op.GreaterEqual
binop_of mark.AndAnd = Some op.And
binop_of mark.OrOr = Some op.Or
binop_of x = None

-- binop
abbrev pub binop_at : Reader BinOp
binop_at (token.Mark found ∷ ts) = binop_of found >>= (λ o. Some (o, ts))
binop_at ts = None

-- one or more, with commas between; of each, others reads those behind a comma
abbrev pub and_more : {A : Type 0} → Reader (List A) → A × Text → Option Text → Option (List A × Text)
and_more others x (Some ts) = others ts >>= (λ y. Some (x.0 ∷ y.0, y.1))
and_more others x None = Some (x.0 ∷ [], x.1)

unfoldable pub listed_at : {A : Type 0} → Reader A → ℕ → Reader (List A)
listed_at read zero ts = None
listed_at read (suc k) ts = read ts >>= (λ x. and_more (listed_at read k) x (mark_at mark.Comma x.1))

-- what was read goes before the rest of the list
abbrev pub before : {A : Type 0} → List A → Option (List A × Text) → Option (List A × Text)
before xs others = others >>= (λ y. Some (xs ++ y.0, y.1))

-- what was read, and what stands behind the closing mark
abbrev pub closing : {A : Type 0} → Mark → A × Text → Option (A × Text)
closing close y = mark_at close y.1 >>= (λ ts. Some (y.0, ts))

-- one or more, with commas between, up to the closing mark
unfoldable pub filled_at : {A : Type 0} → Reader A → Mark → Reader (List A)
filled_at read close ts = listed_at read (length ts) ts >>= closing close

-- none, or those
abbrev pub none_or : {A : Type 0} → Option Text → Option (List A × Text) → Option (List A × Text)
none_or (Some ts) others = Some ([], ts)
none_or None others = others

-- any number, with commas between, up to the closing mark
unfoldable pub closed_at : {A : Type 0} → Reader A → Mark → Reader (List A)
closed_at read close ts = none_or (mark_at close ts) (filled_at read close ts)

-- as many as there are, one after another: a next one is there where `goes` holds
unfoldable pub many_at : {A : Type 0} → (Text → Bool) → Reader A → ℕ → Reader (List A)
many_at goes read zero ts = if goes ts then None else Some ([], ts)
many_at goes read (suc k) ts = if goes ts then (read ts >>= (λ x. many_at goes read k x.1 >>= (λ y. Some (x.0 ∷ y.0, y.1)))) else Some ([], ts)

-- what was read, where nothing is left behind it
abbrev pub alone : {A : Type 0} → A × Text → Option A
alone x = if length x.1 == 0 then Some x.0 else None
