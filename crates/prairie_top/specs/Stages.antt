-- What the parts of a run give: bytes that are read, texts that are had, and the answer where one
-- is not.
use Rattle.std.specs.Prelude.{◌≡◌, ℕ, ◌<◌, List, length, Result, Ok, Err, ◌⊎◌, ⊤}
use Rattle.pr_outside.specs.Files.{MayFail}
use Rattle.pr_outside.specs.Counts.{Rose}
use Rattle.prairie_top.specs.Messages.{refusal_text, fault_text, no_plan_text}
use Rattle.catalog.specs.Contents.{Catalog}
use Rattle.descriptor_types.specs.Labels.{Label}
use Rattle.plan_form.specs.Plans.{Plan, Best, NoPlan}
use Rattle.plan_form.specs.PlanText.{plan_text}
use Rattle.pr_value.specs.Placed.{Placed, tokens_in}
use Rattle.pr_value.specs.Trees.{Tree}
use Rattle.query_build.specs.Query.{query_tree}
use Rattle.rule_trees.specs.Trees.{IsTree}
use Rattle.rule_lex.specs.Lexes.{Lexes}
use Rattle.rule_ast.specs.Syntax.{Rules, Query}
use Rattle.prairie_top.specs.Run.{Fetches, Told}
use Rattle.prairie_top.specs.Reading.{Grammar, IsSyntax}
use Rattle.prairie_top.specs.Sources.{Within}
use Rattle.prairie_top.specs.declared.stage.Refusal.{Refusal}
use Rattle.prairie_top.specs.declared.stage.Refusal.TheVariants.{TooLong, NotAccepted, TooManyNodes, UnknownOperator, UnknownFile, Arity, UnknownProperty, WrongType}
use Rattle.prairie_top.specs.declared.stage.Stop.{Stop}
use Rattle.prairie_top.specs.declared.stage.Stop.TheVariants as stop
use Rattle.prairie_top.specs.declared.stage.TextError.{TextError}
use Rattle.prairie_top.specs.declared.stage.TextError.TheVariants as text_error
use Rattle.query_build.specs.declared.refusal.QueryRefusal.{QueryRefusal}
use Rattle.query_build.specs.declared.refusal.QueryRefusal.TheVariants as told
use Rattle.rule_types.specs.declared.acceptance.AcceptError.{AcceptError}
use Rattle.rule_types.specs.declared.acceptance.AcceptError.TheVariants as accept_error
use Rattle.prairie_top.specs.declared.status.Status.{Status}
use Rattle.prairie_top.specs.declared.status.Status.TheVariants as status

-- the bytes read as this, or are refused, or memory was wanting
abbrev pub IsReading : {X : Type 0} → (X → List ℕ → Type 0) → (Refusal → List ℕ → Type 0) → List ℕ
    → Result X TextError → Type 0
IsReading Reads Refuses bytes (Ok x) = Reads x bytes
IsReading Reads Refuses bytes (Err (text_error.Refused refusal)) = Refuses refusal bytes
IsReading Reads Refuses bytes (Err text_error.Memory) = ⊤

-- the bytes have these tokens, each with its offset
abbrev pub ArePlaced : Placed → List ℕ → Type 0
ArePlaced ts bytes = Lexes bytes ts.placed × (ts.end ≡ length bytes)

-- the tokens are those of a value that is accepted, or of none, or of one that is refused, or
-- memory was wanting
abbrev pub IsOfTokens : {V X : Type 0} → Grammar V → (X → V) → Placed → Result X TextError → Type 0
IsOfTokens g view ts (Ok x) = g.Spells (view x) (tokens_in ts) × g.Accepts (view x)
IsOfTokens {V} g view ts (Err (text_error.Refused refusal)) =
    (IsSyntax ts.placed ts.end refusal × ((v : V) → g.Spells v (tokens_in ts) → ⊥))
    ⊎ ((v : V) × g.Spells v (tokens_in ts) × g.Refuses v refusal)
IsOfTokens g view ts (Err text_error.Memory) = ⊤

-- the value is accepted, or refused, or memory was wanting
abbrev pub IsAccepting : {V X : Type 0} → Grammar V → (X → V) → V → Result X TextError → Type 0
IsAccepting g view v (Ok x) = (view x ≡ v) × g.Accepts v
IsAccepting g view v (Err (text_error.Refused refusal)) = g.Refuses v refusal
IsAccepting g view v (Err text_error.Memory) = ⊤

abbrev pub of_accept_error : AcceptError → TextError
of_accept_error (accept_error.Refused kind name) = text_error.Refused (NotAccepted kind name)
of_accept_error accept_error.Memory = text_error.Memory

abbrev pub of_query_refusal : QueryRefusal → TextError
of_query_refusal told.TooManyNodes = text_error.Refused TooManyNodes
of_query_refusal (told.UnknownOperator name) = text_error.Refused (UnknownOperator name)
of_query_refusal (told.UnknownFile name) = text_error.Refused (UnknownFile name)
of_query_refusal (told.Arity name) = text_error.Refused (Arity name)
of_query_refusal (told.UnknownProperty name) = text_error.Refused (UnknownProperty name)
of_query_refusal (told.WrongType name) = text_error.Refused (WrongType name)
of_query_refusal told.Memory = text_error.Memory

-- what is held under the name is within the limit and reads as this, or is refused, or could not be
-- read, or memory was wanting
abbrev pub IsHad : {X : Type 0} → (X → List ℕ → Type 0) → (Refusal → List ℕ → Type 0) → Fetches
    → List ℕ → ℕ → Result X Stop → Type 0
IsHad Reads Refuses fetches name limit (Ok x) =
    (fetches.after ≡ fetches.before) × Told fetches.held name (Within limit (Reads x))
IsHad Reads Refuses fetches name limit (Err (stop.Refused refusal)) =
    (fetches.after ≡ fetches.before)
    × Told fetches.held name
    (λ bytes. ((refusal ≡ TooLong) × (limit < length bytes))
    ⊎ Within limit (Refuses refusal) bytes)
IsHad Reads Refuses fetches name limit (Err stop.Failed) =
    Rose fetches.before fetches.after × MayFail fetches.held fetches.sure name limit
IsHad Reads Refuses fetches name limit (Err stop.Memory) = ⊤

-- the answer where a text is not had
abbrev pub IsStopped : List ℕ → List ℕ → Stop → Status → List ℕ → Type 0
IsStopped word name (stop.Refused refusal) came text =
    (came ≡ status.Refused) × (text ≡ refusal_text word refusal)
IsStopped word name stop.Failed came text = (came ≡ status.ReadFault) × (text ≡ fault_text name)
IsStopped word name stop.Memory came text = ⊥

-- the tree is the query's, and one of the rule set and the catalog
abbrev pub IsBuilt : Rules → Catalog → Query → Tree Label → Type 0
IsBuilt r c q t = (t ≡ query_tree r c q) × IsTree r c t

-- the text is that of a best plan of the tree, or there is no plan
abbrev pub IsDecided : Rules → Catalog → Tree Label → Status → List ℕ → Type 0
IsDecided r c t status.Done text = (p : Plan) × Best r c t p × (text ≡ plan_text r p)
IsDecided r c t status.NoPlan text = NoPlan r c t × (text ≡ no_plan_text)
IsDecided r c t _ text = ⊥
