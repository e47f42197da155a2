-- What the bytes of a text read as, and why they are refused for what they say.
use Rattle.std.specs.Prelude.{◌≡◌, ◌≢◌, ℕ, List, [], length, map, Some, None}
use Rattle.serde_json.specs.Data.{Data}
use Rattle.catalog.specs.Contents.{Catalog}
use Rattle.catalog.specs.Shape.{IsJson, first_bad, Says}
use Rattle.pr_value.specs.declared.token.Token.{Token}
use Rattle.rule_lex.specs.Lexes.{Lexes, Refuses as LexRefuses}
use Rattle.rule_lex.specs.declared.error.LexError.TheVariants as lex
use Rattle.rule_ast.specs.Syntax.{Rules, Query}
use Rattle.rule_syntax.specs.Tokens.{Text}
use Rattle.rule_syntax.specs.Places.{IsPlace}
use Rattle.rule_syntax.specs.Levels.{IsRules, IsQuery}
use Rattle.query_build.specs.Refusals.{refusal_of}
use Rattle.query_build.specs.declared.refusal.QueryRefusal.TheVariants as told
use Rattle.prairie_top.specs.declared.stage.Refusal.{Refusal}
use Rattle.prairie_top.specs.declared.stage.Refusal.TheVariants.{BadByte, NumberTooBig, NameTooLong, BadSyntax, TooDeep, NotJson, BadShape, NotAccepted, TooManyNodes, UnknownOperator, UnknownFile, Arity, UnknownProperty, WrongType, Unbuilt}
use Rattle.rule_types.specs.Conditions.{refused_by}

-- the text has these tokens, wherever they stand
abbrev pub HasTokens : List ℕ → Text → Type 0
HasTokens bytes ts = (placed : List (Token × ℕ)) × Lexes bytes placed × (map (λ p. p.0) placed ≡ ts)

-- the bytes have no tokens, for this reason at this first place
abbrev pub HasNoTokens : Refusal → List ℕ → Type 0
HasNoTokens (BadByte at) bytes = LexRefuses bytes (lex.BadByte at)
HasNoTokens (NumberTooBig at) bytes = LexRefuses bytes (lex.NumberTooBig at)
HasNoTokens (NameTooLong at) bytes = LexRefuses bytes (lex.NameTooLong at)
HasNoTokens _ bytes = ⊥

-- the syntax is refused at the offset of one of these tokens, or at the end of the text
abbrev pub IsSyntax : List (Token × ℕ) → ℕ → Refusal → Type 0
IsSyntax placed end (BadSyntax at) = IsPlace placed end at
IsSyntax placed end (TooDeep at) = IsPlace placed end at
IsSyntax placed end _ = ⊥

-- the values of a grammar: which tokens each has, which are accepted, and why another is refused
pub record Grammar (V : Type 0) : Type 1 where
  pub Spells : V → Text → Type 0
  pub Accepts : V → Type 0
  pub Refuses : V → Refusal → Type 0

module _ {V : Type 0} (g : Grammar V) where
  -- the bytes have the tokens of this value, which is accepted
  abbrev pub Reads : V → List ℕ → Type 0
  Reads v bytes = (ts : Text) × HasTokens bytes ts × g.Spells v ts × g.Accepts v

  -- the bytes have no tokens; or those of no value; or those of a value that is refused
  pub data IsRefusedText (refusal : Refusal) (bytes : List ℕ) : Type 0 where
    no_tokens : HasNoTokens refusal bytes → IsRefusedText refusal bytes
    unread : (placed : List (Token × ℕ)) → Lexes bytes placed
        → IsSyntax placed (length bytes) refusal
        → ((v : V) → g.Spells v (map (λ p. p.0) placed) → ⊥) → IsRefusedText refusal bytes
    refused : (v : V) (ts : Text) → HasTokens bytes ts → g.Spells v ts → g.Refuses v refusal
        → IsRefusedText refusal bytes

-- a condition of refusal holds of the rule set; or none does, and it has a T-rule
abbrev pub IsRefusedRules : Rules → Refusal → Type 0
IsRefusedRules r (NotAccepted kind name) = refused_by r ≡ Some (record { kind = kind; name = name })
IsRefusedRules r Unbuilt = (refused_by r ≡ None) × (r.trules ≢ [])
IsRefusedRules r _ = ⊥

-- rule sets, of which those are accepted in which no condition holds, and which have no T-rule
abbrev pub rules_grammar : Grammar Rules
rules_grammar = record {
  Spells = IsRules;
  Accepts = λ r. (refused_by r ≡ None) × (r.trules ≡ []);
  Refuses = IsRefusedRules;
}

-- the query builds no tree under the rules and the catalog, for this reason
abbrev pub IsRefusedQuery : Rules → Catalog → Query → Refusal → Type 0
IsRefusedQuery r c q TooManyNodes = refusal_of r c q ≡ Some told.TooManyNodes
IsRefusedQuery r c q (UnknownOperator name) = refusal_of r c q ≡ Some (told.UnknownOperator name)
IsRefusedQuery r c q (UnknownFile name) = refusal_of r c q ≡ Some (told.UnknownFile name)
IsRefusedQuery r c q (Arity name) = refusal_of r c q ≡ Some (told.Arity name)
IsRefusedQuery r c q (UnknownProperty name) = refusal_of r c q ≡ Some (told.UnknownProperty name)
IsRefusedQuery r c q (WrongType name) = refusal_of r c q ≡ Some (told.WrongType name)
IsRefusedQuery r c q _ = ⊥

-- queries, of which those are accepted that build a tree under these rules and this catalog
abbrev pub query_grammar : Rules → Catalog → Grammar Query
query_grammar r c = record {
  Spells = IsQuery;
  Accepts = λ q. refusal_of r c q ≡ None;
  Refuses = IsRefusedQuery r c;
}

-- the bytes are the JSON text of this catalog
abbrev pub ReadsCatalog : Catalog → List ℕ → Type 0
ReadsCatalog c bytes = (d : Data) × IsJson bytes d × (first_bad d ≡ None) × Says c d

-- the bytes are no JSON; or have this first part that is not as it must be
abbrev pub IsRefusedCatalog : Refusal → List ℕ → Type 0
IsRefusedCatalog NotJson bytes = (d : Data) → IsJson bytes d → ⊥
IsRefusedCatalog (BadShape part) bytes = (d : Data) × IsJson bytes d × (first_bad d ≡ Some part)
IsRefusedCatalog _ bytes = ⊥
