-- Laws of what a run may come to, and of printed rule sets.
use Rattle.std.specs.Prelude.{◌≡◌, ◌≢◌, ℕ, ◌<◌, true, List, Some, None, ◌⊎◌, ⊤}
use Rattle.pr_outside.specs.Counts.{last_count, Still}
use Rattle.pr_outside.specs.Files.{Files, held_under}
use Rattle.catalog.specs.Contents.{Catalog}
use Rattle.pr_value.specs.TokenTexts.{spaced}
use Rattle.rule_ast.specs.Syntax.{Rules, Query}
use Rattle.rule_ast.specs.Spelled.{spells}
use Rattle.rule_syntax.specs.Tokens.{tokens_of}
use Rattle.rule_types.specs.Conditions.{refused_by}
use Rattle.plan_form.specs.Plans.{Plan, cost}
use Rattle.query_build.specs.Refusals.{refusal_of}
use Rattle.prairie_top.specs.declared.status.Status.{Status}
use Rattle.prairie_top.specs.declared.status.Status.TheVariants as status
use Rattle.prairie_top.specs.Reading.{HasTokens, Reads, rules_grammar, query_grammar, ReadsCatalog}
use Rattle.prairie_top.specs.Run.{Fetches, Puts}
use Rattle.prairie_top.specs.Sources.{IsRead}
use Rattle.prairie_words.specs.Commands.{Word, Names, plan}
use Rattle.prairie_words.specs.Meaning.{Means}
use Rattle.prairie_words.specs.declared.limits.Limits.{Limits}
use Rattle.prairie_top.specs.Outcome.{Outcome, planned, IsOutcome, outcome_status, outcome_text, rules_source, catalog_source, query_source, PlanComes, Comes, PutsAll, PutsOnce, Ends}

-- over a shelf that tells its files, and whose count is below its end, a run comes to one answer,
-- want of memory apart
abbrev pub OneAnswer : Type 0
OneAnswer =
    (words : List Word) (fetches : Fetches) (files : Files) (one other : Status)
    (text text' : List ℕ) → fetches.held ≡ Some files → fetches.before < last_count
    → Comes words fetches one text → Comes words fetches other text'
    → (one ≡ other) ⊎ ((one ≡ status.Memory) ⊎ (other ≡ status.Memory))

-- accepted rules, a catalog and a query that builds a tree come to an outcome, and all their
-- outcomes have one status; other rules could ask a tree of itself without end, where a left side
-- is a stream alone
abbrev pub OneExists : Type 0
OneExists =
    (r : Rules) (c : Catalog) (q : Query) → spells r ≡ true → refused_by r ≡ None
    → refusal_of r c q ≡ None → (o : Outcome) × IsOutcome r c q o
    × ((other : Outcome) → IsOutcome r c q other → outcome_status other ≡ outcome_status o)

-- all plans that rules, a catalog and a query come to have one cost
abbrev pub OneCost : Type 0
OneCost =
    (r : Rules) (c : Catalog) (q : Query) (p other : Plan) (text text' : List ℕ)
    → IsOutcome r c q (planned p text) → IsOutcome r c q (planned other text')
    → cost r p ≡ cost r other

-- the answer leaves its text no choice
abbrev pub HasOneText : Status → Type 0
HasOneText status.Usage = ⊤
HasOneText status.NoPlan = ⊤
HasOneText status.Memory = ⊤
HasOneText _ = ⊥

-- such an answer has one text
abbrev pub OneText : Type 0
OneText = (words : List Word) (fetches : Fetches) (came : Status) (text text' : List ℕ)
    → HasOneText came → Comes words fetches came text → Comes words fetches came text'
    → text ≡ text'

-- the run puts the outcome whole, or memory is wanting
abbrev pub EndsPlanned : Rules → Catalog → Query → Puts → Status → Type 0
EndsPlanned r c q puts ended =
    (ended ≡ status.Memory)
    ⊎ ((o : Outcome) × IsOutcome r c q o × (ended ≡ outcome_status o)
    × PutsAll puts (outcome_text o))

-- `plan` over texts that are read ends so where no count rises
abbrev pub Complete : Type 0
Complete =
    (words : List Word) (names : Names) (limits : Limits) (fetches : Fetches) (puts : Puts)
    (files : Files)
    (r : Rules) (c : Catalog) (q : Query) (ended : Status) → fetches.held ≡ Some files
    → Means words (plan names limits)
    → IsRead (rules_source names.rules) fetches r → IsRead (catalog_source names.catalog) fetches c
    → IsRead (query_source r c names.query) fetches q → Still fetches.before fetches.after
    → Still puts.before puts.after
    → Ends words fetches puts ended → EndsPlanned r c q puts ended

-- a rule set that is accepted, a catalog, and a query that builds a tree under them, each of which
-- some bytes read as
pub record AreRead (r : Rules) (c : Catalog) (q : Query) : Type 0 where
  pub rules : (bytes : List ℕ) × Reads rules_grammar r bytes
  pub catalog : (bytes : List ℕ) × ReadsCatalog c bytes
  pub query : (bytes : List ℕ) × Reads (query_grammar r c) q bytes

-- the answer is that of the outcome of some such rules, catalog and query
pub record IsOfTexts (came : Status) (text : List ℕ) : Type 0 where
  pub rules : Rules
  pub catalog : Catalog
  pub query : Query
  pub outcome : Outcome
  pub read : AreRead rules catalog query
  pub comes : IsOutcome rules catalog query outcome
  pub status : came ≡ outcome_status outcome
  pub is : text ≡ outcome_text outcome

-- the answer is a plan, or that there is none
abbrev pub IsDecision : Status → Type 0
IsDecision status.Done = ⊤
IsDecision status.NoPlan = ⊤
IsDecision _ = ⊥

-- whatever the shelf tells, a plan comes only as the text of a best plan of some accepted rules,
-- catalog and query, and no plan only where there is none of such
abbrev pub OnlyBest : Type 0
OnlyBest =
    (words : List Word) (fetches : Fetches) (came : Status) (text : List ℕ) → IsDecision came
    → Comes words fetches came text → IsOfTexts came text

-- bytes are held under the name
abbrev pub IsHeld : Files → List ℕ → Type 0
IsHeld files name = (bytes : List ℕ) × (held_under files name ≡ Some bytes)

-- no fetch of the three texts fails on a shelf that is sure and holds them
abbrev pub NeverFails : Type 0
NeverFails =
    (names : Names) (fetches : Fetches) (files : Files) (text : List ℕ) → fetches.held ≡ Some files
    → fetches.sure ≡ true → IsHeld files names.rules → IsHeld files names.catalog
    → IsHeld files names.query
    → PlanComes names fetches status.ReadFault text → ⊥

-- over a sink whose count stays below its end and does not rise, no run ends with a write fault
abbrev pub NeverUnwritten : Type 0
NeverUnwritten = (puts : Puts) (came ended : Status) (text : List ℕ) → Still puts.before puts.after
    → PutsOnce puts came text ended → ended ≢ status.WriteFault

-- the printed text of a rule set that the grammar spells has the rule set's tokens
abbrev pub PrintsTokens : Type 0
PrintsTokens = (r : Rules) → spells r ≡ true → HasTokens (spaced (tokens_of r)) (tokens_of r)
