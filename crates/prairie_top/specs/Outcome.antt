-- What a run may come to: each answer with its cause. The causes exclude each other.
use Rattle.std.specs.Prelude.{◌≡◌, ℕ, List, codes, ◌⊎◌}
use Rattle.pr_outside.specs.Counts.{Rose}
use Rattle.pr_outside.specs.Written.{Appends, AppendsPrefix}
use Rattle.catalog.specs.Contents.{Catalog}
use Rattle.plan_form.specs.Plans.{Plan, Best, NoPlan}
use Rattle.plan_form.specs.PlanText.{plan_text}
use Rattle.query_build.specs.Query.{query_tree}
use Rattle.rule_ast.specs.Syntax.{Rules, Query}
use Rattle.prairie_words.specs.Commands.{Word, Names}
use Rattle.prairie_words.specs.Meaning.{Means}
use Rattle.prairie_top.specs.Messages.{usage_text, no_plan_text, memory_text}
use Rattle.prairie_top.specs.Reading.{Reads, IsRefusedText, rules_grammar, query_grammar, ReadsCatalog, IsRefusedCatalog}
use Rattle.prairie_top.specs.Run.{Fetches, Puts}
use Rattle.prairie_top.specs.Sources.{Source, AllFetched, Chain}
use Rattle.prairie_top.specs.Tasks.{Task, plan, command_of}
use Rattle.prairie_top.specs.declared.status.Status.{Status}
use Rattle.prairie_top.specs.declared.status.Status.TheVariants as status

-- ---- what rules, a catalog and a query come to

-- a plan and its text, or that there is none
pub data Outcome : Type 0 where
  planned : Plan → List ℕ → Outcome
  unplanned : Outcome

-- the plan is a best one of the query's tree, or no plan implements that
abbrev pub IsOutcome : Rules → Catalog → Query → Outcome → Type 0
IsOutcome r c q (planned p text) = Best r c (query_tree r c q) p × (text ≡ plan_text r p)
IsOutcome r c q unplanned = NoPlan r c (query_tree r c q)

abbrev pub outcome_status : Outcome → Status
outcome_status (planned p text) = status.Done
outcome_status unplanned = status.NoPlan

abbrev pub outcome_text : Outcome → List ℕ
outcome_text (planned p text) = text
outcome_text unplanned = no_plan_text

-- ---- the texts of a command

-- the most bytes of the rules and of the query, and of the catalog
abbrev pub text_limit : ℕ
text_limit = 1_048_576

abbrev pub catalog_limit : ℕ
catalog_limit = 8_388_608

abbrev pub rules_source : List ℕ → Source Rules
rules_source name = record {
  name = name;
  word = codes "rules";
  limit = text_limit;
  Reads = Reads rules_grammar;
  Refuses = IsRefusedText rules_grammar;
}

abbrev pub catalog_source : List ℕ → Source Catalog
catalog_source name = record {
  name = name;
  word = codes "catalog";
  limit = catalog_limit;
  Reads = ReadsCatalog;
  Refuses = IsRefusedCatalog;
}

abbrev pub query_source : Rules → Catalog → List ℕ → Source Query
query_source r c name = record {
  name = name;
  word = codes "query";
  limit = text_limit;
  Reads = Reads (query_grammar r c);
  Refuses = IsRefusedText (query_grammar r c);
}

-- ---- the answers to a command, before their text is put

-- no fetch failed, and the answer is that of the outcome
pub record Decides (r : Rules) (c : Catalog) (q : Query) (fetches : Fetches) (came : Status)
    (text : List ℕ) : Type 0 where
  pub outcome : Outcome
  pub comes : IsOutcome r c q outcome
  pub fetched : AllFetched fetches
  pub status : came ≡ outcome_status outcome
  pub is : text ≡ outcome_text outcome

-- what `plan` comes to under rules and a catalog, once they are read: it takes the query, and comes
-- to the outcome
abbrev pub CatalogComes : Rules → Catalog → Names → Fetches → Status → List ℕ → Type 0
CatalogComes r c names fetches =
    Chain (query_source r c names.query) fetches (λ q. Decides r c q fetches)

-- under rules, once they are read: it takes the catalog first
abbrev pub RulesComes : Rules → Names → Fetches → Status → List ℕ → Type 0
RulesComes r names fetches =
    Chain (catalog_source names.catalog) fetches (λ c. CatalogComes r c names fetches)

-- `plan` takes the rules, the catalog and the query, and then comes to their outcome
abbrev pub PlanComes : Names → Fetches → Status → List ℕ → Type 0
PlanComes names fetches = Chain (rules_source names.rules) fetches (λ r. RulesComes r names fetches)

-- the limits bound a memo and the goals over it, so they bound no search over one tree alone
abbrev pub TaskComes : Task → Fetches → Status → List ℕ → Type 0
TaskComes (plan names limits) = PlanComes names

-- the words mean no command that is built; or memory is wanting; or they mean one that comes to
-- this answer
pub data Comes (words : List Word) (fetches : Fetches) (came : Status)
    (text : List ℕ) : Type 0 where
  unknown : ((task : Task) → Means words (command_of task) → ⊥) → AllFetched fetches
      → came ≡ status.Usage → text ≡ usage_text → Comes words fetches came text
  wanting : came ≡ status.Memory → text ≡ memory_text → Comes words fetches came text
  known : (task : Task) → Means words (command_of task) → TaskComes task fetches came text
      → Comes words fetches came text

-- ---- a run

-- the text was put whole
abbrev pub PutsAll : Puts → List ℕ → Type 0
PutsAll puts text = (puts.after ≡ puts.before) × Appends puts.written_before text puts.written_after

-- the text is put once: that failed, and a prefix is written; or memory was wanting, and nothing
-- is; or all is written
abbrev pub PutsOnce : Puts → Status → List ℕ → Status → Type 0
PutsOnce puts came text status.WriteFault =
    Rose puts.before puts.after × AppendsPrefix puts.written_before text puts.written_after
PutsOnce puts came text status.Memory =
    ((came ≡ status.Memory) × PutsAll puts text)
    ⊎ ((puts.after ≡ puts.before) × (puts.written_after ≡ puts.written_before))
PutsOnce puts came text ended = (ended ≡ came) × PutsAll puts text

-- a run of these words over this shelf and this sink may end so
pub record Ends (words : List Word) (fetches : Fetches) (puts : Puts)
    (ended : Status) : Type 0 where
  pub came : Status
  pub text : List ℕ
  pub comes : Comes words fetches came text
  pub put : PutsOnce puts came text ended
