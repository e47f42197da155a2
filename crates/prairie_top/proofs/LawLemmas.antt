-- The causes of answers exclude each other.
use Rattle.std.proofs.Common.{◌≡◌, ℕ, ◌<◌, List, [], map, Option, Some, None, refl, ap, sym, ◌∙◌, subst, arith, inl, inr}
use Rattle.std.specs.Prelude.{◌⊎◌, ◌≢◌}
use Rattle.pr_outside.specs.Counts.{last_count, Still}
use Rattle.pr_outside.specs.Files.{Files}
use Rattle.pr_value.specs.declared.token.Token.{Token}
use Rattle.serde_json.specs.Data.{Data}
use Rattle.catalog.specs.Contents.{Catalog}
use Rattle.catalog.specs.Shape.{IsJson, first_bad, OneCatalog}
use Rattle.rule_lex.specs.Laws.{OneList, NeverBoth}
use Rattle.rule_lex.specs.declared.error.LexError.TheVariants as lex
use Rattle.rule_ast.specs.Syntax.{Rules, Query}
use Rattle.rule_syntax.specs.Tokens.{Text}
use Rattle.rule_syntax.specs.DistinctRules.{DistinctRules}
use Rattle.rule_syntax.specs.DistinctQueries.{DistinctQueries}
use Rattle.rule_types.specs.Conditions.{refused_by}
use Rattle.prairie_top.specs.declared.stage.Refusal.{Refusal}
use Rattle.prairie_top.specs.declared.stage.Refusal.TheVariants.{TooLong, BadByte, NumberTooBig, NameTooLong, BadSyntax, TooDeep, NotJson, BadShape, NotAccepted, TooManyNodes, UnknownOperator, UnknownFile, Arity, UnknownProperty, WrongType, Unbuilt}
use Rattle.prairie_top.specs.declared.status.Status.{Status}
use Rattle.prairie_top.specs.declared.status.Status.TheVariants as status
use Rattle.query_build.specs.Refusals.{refusal_of}
use Rattle.prairie_top.specs.Messages.{no_plan_text, usage_text, memory_text}
use Rattle.prairie_top.specs.Reading.{HasTokens, HasNoTokens, Grammar, Reads, IsRefusedText, no_tokens, unread, refused, IsRefusedRules, IsRefusedQuery, rules_grammar, query_grammar, ReadsCatalog, IsRefusedCatalog}
use Rattle.prairie_top.specs.Run.{Fetches, Puts}
use Rattle.prairie_top.specs.Tasks.{Task, plan}
use Rattle.prairie_words.specs.Commands.{Word, Names}
use Rattle.prairie_words.specs.Laws.{OneMeaning}
use Rattle.prairie_top.specs.Sources.{AllFetched, IsRead, Chain}
use Rattle.prairie_top.specs.Sources as sources
use Rattle.prairie_top.specs.Outcome.{Outcome, planned, unplanned, IsOutcome, outcome_status, outcome_text, rules_source, catalog_source, query_source, Decides, CatalogComes, RulesComes, PlanComes, TaskComes, Comes, unknown, wanting, known, PutsAll, PutsOnce}
use Rattle.prairie_top.specs.Laws.{OneAnswer, OneText, HasOneText, EndsPlanned, Complete, NeverFails, NeverUnwritten}
use Rattle.prairie_top.proofs.TaskLaws.{one_task}
use Rattle.prairie_top.proofs.ChainLaws.{some_is, Settles, One, IsClear, chain_settles, chain_one, chain_complete, chain_sure, chain_text}

-- what the layers below say of texts
pub record Laws : Type 0 where
  pub lists : OneList
  pub never : NeverBoth
  pub catalogs : OneCatalog
  pub rules : DistinctRules
  pub queries : DistinctQueries
  pub words : OneMeaning

-- ---- texts read in one way

one_text : OneList → (bytes : List ℕ) (ts us : Text) → HasTokens bytes ts → HasTokens bytes us → ts ≡ us
one_text lists bytes ts us (p, lexes, is) (p', lexes', is') = sym is ∙ (ap (map (λ (x : Token × ℕ). x.0)) (lists bytes p p' lexes lexes') ∙ is')

-- no two values have the same tokens, and none that is accepted is refused
record IsApart {V : Type 0} (g : Grammar V) : Type 1 where
  distinct : (v w : V) (ts : Text) → g.Spells v ts → g.Spells w ts → v ≡ w
  apart : (v : V) (refusal : Refusal) → g.Accepts v → g.Refuses v refusal → ⊥

none_not_some : {A : Type 0} {x : A} (o : Option A) → o ≡ None → o ≡ Some x → ⊥
none_not_some {A} {x} o n s = let clash : None ≡ Some x = sym n ∙ s in cc clash

rules_not_both : (r : Rules) (refusal : Refusal) → (refused_by r ≡ None) × (r.trules ≡ []) → IsRefusedRules r refusal → ⊥
rules_not_both r (NotAccepted kind name) accepts refuses = let clash : None ≡ Some (record { kind = kind; name = name }) = sym accepts.0 ∙ refuses in cc clash
rules_not_both r Unbuilt accepts refuses = refuses.1 accepts.1
rules_not_both r TooLong accepts refuses = refuses
rules_not_both r (BadByte at) accepts refuses = refuses
rules_not_both r (NumberTooBig at) accepts refuses = refuses
rules_not_both r (NameTooLong at) accepts refuses = refuses
rules_not_both r (BadSyntax at) accepts refuses = refuses
rules_not_both r (TooDeep at) accepts refuses = refuses
rules_not_both r NotJson accepts refuses = refuses
rules_not_both r (BadShape part) accepts refuses = refuses
rules_not_both r TooManyNodes accepts refuses = refuses
rules_not_both r (UnknownOperator name) accepts refuses = refuses
rules_not_both r (UnknownFile name) accepts refuses = refuses
rules_not_both r (Arity name) accepts refuses = refuses
rules_not_both r (UnknownProperty name) accepts refuses = refuses
rules_not_both r (WrongType name) accepts refuses = refuses

query_not_both : (r : Rules) (c : Catalog) (q : Query) (refusal : Refusal) → refusal_of r c q ≡ None → IsRefusedQuery r c q refusal → ⊥
query_not_both r c q TooManyNodes accepts refuses = none_not_some _ accepts refuses
query_not_both r c q (UnknownOperator name) accepts refuses = none_not_some _ accepts refuses
query_not_both r c q (UnknownFile name) accepts refuses = none_not_some _ accepts refuses
query_not_both r c q (Arity name) accepts refuses = none_not_some _ accepts refuses
query_not_both r c q (UnknownProperty name) accepts refuses = none_not_some _ accepts refuses
query_not_both r c q (WrongType name) accepts refuses = none_not_some _ accepts refuses
query_not_both r c q TooLong accepts refuses = refuses
query_not_both r c q (BadByte at) accepts refuses = refuses
query_not_both r c q (NumberTooBig at) accepts refuses = refuses
query_not_both r c q (NameTooLong at) accepts refuses = refuses
query_not_both r c q (BadSyntax at) accepts refuses = refuses
query_not_both r c q (TooDeep at) accepts refuses = refuses
query_not_both r c q NotJson accepts refuses = refuses
query_not_both r c q (BadShape part) accepts refuses = refuses
query_not_both r c q (NotAccepted kind name) accepts refuses = refuses
query_not_both r c q Unbuilt accepts refuses = refuses

rules_apart : Laws → IsApart rules_grammar
rules_apart laws = record {
  distinct = λ v w ts a b. laws.rules v w a.spelled b.spelled (sym a.tokens ∙ b.tokens);
  apart = rules_not_both;
}

query_apart : Laws → (r : Rules) (c : Catalog) → IsApart (query_grammar r c)
query_apart laws r c = record {
  distinct = λ v w ts a b. laws.queries v w a.spelled b.spelled (sym a.tokens ∙ b.tokens);
  apart = query_not_both r c;
}

module _ (laws : Laws) {V : Type 0} (g : Grammar V) (apart : IsApart g) where
  one_value : (v w : V) (bytes : List ℕ) → Reads g v bytes → Reads g w bytes → v ≡ w
  one_value v w bytes (ts, has, spells, accepts) (us, has', spells', accepts') = apart.distinct v w us (subst (λ (x : Text). g.Spells v x) (one_text laws.lists bytes ts us has has') spells) spells'

  tokens_not_missing : (refusal : Refusal) (bytes : List ℕ) (ts : Text) → HasTokens bytes ts → HasNoTokens refusal bytes → ⊥
  tokens_not_missing (BadByte at) bytes ts has why = laws.never bytes has.0 (lex.BadByte at) has.1 why
  tokens_not_missing (NumberTooBig at) bytes ts has why = laws.never bytes has.0 (lex.NumberTooBig at) has.1 why
  tokens_not_missing (NameTooLong at) bytes ts has why = laws.never bytes has.0 (lex.NameTooLong at) has.1 why
  tokens_not_missing TooLong bytes ts has why = why
  tokens_not_missing (BadSyntax at) bytes ts has why = why
  tokens_not_missing (TooDeep at) bytes ts has why = why
  tokens_not_missing NotJson bytes ts has why = why
  tokens_not_missing (BadShape part) bytes ts has why = why
  tokens_not_missing (NotAccepted kind name) bytes ts has why = why
  tokens_not_missing Unbuilt bytes ts has why = why
  tokens_not_missing TooManyNodes bytes ts has why = why
  tokens_not_missing (UnknownOperator name) bytes ts has why = why
  tokens_not_missing (UnknownFile name) bytes ts has why = why
  tokens_not_missing (Arity name) bytes ts has why = why
  tokens_not_missing (UnknownProperty name) bytes ts has why = why
  tokens_not_missing (WrongType name) bytes ts has why = why

  read_not_refused : (v : V) (refusal : Refusal) (bytes : List ℕ) → Reads g v bytes → IsRefusedText g refusal bytes → ⊥
  read_not_refused v refusal bytes (ts, has, spells, accepts) (no_tokens why) = tokens_not_missing refusal bytes ts has why
  read_not_refused v refusal bytes (ts, has, spells, accepts) (unread placed lexes syntax none) =
      none v (subst (λ (x : Text). g.Spells v x) (one_text laws.lists bytes ts (map (λ (x : Token × ℕ). x.0) placed) has (placed, lexes, refl)) spells)
  read_not_refused v refusal bytes (ts, has, spells, accepts) (refused w us has' spells' refuses) =
      let same = apart.distinct v w us (subst (λ (x : Text). g.Spells v x) (one_text laws.lists bytes ts us has has') spells) spells' in
      apart.apart w refusal (subst g.Accepts same accepts) refuses

-- bytes are the text of one JSON value
one_json : (bytes : List ℕ) (d e : Data) → IsJson bytes d → IsJson bytes e → e ≡ d
one_json bytes d e is is' = some_is e d (sym is'.1 ∙ is.1)

-- and of one catalog
same_catalog : Laws → (c d : Catalog) (bytes : List ℕ) → ReadsCatalog c bytes → ReadsCatalog d bytes → c ≡ d
same_catalog laws c d bytes (e, json, whole, says) (f, json', whole', says') = laws.catalogs bytes e f c d json json' says says'

catalog_not_refused : (c : Catalog) (refusal : Refusal) (bytes : List ℕ) → ReadsCatalog c bytes → IsRefusedCatalog refusal bytes → ⊥
catalog_not_refused c NotJson bytes (d, json, whole, says) none = none d json
catalog_not_refused c (BadShape part) bytes (d, json, whole, says) (e, json', bad) =
    let same : first_bad d ≡ Some part = subst (λ (x : Data). first_bad x ≡ Some part) (one_json bytes d e json json') bad in
    let clash : None ≡ Some part = sym whole ∙ same in
    cc clash
catalog_not_refused c TooLong bytes is why = why
catalog_not_refused c (BadByte at) bytes is why = why
catalog_not_refused c (NumberTooBig at) bytes is why = why
catalog_not_refused c (NameTooLong at) bytes is why = why
catalog_not_refused c (BadSyntax at) bytes is why = why
catalog_not_refused c (TooDeep at) bytes is why = why
catalog_not_refused c (NotAccepted kind name) bytes is why = why
catalog_not_refused c Unbuilt bytes is why = why
catalog_not_refused c TooManyNodes bytes is why = why
catalog_not_refused c (UnknownOperator name) bytes is why = why
catalog_not_refused c (UnknownFile name) bytes is why = why
catalog_not_refused c (Arity name) bytes is why = why
catalog_not_refused c (UnknownProperty name) bytes is why = why
catalog_not_refused c (WrongType name) bytes is why = why

-- ---- the answers to `plan`

-- a best plan and the lack of one exclude each other
pub one_outcome : (r : Rules) (c : Catalog) (q : Query) (o p : Outcome) → IsOutcome r c q o → IsOutcome r c q p → outcome_status o ≡ outcome_status p
one_outcome r c q (planned x t) (planned y u) h k = refl
one_outcome r c q (planned x t) unplanned h k = absurd (k x (h.0).0)
one_outcome r c q unplanned (planned y u) h k = absurd (h y (k.0).0)
one_outcome r c q unplanned unplanned h k = refl

module _ (laws : Laws) (names : Names) (fetches : Fetches) where
  decides_settles : (r : Rules) (c : Catalog) (q : Query) → Settles fetches (Decides r c q fetches)
  decides_settles r c q came text h = inr h.fetched

  catalog_settles : (r : Rules) (c : Catalog) → Settles fetches (CatalogComes r c names fetches)
  catalog_settles r c = chain_settles (query_source r c names.query) fetches (λ q. Decides r c q fetches) (decides_settles r c)

  rules_settles : (r : Rules) → Settles fetches (RulesComes r names fetches)
  rules_settles r = chain_settles (catalog_source names.catalog) fetches (λ c. CatalogComes r c names fetches) (catalog_settles r)

  module _ (files : Files) (tells : fetches.held ≡ Some files) where
    query_clear : (r : Rules) (c : Catalog) → IsClear (query_source r c names.query)
    query_clear r c q = read_not_refused laws (query_grammar r c) (query_apart laws r c) q

    rules_clear : IsClear (rules_source names.rules)
    rules_clear r = read_not_refused laws rules_grammar (rules_apart laws) r

    module _ (below : fetches.before < last_count) where
      one_decision : (r : Rules) (c : Catalog) (q p : Query) → q ≡ p → One (Decides r c q fetches) (Decides r c p fetches)
      one_decision r c q p same a b x y h k = h.status ∙ (one_outcome r c p h.outcome k.outcome (subst (λ (z : Query). IsOutcome r c z h.outcome) same h.comes) k.comes ∙ sym k.status)

      one_catalog : (r : Rules) (c : Catalog) → One (CatalogComes r c names fetches) (CatalogComes r c names fetches)
      one_catalog r c =
          chain_one (query_source r c names.query) fetches (λ q. Decides r c q fetches) files tells (query_clear r c) below
          (λ q p bytes h k. one_decision r c q p (one_value laws (query_grammar r c) (query_apart laws r c) q p bytes h k)) (decides_settles r c)

      one_rules : (r : Rules) → One (RulesComes r names fetches) (RulesComes r names fetches)
      one_rules r =
          chain_one (catalog_source names.catalog) fetches (λ c. CatalogComes r c names fetches) files tells catalog_not_refused below
          (λ c d bytes h k a b x y one other. one_catalog r d a b x y (subst (λ (z : Catalog). CatalogComes r z names fetches a x) (same_catalog laws c d bytes h k) one) other) (catalog_settles r)

      one_plan : One (PlanComes names fetches) (PlanComes names fetches)
      one_plan =
          chain_one (rules_source names.rules) fetches (λ r. RulesComes r names fetches) files tells rules_clear below
          (λ r s bytes h k a b x y one other. one_rules s a b x y (subst (λ (z : Rules). RulesComes z names fetches a x) (one_value laws rules_grammar (rules_apart laws) r s bytes h k) one) other) rules_settles

    -- where all is read and no fetch fails, the outcome is answered
    plan_complete : Still fetches.before fetches.after → (r : Rules) (c : Catalog) (q : Query) → IsRead (rules_source names.rules) fetches r → IsRead (catalog_source names.catalog) fetches c
        → IsRead (query_source r c names.query) fetches q → (came : Status) (text : List ℕ) → PlanComes names fetches came text → Decides r c q fetches came text
    plan_complete still r c q rules catalog query came text h =
        let under = chain_complete (rules_source names.rules) fetches (λ s. RulesComes s names fetches) files tells rules_clear still r rules came text
        (λ s bytes a b next. subst (λ (z : Rules). RulesComes z names fetches came text) (sym (one_value laws rules_grammar (rules_apart laws) r s bytes a b)) next) h in
        let with_it = chain_complete (catalog_source names.catalog) fetches (λ d. CatalogComes r d names fetches) files tells catalog_not_refused still c catalog came text
        (λ d bytes a b next. subst (λ (z : Catalog). CatalogComes r z names fetches came text) (sym (same_catalog laws c d bytes a b)) next) under in
        chain_complete (query_source r c names.query) fetches (λ p. Decides r c p fetches) files tells (query_clear r c) still q query came text
        (λ p bytes a b next. subst (λ (z : Query). Decides r c z fetches came text) (sym (one_value laws (query_grammar r c) (query_apart laws r c) q p bytes a b)) next) with_it

-- ---- a run

one_of_task : Laws → (task : Task) (fetches : Fetches) (files : Files) → fetches.held ≡ Some files → fetches.before < last_count → One (TaskComes task fetches) (TaskComes task fetches)
one_of_task laws (plan names limits) fetches files tells below = one_plan laws names fetches files tells below

pub one_answer : Laws → OneAnswer
one_answer laws words fetches files one other x y tells below (unknown none all is e) (unknown none' all' is' e') = inl (is ∙ sym is')
one_answer laws words fetches files one other x y tells below (unknown none all is e) (wanting is' e') = inr (inr is')
one_answer laws words fetches files one other x y tells below (unknown none all is e) (known task means comes) = absurd (none task means)
one_answer laws words fetches files one other x y tells below (wanting is e) k = inr (inl is)
one_answer laws words fetches files one other x y tells below (known task means comes) (unknown none all is e) = absurd (none task means)
one_answer laws words fetches files one other x y tells below (known task means comes) (wanting is e) = inr (inr is)
one_answer laws words fetches files one other x y tells below (known task means comes) (known task' means' comes') =
    inl (one_of_task laws task fetches files tells below one other x y comes (subst (λ (z : Task). TaskComes z fetches other y) (one_task laws.words words task' task means' means) comes'))

-- ---- texts that leave no choice

decides_text : (r : Rules) (c : Catalog) (q : Query) (fetches : Fetches) (text : List ℕ) → Decides r c q fetches status.NoPlan text → text ≡ no_plan_text
decides_text r c q fetches text h = by_outcome h.outcome h.status h.is where
  by_outcome : (o : Outcome) → status.NoPlan ≡ outcome_status o → text ≡ outcome_text o → text ≡ no_plan_text
  by_outcome (planned p t) is e = absurd (cc is)
  by_outcome unplanned is e = e

no_plan_says : (names : Names) (fetches : Fetches) (text : List ℕ) → PlanComes names fetches status.NoPlan text → text ≡ no_plan_text
no_plan_says names fetches =
    chain_text (rules_source names.rules) fetches (λ r. RulesComes r names fetches) status.NoPlan no_plan_text (λ e. cc e) (λ e. cc e) (λ r.
    chain_text (catalog_source names.catalog) fetches (λ c. CatalogComes r c names fetches) status.NoPlan no_plan_text (λ e. cc e) (λ e. cc e) (λ c.
    chain_text (query_source r c names.query) fetches (λ q. Decides r c q fetches) status.NoPlan no_plan_text (λ e. cc e) (λ e. cc e) (λ q.
    decides_text r c q fetches)))

task_text : (task : Task) (fetches : Fetches) (text : List ℕ) → TaskComes task fetches status.NoPlan text → text ≡ no_plan_text
task_text (plan names limits) fetches text h = no_plan_says names fetches text h

decides_status : (r : Rules) (c : Catalog) (q : Query) (fetches : Fetches) (came : Status) (text : List ℕ) → Decides r c q fetches came text → came ≢ status.Usage × came ≢ status.Memory × came ≢ status.WriteFault
decides_status r c q fetches came text h = by_outcome h.outcome h.status where
  by_outcome : (o : Outcome) → came ≡ outcome_status o → came ≢ status.Usage × came ≢ status.Memory × came ≢ status.WriteFault
  by_outcome (planned p t) is = ((λ e. let z : status.Done ≡ status.Usage = sym is ∙ e in cc z), (λ e. let z : status.Done ≡ status.Memory = sym is ∙ e in cc z), (λ e. let z : status.Done ≡ status.WriteFault = sym is ∙ e in cc z))
  by_outcome unplanned is = ((λ e. let z : status.NoPlan ≡ status.Usage = sym is ∙ e in cc z), (λ e. let z : status.NoPlan ≡ status.Memory = sym is ∙ e in cc z), (λ e. let z : status.NoPlan ≡ status.WriteFault = sym is ∙ e in cc z))

-- an answer to a command is none of these
abbrev IsOwn : Status → Type 0
IsOwn came = (came ≢ status.Usage) × (came ≢ status.Memory) × (came ≢ status.WriteFault)

chain_own : {X : Type 0} (s : sources.Source X) (fetches : Fetches) (Next : X → Status → List ℕ → Type 0) → ((x : X) (came : Status) (text : List ℕ) → Next x came text → IsOwn came)
    → (came : Status) (text : List ℕ) → Chain s fetches Next came text → IsOwn came
chain_own s fetches Next own came text (sources.refused refusal why all is e) =
    ((λ e. let z : status.Refused ≡ status.Usage = sym is ∙ e in cc z), (λ e. let z : status.Refused ≡ status.Memory = sym is ∙ e in cc z), (λ e. let z : status.Refused ≡ status.WriteFault = sym is ∙ e in cc z))
chain_own s fetches Next own came text (sources.failed fails is e) =
    ((λ e. let z : status.ReadFault ≡ status.Usage = sym is ∙ e in cc z), (λ e. let z : status.ReadFault ≡ status.Memory = sym is ∙ e in cc z), (λ e. let z : status.ReadFault ≡ status.WriteFault = sym is ∙ e in cc z))
chain_own s fetches Next own came text (sources.read x told next) = own x came text next

task_own : (task : Task) (fetches : Fetches) (came : Status) (text : List ℕ) → TaskComes task fetches came text → IsOwn came
task_own (plan names limits) fetches =
    chain_own (rules_source names.rules) fetches (λ r. RulesComes r names fetches) (λ r.
    chain_own (catalog_source names.catalog) fetches (λ c. CatalogComes r c names fetches) (λ c.
    chain_own (query_source r c names.query) fetches (λ q. Decides r c q fetches) (λ q. decides_status r c q fetches)))

-- no answer is a write fault before it is put
pub no_write_fault : (words : List Word) (fetches : Fetches) (came : Status) (text : List ℕ) → Comes words fetches came text → came ≢ status.WriteFault
no_write_fault words fetches came text (unknown none all is e) f = let z : status.Usage ≡ status.WriteFault = sym is ∙ f in cc z
no_write_fault words fetches came text (wanting is e) f = let z : status.Memory ≡ status.WriteFault = sym is ∙ f in cc z
no_write_fault words fetches came text (known task means comes) f = (task_own task fetches came text comes).2 f

-- the one text of usage, want of memory and no plan
text_of : Status → List ℕ
text_of status.Usage = usage_text
text_of status.NoPlan = no_plan_text
text_of _ = memory_text

says : (words : List Word) (fetches : Fetches) (came : Status) (text : List ℕ) → HasOneText came → Comes words fetches came text → text ≡ text_of came
unfolding text_of
says words fetches status.Usage text h (unknown none all is e) = e
says words fetches status.Usage text h (wanting is e) = absurd (cc is)
says words fetches status.Usage text h (known task means comes) = absurd ((task_own task fetches status.Usage text comes).0 refl)
says words fetches status.NoPlan text h (unknown none all is e) = absurd (cc is)
says words fetches status.NoPlan text h (wanting is e) = absurd (cc is)
says words fetches status.NoPlan text h (known task means comes) = task_text task fetches text comes
says words fetches status.Memory text h (unknown none all is e) = absurd (cc is)
says words fetches status.Memory text h (wanting is e) = e
says words fetches status.Memory text h (known task means comes) = absurd ((task_own task fetches status.Memory text comes).1 refl)
says words fetches status.Done text h k = absurd h
says words fetches status.Refused text h k = absurd h
says words fetches status.Limit text h k = absurd h
says words fetches status.Disagree text h k = absurd h
says words fetches status.Loop text h k = absurd h
says words fetches status.ReadFault text h k = absurd h
says words fetches status.WriteFault text h k = absurd h
says words fetches status.CertRefused text h k = absurd h

pub one_answer_text : OneText
one_answer_text words fetches came text text' h one other = says words fetches came text h one ∙ sym (says words fetches came text' h other)

-- ---- no fault without a cause

pub never_fails : NeverFails
never_fails names fetches files text tells is rules catalog query =
    chain_sure (rules_source names.rules) fetches (λ r. RulesComes r names fetches) files tells is rules.0 rules.1 (λ r.
    chain_sure (catalog_source names.catalog) fetches (λ c. CatalogComes r c names fetches) files tells is catalog.0 catalog.1 (λ c.
    chain_sure (query_source r c names.query) fetches (λ q. Decides r c q fetches) files tells is query.0 query.1 (λ q t h. decides_no_fault r c q t h))) text where
      decides_no_fault : (r : Rules) (c : Catalog) (q : Query) (t : List ℕ) → Decides r c q fetches status.ReadFault t → ⊥
      decides_no_fault r c q t h = by_outcome h.outcome h.status where
        by_outcome : (o : Outcome) → status.ReadFault ≡ outcome_status o → ⊥
        by_outcome (planned p u) e = cc e
        by_outcome unplanned e = cc e

pub never_unwritten : NeverUnwritten
never_unwritten puts came ended text still put is = let whole = subst (λ (s : Status). PutsOnce puts came text s) is put in let rose = whole.0 in let at = still.0 in let below = still.1 in omega (arith, at, below, rose)

-- ---- what a run ends with where nothing fails

put_whole : (puts : Puts) (came : Status) (text : List ℕ) (ended : Status) → Still puts.before puts.after → PutsOnce puts came text ended → (ended ≡ status.Memory) ⊎ ((ended ≡ came) × PutsAll puts text)
put_whole puts came text status.WriteFault still h = let rose = h.0 in let at = still.0 in let below = still.1 in absurd (omega (arith, at, below, rose))
put_whole puts came text status.Memory still h = inl refl
put_whole puts came text status.Done still h = inr h
put_whole puts came text status.Usage still h = inr h
put_whole puts came text status.Refused still h = inr h
put_whole puts came text status.NoPlan still h = inr h
put_whole puts came text status.Limit still h = inr h
put_whole puts came text status.Disagree still h = inr h
put_whole puts came text status.Loop still h = inr h
put_whole puts came text status.ReadFault still h = inr h
put_whole puts came text status.CertRefused still h = inr h

pub complete : Laws → Complete
complete laws words names limits fetches puts files r c q ended tells means rules catalog query still whole ends =
    elim (put_whole puts ends.came ends.text ended whole ends.put) [
      | inl memory ↦ inl memory
      | inr put ↦ by_cause ends.came ends.text put ends.comes
    ] where
      decided : (came : Status) (text : List ℕ) → (ended ≡ came) × PutsAll puts text → Decides r c q fetches came text → EndsPlanned r c q puts ended
      decided came text put h = inr (h.outcome, h.comes, put.0 ∙ h.status, subst (λ (t : List ℕ). PutsAll puts t) h.is put.1)

      by_cause : (came : Status) (text : List ℕ) → (ended ≡ came) × PutsAll puts text → Comes words fetches came text → EndsPlanned r c q puts ended
      by_cause came text put (unknown none all is e) = absurd (none (plan names limits) means)
      by_cause came text put (wanting is e) = inl (put.0 ∙ is)
      by_cause came text put (known task means' comes) =
          decided came text put (
          plan_complete laws names fetches files tells still r c q rules catalog query came text (
          subst (λ (z : Task). TaskComes z fetches came text) (one_task laws.words words task (plan names limits) means' means) comes))
