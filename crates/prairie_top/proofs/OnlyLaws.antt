-- A plan, and that there is none, are answers of texts that read, whatever the shelf tells.
use Rattle.std.proofs.Common.{ℕ, List, Option, Some, None, subst}
use Rattle.pr_outside.specs.Files.{Files}
use Rattle.catalog.specs.Contents.{Catalog}
use Rattle.rule_ast.specs.Syntax.{Rules}
use Rattle.prairie_words.specs.Commands.{Names}
use Rattle.prairie_top.specs.declared.status.Status.{Status}
use Rattle.prairie_top.specs.Laws.{IsOfTexts, IsDecision, OnlyBest}
use Rattle.prairie_top.specs.Reading.{Reads, rules_grammar, query_grammar, ReadsCatalog}
use Rattle.prairie_top.specs.Run.{Fetches, Told}
use Rattle.prairie_top.specs.Sources.{Within, refused, failed, read}
use Rattle.prairie_top.specs.Tasks.{plan}
use Rattle.prairie_top.specs.Outcome.{CatalogComes, RulesComes, PlanComes, unknown, wanting, known}

-- some bytes read so
told_reads : (held : Option Files) (name : List ℕ) (limit : ℕ) (P : List ℕ → Type 0) → Told held name (Within limit P) → (bytes : List ℕ) × P bytes
told_reads None name limit P (bytes, (few, is)) = (bytes, is)
told_reads (Some files) name limit P (bytes, at, (few, is)) = (bytes, is)

module _ (names : Names) (fetches : Fetches) (came : Status) (text : List ℕ) (decided : IsDecision came) where
  of_query : (r : Rules) (c : Catalog) → (bytes : List ℕ) × Reads rules_grammar r bytes → (bytes : List ℕ) × ReadsCatalog c bytes → CatalogComes r c names fetches came text → IsOfTexts came text
  of_query r c rules catalog (refused refusal why all is e) = absurd (subst IsDecision is decided)
  of_query r c rules catalog (failed fails is e) = absurd (subst IsDecision is decided)
  of_query r c rules catalog (read q told h) = record {
    rules = r;
    catalog = c;
    query = q;
    outcome = h.outcome;
    read = record { rules = rules; catalog = catalog; query = told_reads fetches.held names.query _ (Reads (query_grammar r c) q) told };
    comes = h.comes;
    status = h.status;
    is = h.is;
  }

  of_catalog : (r : Rules) → (bytes : List ℕ) × Reads rules_grammar r bytes → RulesComes r names fetches came text → IsOfTexts came text
  of_catalog r rules (refused refusal why all is e) = absurd (subst IsDecision is decided)
  of_catalog r rules (failed fails is e) = absurd (subst IsDecision is decided)
  of_catalog r rules (read c told h) = of_query r c rules (told_reads fetches.held names.catalog _ (ReadsCatalog c) told) h

  of_rules : PlanComes names fetches came text → IsOfTexts came text
  of_rules (refused refusal why all is e) = absurd (subst IsDecision is decided)
  of_rules (failed fails is e) = absurd (subst IsDecision is decided)
  of_rules (read r told h) = of_catalog r (told_reads fetches.held names.rules _ (Reads rules_grammar r) told) h

pub only_best : OnlyBest
only_best words fetches came text decided (unknown none all is e) = absurd (subst IsDecision is decided)
only_best words fetches came text decided (wanting is e) = absurd (subst IsDecision is decided)
only_best words fetches came text decided (known (plan names limits) means comes) = of_rules names fetches came text decided comes
