-- Causes of answers from what the parts of a run give.
use Rattle.std.proofs.Common.{ℕ, List, refl}
use Rattle.std.specs.Prelude.{Result, Ok, Err, IfOk}
use Rattle.catalog.specs.Contents.{Catalog}
use Rattle.rule_ast.specs.Syntax.{Rules, Query}
use Rattle.query_build.specs.Query.{query_tree}
use Rattle.prairie_top.specs.declared.status.Status.{Status}
use Rattle.prairie_top.specs.declared.status.Status.TheVariants as status
use Rattle.prairie_top.specs.Run.{Fetches}
use Rattle.prairie_top.specs.Sources.{AllFetched}
use Rattle.prairie_top.specs.Outcome.{Decides, planned, unplanned}
use Rattle.prairie_top.specs.Stages.{IsDecided}

-- what is decided of the query's tree is the outcome's answer
pub decides : (r : Rules) (c : Catalog) (q : Query) (fetches : Fetches) (came : Status) (text : List ℕ) → AllFetched fetches → IsDecided r c (query_tree r c q) came text → Decides r c q fetches came text
decides r c q fetches status.Done text all h = record { outcome = planned h.0 text; comes = (h.1, h.2); fetched = all; status = refl; is = refl }
decides r c q fetches status.NoPlan text all h = record { outcome = unplanned; comes = h.0; fetched = all; status = refl; is = h.1 }
decides r c q fetches status.Usage text all h = absurd h
decides r c q fetches status.Refused text all h = absurd h
decides r c q fetches status.Limit text all h = absurd h
decides r c q fetches status.Disagree text all h = absurd h
decides r c q fetches status.Loop text all h = absurd h
decides r c q fetches status.ReadFault text all h = absurd h
decides r c q fetches status.WriteFault text all h = absurd h
decides r c q fetches status.Memory text all h = absurd h
decides r c q fetches status.CertRefused text all h = absurd h

-- what holds of an answer, from what holds of it below
pub ok_maps : {X E : Type 0} (P Q : X → Type 0) (r : Result X E) → ((x : X) → P x → Q x) → IfOk r P → IfOk r Q
ok_maps P Q (Ok x) f p = f x p
ok_maps P Q (Err e) f p = tt
