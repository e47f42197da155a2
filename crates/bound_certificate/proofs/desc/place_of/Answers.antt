use Rattle.std.proofs.Common.{rules}
use Rattle.std.proofs.lemmas.Fn.{always_returns_same}
use Rattle.pr_value.specs.SymbolSets.{compare_symbols}
use Rattle.bound_certificate.proofs.FieldOrder.{key}
use Rattle.bound_certificate.proofs.PutLaws.{put_found, put_missing}
use Rattle.bound_certificate.proofs.desc.place_of.Goals as goal

pub returns-clause-found : goal.returns-clause-found
returns-clause-found c =
    put_found c.args.fields.now c.args.name.now c.binary_search_by.result c.requires c.binary_search_by.ensures.bound
    (c.binary_search_by.ensures.position (λ f. compare_symbols (key f) c.args.name.now) (always_returns_same _ _ _ (λ a r t e. search rules)))

pub returns-clause-missing : goal.returns-clause-missing
returns-clause-missing c =
    put_missing c.args.fields.now c.args.name.now c.binary_search_by.result c.requires c.binary_search_by.ensures.bound
    (c.binary_search_by.ensures.position (λ f. compare_symbols (key f) c.args.name.now) (always_returns_same _ _ _ (λ a r t e. search rules)))
