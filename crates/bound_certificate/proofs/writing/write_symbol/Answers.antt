use Rattle.std.proofs.Common.{ap, subst, sym, ◌∙◌}
use Rattle.std.specs.Prelude.{IsUtf8}
use Rattle.serde_json.specs.Data.{string}
use Rattle.bound_certificate.proofs.SymbolTexts.{symbol_is_utf8}
use Rattle.bound_certificate.proofs.writing.write_symbol.Goals as goal

pub returns-clause-written : goal.returns-clause-written
returns-clause-written c =
    let same = c.as_slice-bytes.ensures.same in
    let utf8 = subst IsUtf8 (sym same) (symbol_is_utf8 c.args.symbol.now c.as_slice-bytes.ensures.symbol) in
    c.from.ensures ∙ ap string (c.in_ok-text.ensures.ok utf8 ∙ same)
