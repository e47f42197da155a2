use Rattle.std.proofs.lemmas.Result.{err_from_is_err_and}
use Rattle.rule_lex.proofs.StepLaws.{name_begins, name_fault}
use Rattle.rule_lex.proofs.classes.name_token.Goals as goal

pub returns-in_err-symbol-clause-fault : goal.returns-in_err-symbol-clause-fault
returns-in_err-symbol-clause-fault c =
    let p = err_from_is_err_and c.from_residual.result c.from_residual.ensures.1 in
    rw (p.1, p.2) (λ m. name_fault c.args.text.now c.word_at.result.0.now c.word_at.result.1.now c.args.place c.in_err-symbol.field-0.0 c.word_at.ensures c.requires (c.in_err-symbol.ensures.long m))

pub returns-clause-token : goal.returns-clause-token
returns-clause-token c =
    name_begins c.args.text.now c.word_at.result.0.now c.word_at.result.1.now c.in_ok-symbol.symbol c.word_at.ensures c.requires c.in_ok-symbol.ensures.same
