use Rattle.std.proofs.lemmas.Result.{err_from_is_err_and}
use Rattle.rule_lex.proofs.StepLaws.{quoted_begins, quoted_fault}
use Rattle.rule_lex.proofs.classes.quoted_token.Goals as goal

pub returns-in_err-symbol-in-Some-clause-fault : goal.returns-in_err-symbol-in-Some-clause-fault
returns-in_err-symbol-in-Some-clause-fault c =
    let p = err_from_is_err_and c.from_residual.result c.from_residual.ensures.1 in
    rw (p.1, p.2) (λ m. quoted_fault c.args.after.now c.in-Some.word.now c.in-Some.rest.now c.args.place c.in_err-symbol-in-Some.field-0.0 c.in-Some.ensures (c.in_err-symbol-in-Some.ensures.long m))

pub returns-in_ok-symbol-in-Some-clause-token : goal.returns-in_ok-symbol-in-Some-clause-token
returns-in_ok-symbol-in-Some-clause-token c =
    quoted_begins c.args.after.now c.in-Some.word.now c.in-Some.rest.now c.in_ok-symbol-in-Some.symbol c.in-Some.ensures c.in_ok-symbol-in-Some.ensures.same
