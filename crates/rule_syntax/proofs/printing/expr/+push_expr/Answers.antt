use Rattle.std.proofs.Common.{arith}
use Rattle.rule_ast.specs.Seen.{seen_expr}
use Rattle.rule_syntax.specs.Tokens.{expr_tokens}
use Rattle.rule_syntax.proofs.PrintLaws.{commas_step, set_pieces, list_pieces, call_pieces, binary_pieces, fold_pieces}
use Rattle.rule_syntax.proofs.printing.expr.+push_expr.Goals as goal

pub push_expr-returns-in_ok-push_mark-in-SetOf-2 : goal.push_expr-returns-in_ok-push_mark-in-SetOf-2
push_expr-returns-in_ok-push_mark-in-SetOf-2 t c =
    set_pieces c.args.e.now c.in-SetOf.members c.as_slice.result.now c.args.tokens.now c.push_mark.new.tokens c.push_exprs.new.tokens c.push_mark-in-SetOf.new.tokens c.in-SetOf.is c.as_slice.ensures c.in_ok-push_mark-in-SetOf.ensures
    c.in_ok-push_exprs-in-SetOf.ensures c.in_ok-push_mark-in-SetOf-2.ensures

pub push_expr-returns-in_ok-push_mark-in-ListOf-2 : goal.push_expr-returns-in_ok-push_mark-in-ListOf-2
push_expr-returns-in_ok-push_mark-in-ListOf-2 t c =
    list_pieces c.args.e.now c.in-ListOf.members c.as_slice-in-ListOf.result.now c.args.tokens.now c.push_mark-in-ListOf.new.tokens c.push_exprs-in-ListOf.new.tokens c.push_mark-in-ListOf-2.new.tokens c.in-ListOf.is c.as_slice-in-ListOf.ensures
    c.in_ok-push_mark-in-ListOf.ensures c.in_ok-push_exprs-in-ListOf.ensures c.in_ok-push_mark-in-ListOf-2.ensures

pub push_expr-returns-in_ok-push_mark-in-Call : goal.push_expr-returns-in_ok-push_mark-in-Call
push_expr-returns-in_ok-push_mark-in-Call t c =
    call_pieces c.args.e.now c.in-Call.name c.in-Call.args c.as_slice-in-Call.result.now c.args.tokens.now c.open_call.new.tokens c.push_exprs-in-Call.new.tokens c.push_mark-in-Call.new.tokens c.in-Call.is c.as_slice-in-Call.ensures
    c.in_ok-open_call-in-Call.ensures c.in_ok-push_exprs-in-Call.ensures c.in_ok-push_mark-in-Call.ensures

pub push_expr-returns-in_ok-push_mark-in-Binary-3 : goal.push_expr-returns-in_ok-push_mark-in-Binary-3
push_expr-returns-in_ok-push_mark-in-Binary-3 t c =
    binary_pieces c.args.e.now c.in-Binary.left c.in-Binary.right c.get.result.now c.get-in-Binary.result.now c.in-Binary.op c.binop_mark.result c.args.tokens.now c.push_mark-in-Binary.new.tokens c.push_expr.new.tokens c.push_mark-in-Binary-2.new.tokens
    c.push_expr-in-Binary.new.tokens c.push_mark-in-Binary-3.new.tokens c.in-Binary.is c.get.ensures c.get-in-Binary.ensures c.binop_mark.ensures c.in_ok-push_mark-in-Binary.ensures c.in_ok-push_expr-in-Binary.ensures c.in_ok-push_mark-in-Binary-2.ensures
    c.in_ok-push_expr-in-Binary-2.ensures c.in_ok-push_mark-in-Binary-3.ensures

pub push_expr-returns-in_ok-push_mark-in-Fold-2 : goal.push_expr-returns-in_ok-push_mark-in-Fold-2
push_expr-returns-in_ok-push_mark-in-Fold-2 t c =
    fold_pieces c.args.e.now c.in-Fold.over c.in-Fold.body c.get-in-Fold.result.now c.get-in-Fold-2.result.now c.in-Fold.fold c.in-Fold.name c.args.tokens.now c.begin_fold.new.tokens c.push_expr-in-Fold.new.tokens c.push_mark-in-Fold.new.tokens
    c.push_expr-in-Fold-2.new.tokens c.push_mark-in-Fold-2.new.tokens c.in-Fold.is c.get-in-Fold.ensures c.get-in-Fold-2.ensures c.in_ok-begin_fold-in-Fold.ensures c.in_ok-push_expr-in-Fold.ensures c.in_ok-push_mark-in-Fold.ensures
    c.in_ok-push_expr-in-Fold-2.ensures c.in_ok-push_mark-in-Fold-2.ensures

pub push_exprs-loop-i-preserved : goal.push_exprs-loop-i-preserved
push_exprs-loop-i-preserved t c =
    commas_step (λ e. expr_tokens (seen_expr e)) c.args.es.now c.loop-i.i c.index-es-i.result c.args.tokens.now c.loop-i.tokens c.push_comma.new.tokens c.push_expr.new.tokens (omega arith) c.index-es-i.is c.loop-i.invariant c.in_ok-push_comma.ensures
    c.in_ok-push_expr.ensures
