use Rattle.std.proofs.Common.{◌<◌, ◌∙◌, sym, subst, arith}
use Rattle.pr_value.proofs.LogLaws.{log2-zero, log2-small, log2-is}
use Rattle.pr_value.proofs.capped.cap_log2.Goals as goal

pub returns-then-a-eq0-clause-value : goal.returns-then-a-eq0-clause-value
returns-then-a-eq0-clause-value c = log2-zero c.args.a c.if-a-eq0.true

pub returns-else-a-eq0-clause-value : goal.returns-else-a-eq0-clause-value
returns-else-a-eq0-clause-value c =
    c.from.ensures ∙ log2-is c.args.a c.ilog2.result (omega arith) c.ilog2.ensures.power_le c.ilog2.ensures.next_power_gt

pub returns-else-a-eq0-clause-within : goal.returns-else-a-eq0-clause-within
returns-else-a-eq0-clause-within c =
    subst (λ n. n < 64) (sym c.from.ensures) (log2-small c.args.a c.ilog2.result (omega arith) c.ilog2.ensures.power_le)
