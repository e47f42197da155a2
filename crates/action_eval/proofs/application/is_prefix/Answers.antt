use Rattle.std.proofs.Common.{sym, ◌∙◌}
use Rattle.action_eval.proofs.FunctionLaws.{is_prefix-starts_with}
use Rattle.action_eval.proofs.application.is_prefix.Goals as goal

pub returns : goal.returns
returns c = c.starts_with.ensures.value ∙ sym (is_prefix-starts_with c.args.first.now c.args.second.now)
