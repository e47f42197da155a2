use Rattle.std.proofs.Common.{◌≡◌, get_or, ap, sym, ◌∙◌, subst, arith}
use Rattle.std.proofs.lemmas.Bool.{not-false, not-true}
use Rattle.std.proofs.lemmas.List.{take_all}
use Rattle.pr_value.specs.Repeats.{first_repeated}
use Rattle.pr_value.specs.Symbols.{Symbol}
use Rattle.pr_value.proofs.RepeatLaws.{Passed-none, Passed-more, Passed-found}
use Rattle.pr_value.proofs.repeats.first_repeated.Goals as goal

pub loop-i-init : goal.loop-i-init
loop-i-init c = Passed-none c.new-earlier.result c.new-earlier.ensures.empty

pub returns-then-not-is_new : goal.returns-then-not-is_new
returns-then-not-is_new c =
    let s : Symbol = c.in_ok-copy.field-0 in
    let at : s ≡ get_or c.args.symbols.now c.loop-i.i s = subst (λ (t : Symbol). t ≡ get_or c.args.symbols.now c.loop-i.i t) (sym c.in_ok-copy.ensures) c.index-symbols-i.is in
    Passed-found c.loop-i.earlier c.args.symbols.now c.loop-i.i s (omega arith) at c.loop-i.invariant (not-false _ (sym c.in_ok-is_new.ensures.added ∙ c.if-not-is_new.true))

pub loop-i-preserved : goal.loop-i-preserved
loop-i-preserved c =
    let s : Symbol = c.in_ok-copy.field-0 in
    let at : s ≡ get_or c.args.symbols.now c.loop-i.i s = subst (λ (t : Symbol). t ≡ get_or c.args.symbols.now c.loop-i.i t) (sym c.in_ok-copy.ensures) c.index-symbols-i.is in
    Passed-more c.loop-i.earlier c.insert.new.self c.args.symbols.now c.loop-i.i s (omega arith) at c.loop-i.invariant c.in_ok-is_new.ensures.updates (not-true _ (sym c.in_ok-is_new.ensures.added ∙ c.if-not-is_new.false))

pub returns : goal.returns
returns c = sym (ap first_repeated (sym (take_all _ _ c.loop-i-test.false)) ∙ c.loop-i.invariant.distinct)
