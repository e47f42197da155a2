use Rattle.std.proofs.Common.{List, ℕ, length, sym, ◌∙◌, subst}
use Rattle.memo.specs.Start.{OwnsFirst}
use Rattle.memo.proofs.StartLaws.{inputs_none, inputs_owned, none_owned}
use Rattle.memo.proofs.start.own_inputs.Goals as goal

pub returns-in-None-clause-owned : goal.returns-in-None-clause-owned
returns-in-None-clause-owned g c = inputs_none c.args.log.now.terms c.args.own.now c.args.n (none_owned c.args.own.now c.args.n c.in-None.ensures)

pub own_all-requires-clause-inputs : goal.own_all-requires-clause-inputs
own_all-requires-clause-inputs g c = let (t, at, is) = c.in_ok-inputs-in-Some.ensures in (t, at, sym is ∙ sym c.as_slice.ensures.value)

pub returns-in_ok-own_all-in-Some-clause-owned : goal.returns-in_ok-own_all-in-Some-clause-owned
returns-in_ok-own_all-in-Some-clause-owned g c =
    let (t, at, is) = c.in_ok-inputs-in-Some.ensures in
    inputs_owned c.args.log.now.terms c.args.own.now c.own_all.new.own c.args.n t (c.in-Some.of, c.in-Some.ensures) at
    (subst (λ (ns : List ℕ). OwnsFirst c.args.own.now c.own_all.new.own ns (length ns)) (c.as_slice.ensures.value ∙ is) c.in_ok-own_all-in-Some.ensures.owned)
