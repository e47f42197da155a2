use Rattle.std.proofs.Common.{◌≡◌, ◌++◌, take, rules, arith, Some, sym, ◌∙◌}
use Rattle.pr_outside.proofs.Parts.{appended_is_prefix}
use Rattle.pr_outside.proofs.RoomLaws.{room_next, room_taken, room_left}
use Rattle.pr_outside.proofs.mem_sink.MemSinkSink.put.Goals as goal

pub invariant_of-self : goal.invariant_of-self
invariant_of-self c = room_next c.self.inside.calls _ _ _ _ _ c.one_more-self-inside.ensures c.self.invariant _ _ c.append.ensures.room

pub overflow_sub-self : goal.overflow_sub-self
overflow_sub-self c = room_taken c.self.inside.calls _ _ _ _ _ c.one_more-self-inside.ensures c.self.invariant _ (sym c.taken_at.ensures ∙ c.in-Some.is)

pub append_kept-requires-clause-within : goal.append_kept-requires-clause-within
append_kept-requires-clause-within c =
    let room = room_taken c.self.inside.calls _ _ _ _ _ c.one_more-self-inside.ensures c.self.invariant c.in-Some.taken (sym c.taken_at.ensures ∙ c.in-Some.is) in
    omega (arith, room)

pub invariant_of-self-2 : goal.invariant_of-self-2
invariant_of-self-2 c =
    room_left c.self.inside.calls _ _ _ _ _ c.one_more-self-inside.ensures c.self.invariant _ _ _ _ (sym c.taken_at.ensures ∙ c.in-Some.is) c.part.ensures.within c.append_kept.ensures.room

pub returns-clause-prefix : goal.returns-clause-prefix
returns-clause-prefix c =
    let put : c.append_kept.new.written.items ≡ c.args.self.now.written ++ take c.in-Some.taken c.args.piece.now = search rules in
    λ _. appended_is_prefix (Some c.in-Some.taken) _ _ _ put
