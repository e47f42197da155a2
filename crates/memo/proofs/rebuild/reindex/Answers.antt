use Rattle.std.proofs.Common.{rules, refl, inl, true, false, ◌∙◌, subst}
use Rattle.memo.specs.Index.{Enters}
use Rattle.memo.proofs.KeepLaws.{forest_grew}
use Rattle.memo.proofs.RebuildLaws.{inputs_there}
use Rattle.memo.proofs.ReindexLaws.{forest_keyed, entry_low, twins, reindexed_kept, reindexed_gone, key_live}
use Rattle.memo.proofs.rebuild.reindex.Goals as goal

pub returns-then-not-expr_get-clause-reindexed : goal.returns-then-not-expr_get-clause-reindexed
returns-then-not-expr_get-clause-reindexed g c = (c.expr_get.result.now, c.expr_get.ensures, inl ((let h = c.if-not-expr_get.true in search rules), refl, refl, refl))

pub key_of-requires-clause-inputs : goal.key_of-requires-clause-inputs
key_of-requires-clause-inputs g c = inputs_there c.args.log.now.terms c.args.log.now.lines c.args.exprs.now c.args.known.now c.requires.forest c.args.i

pub note-requires-clause-forest : goal.note-requires-clause-forest
note-requires-clause-forest g c = forest_keyed c.args.exprs.now c.rename-in-Some.new.exprs c.args.i c.in_ok-key.key c.in_ok-inputs.inputs false c.in_ok-key.ensures c.rename-in-Some.ensures (c.in_ok-inputs.ensures ∙ c.as_slice.ensures) c.args.log.now.terms c.args.log.now.lines c.args.known.now c.requires.forest

pub note-requires-clause-twins : goal.note-requires-clause-twins
note-requires-clause-twins g c = twins c.args.exprs.now c.rename-in-Some.new.exprs c.args.i c.in_ok-key.key c.in_ok-inputs.inputs false c.in_ok-key.ensures c.rename-in-Some.ensures (c.in_ok-inputs.ensures ∙ c.as_slice.ensures) c.args.index.now.entries c.in-Some.f c.requires.indexed (subst (λ r. Enters c.args.index.now.entries c.enter.new.index.entries c.in_ok-key.key c.args.i r) c.in-Some.is c.in_ok-found.ensures).1

pub note-requires-clause-there : goal.note-requires-clause-there
note-requires-clause-there g c = entry_low c.args.exprs.now c.rename-in-Some.new.exprs c.args.i c.in_ok-key.key c.in_ok-inputs.inputs false c.in_ok-key.ensures c.rename-in-Some.ensures (c.in_ok-inputs.ensures ∙ c.as_slice.ensures) c.args.index.now.entries c.in-Some.f c.requires.indexed (subst (λ r. Enters c.args.index.now.entries c.enter.new.index.entries c.in_ok-key.key c.args.i r) c.in-Some.is c.in_ok-found.ensures).1

pub returns-in-None-clause-forest : goal.returns-in-None-clause-forest
returns-in-None-clause-forest g c = forest_keyed c.args.exprs.now c.rename.new.exprs c.args.i c.in_ok-key.key c.in_ok-inputs.inputs true c.in_ok-key.ensures c.rename.ensures (c.in_ok-inputs.ensures ∙ c.as_slice.ensures) c.args.log.now.terms c.args.log.now.lines c.args.known.now c.requires.forest

pub returns-in-None-clause-reindexed : goal.returns-in-None-clause-reindexed
returns-in-None-clause-reindexed g c =
    reindexed_kept c.args.exprs.now c.rename.new.exprs c.args.i c.in_ok-key.key c.in_ok-inputs.inputs true c.in_ok-key.ensures c.rename.ensures (c.in_ok-inputs.ensures ∙ c.as_slice.ensures) c.args.log.now.lines c.args.index.now.entries c.enter.new.index.entries c.args.joins.now.items c.args.joins.now.items
    (key_live c.args.exprs.now c.args.i c.in_ok-key.key c.expr_get.result.now c.in_ok-key.ensures c.expr_get.ensures (let h = c.if-not-expr_get.false in search rules)) refl (subst (λ r. Enters c.args.index.now.entries c.enter.new.index.entries c.in_ok-key.key c.args.i r) c.in-None.is c.in_ok-found.ensures) refl

pub returns-in_ok-note-in-Some-clause-forest : goal.returns-in_ok-note-in-Some-clause-forest
returns-in_ok-note-in-Some-clause-forest g c =
    forest_grew c.args.log.now c.note.new.log c.rename-in-Some.new.exprs c.args.known.now c.in_ok-note-in-Some.ensures.grew
    (forest_keyed c.args.exprs.now c.rename-in-Some.new.exprs c.args.i c.in_ok-key.key c.in_ok-inputs.inputs false c.in_ok-key.ensures c.rename-in-Some.ensures (c.in_ok-inputs.ensures ∙ c.as_slice.ensures) c.args.log.now.terms c.args.log.now.lines c.args.known.now c.requires.forest)

pub returns-in_ok-note-in-Some-clause-reindexed : goal.returns-in_ok-note-in-Some-clause-reindexed
returns-in_ok-note-in-Some-clause-reindexed g c =
    reindexed_gone c.args.exprs.now c.rename-in-Some.new.exprs c.args.i c.in_ok-key.key c.in_ok-inputs.inputs false c.in_ok-key.ensures c.rename-in-Some.ensures (c.in_ok-inputs.ensures ∙ c.as_slice.ensures) c.note.new.log.lines c.args.index.now.entries c.enter.new.index.entries c.args.joins.now.items c.note.new.joins.items
    (key_live c.args.exprs.now c.args.i c.in_ok-key.key c.expr_get.result.now c.in_ok-key.ensures c.expr_get.ensures (let h = c.if-not-expr_get.false in search rules)) refl c.in-Some.f (subst (λ r. Enters c.args.index.now.entries c.enter.new.index.entries c.in_ok-key.key c.args.i r) c.in-Some.is c.in_ok-found.ensures) c.in_ok-note-in-Some.ensures.noted
