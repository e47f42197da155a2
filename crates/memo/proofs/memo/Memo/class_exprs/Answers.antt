use Rattle.std.proofs.Common.{◌≡◌, ◌<◌, ◌∙◌, List, ℕ, Some, length, slice_get, ap, sym, subst}
use Rattle.memo.specs.Members.{exprs_of}
use Rattle.memo.proofs.MemberLaws.{some_is}
use Rattle.memo.proofs.ViewLaws.{root_low}
use Rattle.memo.proofs.memo.Memo.class_exprs.Goals as goal

pub members_get-requires : goal.members_get-requires
members_get-requires g c =
    let m = c.self.inside in
    let e = c.expr_get-e.result.now in
    let kept = c.self.invariant (ap (λ v. v.spoilt) c.self.view_is ∙ c.requires.sound) in
    let at : slice_get m.exprs.items c.args.class ≡ Some e = ap (λ w. slice_get w c.args.class) (sym c.as_slice.ensures.value) ∙ c.expr_get-e.ensures in
    subst (λ (rows : List (List ℕ)). e.class < length rows) (sym c.as_slice-2.ensures.value) (subst (λ n. e.class < n) (sym kept.members.0) (root_low m.log.terms m.log.lines m.exprs.items m.known.items kept.memo.forest c.args.class e at))

pub returns : goal.returns
returns g c =
    let m = c.self.inside in
    let e = c.expr_get-e.result.now in
    let kept = c.self.invariant (ap (λ v. v.spoilt) c.self.view_is ∙ c.requires.sound) in
    let at : slice_get m.exprs.items c.args.class ≡ Some e = ap (λ w. slice_get w c.args.class) (sym c.as_slice.ensures.value) ∙ c.expr_get-e.ensures in
    let low = root_low m.log.terms m.log.lines m.exprs.items m.known.items kept.memo.forest c.args.class e at in
    let row : slice_get m.members.items e.class ≡ Some c.members_get.result.now = ap (λ w. slice_get w e.class) (sym c.as_slice-2.ensures.value) ∙ c.members_get.ensures in
    rw (← c.self.view_is) (e, at, some_is c.members_get.result.now (exprs_of e.class 0 m.exprs.items) (sym row ∙ kept.members.1 e.class low))
