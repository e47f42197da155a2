use Rattle.std.proofs.Common.{◌≡◌, Some, Err, [], ◌∷◌, ◌++◌, string_bytes, append_assoc, append-nil, sym, ap, ◌∙◌, subst}
use Rattle.std.specs.List.Sorted.{IsStrictlySortedBy}
use Rattle.std.specs.Map.{keys_of}
use Rattle.std.specs.String.{string_cmp}
use Rattle.std.proofs.lemmas.Result.{err_from_is_err_and}
use Rattle.serde_json.specs.View.{view}
use Rattle.serde_json.proofs.Views.{Entry}
use Rattle.value_json.specs.Errors.{ReadsBy}
use Rattle.value_json.proofs.EachLaws.{AllZip-push, fails_here}
use Rattle.catalog.proofs.PartLaws.{names_rise}
use Rattle.catalog.proofs.from_json.members_of.Goals as goal

pub returns-in_err-item : goal.returns-in_err-item
returns-in_err-item g c =
    let p = err_from_is_err_and c.from_residual.result c.from_residual.ensures.1 in
    let e : Entry = (c.in-Some.name.now, c.in-Some.member.now) in
    let far = c.loop-name.invariant.so_far in
    let all : c.args.members.now.entries ≡ far.0 ++ e ∷ c.next.new.self = far.1 ∙ ap (λ es. far.0 ++ es) c.in-Some.ensures.steps in
    let named = subst (λ n. ReadsBy {X = g.row.T.Denot} (g.T.FromMember.gives n (view e.1)) (Err c.in_err-item.field-0.0)) c.as_str.ensures.value c.in_err-item.ensures in
    rw (p.1, p.2) (fails_here (λ v. v) (λ e o. g.T.FromMember.gives (string_bytes e.0) (view e.1) o) c.args.members.now.entries far.0 e c.next.new.self c.in_err-item.field-0.0 all named)

pub loop-name-preserved : goal.loop-name-preserved
loop-name-preserved g c =
    let e : Entry = (c.in-Some.name.now, c.in-Some.member.now) in
    let far = c.loop-name.invariant.so_far in
    let all : c.args.members.now.entries ≡ far.0 ++ e ∷ c.next.new.self = far.1 ∙ ap (λ es. far.0 ++ es) c.in-Some.ensures.steps in
    let named = subst (λ n. g.T.FromMember.gives n (view e.1) (Some c.in_ok-item.item)) c.as_str.ensures.value c.in_ok-item.ensures in
    record {
      can_next = tt;
      is_finite = tt;
      so_far = (
        far.0 ++ e ∷ [],
        all ∙ sym (append_assoc far.0 (e ∷ []) c.next.new.self),
        rw c.in_ok-push.ensures.items (AllZip-push (λ e x. g.T.FromMember.gives (string_bytes e.0) (view e.1) (Some x)) far.0 c.loop-name.read.items e c.in_ok-item.item far.2 named),
      );
    }

pub from_sorted-requires : goal.from_sorted-requires
from_sorted-requires g c =
    let far = c.loop-name.invariant.so_far in
    let all : c.args.members.now.entries ≡ far.0 = far.1 ∙ ap (λ es. far.0 ++ es) c.in-None.ensures.steps.0 ∙ append-nil far.0 in
    names_rise g.T.Named.name g.T.FromMember.gives g.met.T.FromMember.keeps_name far.0 c.loop-name.read.items far.2
    (subst (λ es. IsStrictlySortedBy string_cmp (keys_of es)) all c.iter-name-items.ensures.ordered)

pub returns : goal.returns
returns g c =
    let far = c.loop-name.invariant.so_far in
    let all : c.args.members.now.entries ≡ far.0 = far.1 ∙ ap (λ es. far.0 ++ es) c.in-None.ensures.steps.0 ∙ append-nil far.0 in
    rw (all, c.from_sorted.ensures) far.2
