use Rattle.std.proofs.Common.{inl, inr, refl, sym, ◌∙◌, rules, arith}
use Rattle.std.proofs.lemmas.Bool.Decides.{nat_tests}
use Rattle.std.proofs.lemmas.List.{length-map}
use Rattle.std.proofs.lemmas.Result.{IfOk-weaker}
use Rattle.rule_ast.specs.declared.expr.Expr.{the_lemmas}
use Rattle.action_eval.proofs.FormCases.{no_other_arguments, read_seen, binary_seen, two_seen, three_seen, sum_asked, multiple_asked, two_asked, three_asked, number_made, input_made, sum_made, multiple_made, greater_made, lesser_made, first_made, second_made}
use Rattle.action_eval.proofs.cost_forms.making.+form_of.Goals as goal
use Rattle.action_eval.proofs.cost_forms.making.+form_of.Goals.{in_default-as_slice-via-then-as_slice-lt2, in_default-as_slice-via-else-as_slice-lt2+else-this-lt3+else-this-lt4}

pub returns-then-not-reads : goal.returns-then-not-reads
returns-then-not-reads t c =
    let plain = sym c.reads.ensures ∙ c.if-not-reads.true in
    number_made plain c.in_ok-number_at.ensures.value c.in_ok-number_at.ensures.within

pub form_of-requires : goal.form_of-requires
form_of-requires t c =
    let is = binary_seen c.in-Binary.is c.in-Add.is c.get.ensures refl in
    let parts = sum_asked c.requires (sym c.reads.ensures ∙ c.if-not-reads.false) is in
    (search (rules, the_lemmas), parts.0)

pub form_of-requires-in-Add : goal.form_of-requires-in-Add
form_of-requires-in-Add t c =
    let is = binary_seen c.in-Binary.is c.in-Add.is c.get.ensures c.get-in-Add.ensures in
    let parts = sum_asked c.requires (sym c.reads.ensures ∙ c.if-not-reads.false) is in
    (search (rules, the_lemmas), parts.1)

pub returns-in_ok-boxed-in-Add-2 : goal.returns-in_ok-boxed-in-Add-2
returns-in_ok-boxed-in-Add-2 t c =
    let is = binary_seen c.in-Binary.is c.in-Add.is c.get.ensures c.get-in-Add.ensures in
    sum_made (sym c.reads.ensures ∙ c.if-not-reads.false) is c.in_ok-boxed-in-Add.ensures
    c.in_ok-boxed-in-Add-2.ensures c.in_ok-left-in-Add.ensures c.in_ok-right-in-Add.ensures

pub number_at-requires-in-Mul-clause-typed : goal.number_at-requires-in-Mul-clause-typed
number_at-requires-in-Mul-clause-typed t c =
    let is = binary_seen c.in-Binary.is c.in-Mul.is c.get-in-Mul.ensures refl in
    (multiple_asked c.requires (sym c.reads.ensures ∙ c.if-not-reads.false) is).0

pub form_of-requires-in-Mul : goal.form_of-requires-in-Mul
form_of-requires-in-Mul t c =
    let is = binary_seen c.in-Binary.is c.in-Mul.is c.get-in-Mul.ensures c.get-in-Mul-2.ensures in
    let parts = multiple_asked c.requires (sym c.reads.ensures ∙ c.if-not-reads.false) is in
    (search (rules, the_lemmas), parts.2)

pub returns-in_ok-boxed-in-Mul : goal.returns-in_ok-boxed-in-Mul
returns-in_ok-boxed-in-Mul t c =
    let is = binary_seen c.in-Binary.is c.in-Mul.is c.get-in-Mul.ensures c.get-in-Mul-2.ensures in
    let reads = sym c.reads.ensures ∙ c.if-not-reads.false in
    let parts = multiple_asked c.requires reads is in
    multiple_made reads is c.in_ok-boxed-in-Mul.ensures parts.1 c.in_ok-number-in-Mul.ensures.value
    c.in_ok-part-in-Mul.ensures

pub returns-in-Read : goal.returns-in-Read
returns-in-Read t c =
    let is = read_seen c.in-Read.is in
    input_made (sym c.reads.ensures ∙ c.if-not-reads.false) is
    (sym (length-map c.args.inputs.now (λ i. i.desc))) c.requires c.place_of.ensures

pub form_of-requires-in-len2 : goal.form_of-requires-in-len2
form_of-requires-in-len2 t c =
    let is = two_seen c.in-Call.is c.as_slice.ensures c.in-len2.len_at_least c.in-len2.len_below c.a-item.is c.b-item.is in
    let parts = two_asked c.requires (sym c.reads.ensures ∙ c.if-not-reads.false) is in
    (search (rules, the_lemmas), parts.1)

pub form_of-requires-in-len2-2 : goal.form_of-requires-in-len2-2
form_of-requires-in-len2-2 t c =
    let is = two_seen c.in-Call.is c.as_slice.ensures c.in-len2.len_at_least c.in-len2.len_below c.a-item.is c.b-item.is in
    let parts = two_asked c.requires (sym c.reads.ensures ∙ c.if-not-reads.false) is in
    (search (rules, the_lemmas), parts.2)

pub returns-then-is_max : goal.returns-then-is_max
returns-then-is_max t c =
    let is = two_seen c.in-Call.is c.as_slice.ensures c.in-len2.len_at_least c.in-len2.len_below c.a-item.is c.b-item.is in
    greater_made (sym c.reads.ensures ∙ c.if-not-reads.false) is
    (sym c.is_max.ensures ∙ c.if-is_max.true) c.in_ok-a-in-len2.ensures c.in_ok-b-in-len2.ensures c.in_ok-form_of-in-len2.ensures c.in_ok-form_of-in-len2-2.ensures

pub returns-else-is_max : goal.returns-else-is_max
returns-else-is_max t c =
    let is = two_seen c.in-Call.is c.as_slice.ensures c.in-len2.len_at_least c.in-len2.len_below c.a-item.is c.b-item.is in
    lesser_made (sym c.reads.ensures ∙ c.if-not-reads.false) is
    (sym c.is_max.ensures ∙ c.if-is_max.false) c.requires c.in_ok-a-in-len2.ensures c.in_ok-b-in-len2.ensures c.in_ok-form_of-in-len2.ensures c.in_ok-form_of-in-len2-2.ensures

pub form_of-requires-then-branch : goal.form_of-requires-then-branch
form_of-requires-then-branch t c =
    let is = three_seen c.in-Call.is c.as_slice.ensures c.in-len3.len_at_least c.in-len3.len_below
    c.test-item.is c.a-item-then-this-lt4.is c.b-item-then-this-lt4.is in
    let parts = three_asked c.requires (sym c.reads.ensures ∙ c.if-not-reads.false) is in
    (search (rules, the_lemmas), parts.3)

pub returns-then-branch : goal.returns-then-branch
returns-then-branch t c =
    let is = three_seen c.in-Call.is c.as_slice.ensures c.in-len3.len_at_least c.in-len3.len_below
    c.test-item.is c.a-item-then-this-lt4.is c.b-item-then-this-lt4.is in
    let holds = sym c.if-branch.true ∙ c.in_ok-truth_at-in-len3.ensures in
    IfOk-weaker _ _ _ (λ f. first_made (sym c.reads.ensures ∙ c.if-not-reads.false) is c.requires holds) c.form_of-then-branch.ensures

pub form_of-requires-in-len3 : goal.form_of-requires-in-len3
form_of-requires-in-len3 t c =
    let is = three_seen c.in-Call.is c.as_slice.ensures c.in-len3.len_at_least c.in-len3.len_below
    c.test-item.is c.a-item-then-this-lt4.is c.b-item-then-this-lt4.is in
    let parts = three_asked c.requires (sym c.reads.ensures ∙ c.if-not-reads.false) is in
    (search (rules, the_lemmas), parts.4)

pub returns-else-branch : goal.returns-else-branch
returns-else-branch t c =
    let is = three_seen c.in-Call.is c.as_slice.ensures c.in-len3.len_at_least c.in-len3.len_below
    c.test-item.is c.a-item-then-this-lt4.is c.b-item-then-this-lt4.is in
    let fails = sym c.if-branch.false ∙ c.in_ok-truth_at-in-len3.ensures in
    IfOk-weaker _ _ _ (λ f. second_made (sym c.reads.ensures ∙ c.if-not-reads.false) is c.requires fails) c.form_of-in-len3.ensures

pub unreachable-requires-in_default-as_slice : goal.unreachable-requires-in_default-as_slice
unreachable-requires-in_default-as_slice t c =
    let other = no_other_arguments c.requires (sym c.reads.ensures ∙ c.if-not-reads.false) c.in-Call.is c.as_slice.ensures in
    elim c.in_default-as_slice.branch [
      | in_default-as_slice-via-then-as_slice-lt2 w ↦ other (inl (grind (arith, nat_tests)))
      | in_default-as_slice-via-else-as_slice-lt2+else-this-lt3+else-this-lt4 w ↦ other (inr (grind (arith, nat_tests)))
    ]
