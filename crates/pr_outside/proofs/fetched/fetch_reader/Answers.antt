use Rattle.std.proofs.Common.{◌≡◌, ℕ, ◌≤◌, List, length, Result, Ok, Err, sym, subst, arith}
use Rattle.pr_outside.specs.Fetched.{IsFetched}
use Rattle.pr_outside.specs.declared.shelf.FetchError.{FetchError}
use Rattle.pr_outside.proofs.FetchLaws.{unfetched}
use Rattle.pr_outside.proofs.StreamLaws.{read_left}
use Rattle.pr_outside.proofs.fetched.fetch_reader.Goals.{in-Ok, in-Ok-2, in-Err}
use Rattle.pr_outside.proofs.fetched.fetch_reader.Goals as goal

pub returns : goal.returns
returns g c =
    let old = g.R.Read.remaining c.args.reader.now in
    let new = g.R.Read.remaining c.read_up_to-read.new.reader in
    let items = c.read_up_to-read.new.bytes.items in
    let taken = c.len-taken.result in
    let len = c.len-taken.ensures in
    let Is : Result (List ℕ) FetchError → Type 0 = λ answer. IsFetched old new c.args.most taken answer in
    elim c.match-read.branch [
      | in-Ok w ↦ let test = w.if-taken-most.true in let took = w.in-Ok.ensures.taken in let few = took.1 in subst Is (sym w.answer-is) (items, took.0, omega (arith, len), omega (arith, test, len, few))
      | in-Ok-2 w ↦
          let test = w.if-taken-most.false in
          let took = w.in-Ok.ensures.taken in
          let few : length items ≤ c.args.most = omega (arith, test, len) in
          let given = read_left old c.args.most items few w.in-Ok.ensures.all in
          subst Is (sym w.answer-is) (subst (λ (bytes : List ℕ). Is (Ok bytes)) (sym w.from_vec.ensures) (given, took.0, omega (arith, len), omega (arith, few, len)))
      | in-Err w ↦ subst Is (sym w.answer-is) (subst (λ (e : FetchError). Is (Err e)) (sym w.fetch_error.ensures) (unfetched old new c.args.most taken w.in-Err.error))
    ]
