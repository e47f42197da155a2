use Rattle.std.proofs.Common.{◌≡◌, ℕ, List, map, drop, ap, sym, ◌∙◌, arith}
use Rattle.std.proofs.Math.Seq.{drop-length}
use Rattle.k_best.specs.Indexes.{mark_at, mix, mix_all}
use Rattle.k_best.proofs.IndexLaws.{mix_drop}
use Rattle.k_best.proofs.index.Index.inputs_mark.Goals as goal

pub loop-i-init : goal.loop-i-init
loop-i-init c = record {
  within = omega arith;
  mark = sym (ap (λ (ys : List ℕ). mix_all (map (mark_at c.args.self.now.marks) ys)) (drop-length c.args.inputs.now));
}

pub bounds-inputs-i : goal.bounds-inputs-i
bounds-inputs-i c = omega (arith, c.loop-i.invariant.within, c.loop-i-test.true)

pub loop-i-preserved : goal.loop-i-preserved
loop-i-preserved c =
    let f = mark_at c.args.self.now.marks in let xs = c.args.inputs.now in let i = c.loop-i.i in
    record {
      within = omega (arith, c.loop-i.invariant.within);
      mark = c.mix-mark.ensures ∙ ap (λ (n : ℕ). mix n c.mark.result) c.loop-i.invariant.mark ∙ ap (mix (mix_all (map f (drop i xs)))) c.mark.ensures
          ∙ sym (mix_drop f xs i c.loop-i-test.true c.loop-i.invariant.within);
    }

pub returns : goal.returns
returns c =
    let zero : c.loop-i.i ≡ 0 = omega (arith, c.loop-i-test.false) in
    c.loop-i.invariant.mark ∙ ap (λ (n : ℕ). mix_all (map (mark_at c.args.self.now.marks) (drop n c.args.inputs.now))) zero
