-- How many streams a left side has.
use Rattle.std.proofs.Common.{◌≡◌, length, refl, arith, length-append}
use Rattle.pr_value.specs.Trees.{Tree, Trees, node, nil, cons}
use Rattle.rule_ast.specs.Descs.{stream_descs, streams_descs, stream_numbers, streams_numbers}
use Rattle.rule_ast.specs.Syntax.{LeftLabel}

-- a left side has as many numbers as streams
mutual
  pub numbers-long : (l : Tree LeftLabel) → length (stream_numbers l) ≡ length (stream_descs l)
  numbers-long (node (LeftLabel.operator o d) ls) = all_numbers-long ls
  numbers-long (node (LeftLabel.stream n d) ls) = refl

  all_numbers-long : (ls : Trees LeftLabel) → length (streams_numbers ls) ≡ length (streams_descs ls)
  all_numbers-long nil = refl
  all_numbers-long (cons l ls) =
      let a = numbers-long l in
      let b = all_numbers-long ls in
      let d = length-append (stream_numbers l) (streams_numbers ls) in
      let e = length-append (stream_descs l) (streams_descs ls) in
      omega (arith, a, b, d, e)
