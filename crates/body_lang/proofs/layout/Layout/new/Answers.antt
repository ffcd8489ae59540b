use Rattle.std.proofs.Common.{◌≡◌, ◌≤◌, length, sym, ap, ◌∙◌, arith}
use Rattle.body_lang.specs.Layout.{bounds_of, lengths_between}
use Rattle.body_lang.proofs.Bounds.{lengths-bounds, all_bounds}
use Rattle.body_lang.proofs.layout.Layout.new.Goals as goal

pub invariant_of-result : goal.invariant_of-result
invariant_of-result c =
    let past : length c.args.lens.now ≤ c.loop-len.len-index = omega arith in
    let all : c.loop-len.bounds.items ≡ bounds_of c.args.lens.now = all_bounds c.args.lens.now c.loop-len.bounds.items c.loop-len.width c.loop-len.len-index past c.loop-len.invariant in
    all ∙ ap bounds_of (sym (ap lengths_between all ∙ lengths-bounds c.args.lens.now))

pub returns : goal.returns
returns c =
    let past : length c.args.lens.now ≤ c.loop-len.len-index = omega arith in
    let all : c.loop-len.bounds.items ≡ bounds_of c.args.lens.now = all_bounds c.args.lens.now c.loop-len.bounds.items c.loop-len.width c.loop-len.len-index past c.loop-len.invariant in
    ap lengths_between all ∙ lengths-bounds c.args.lens.now
