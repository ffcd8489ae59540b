use Rattle.std.proofs.Common.{rules, ◌≡◌, ◌≤◌, ◌+◌, ◌++◌, ◌∙◌, length, take, drop, arith, vec_len, is_ok, true, refl, ap}
use Rattle.syn_base.specs.Bytes.{Bytes}
use Rattle.outside.proofs.Append.{stays_on, others_on, front_if, taken_front, grown, grown_by}
use Rattle.std.proofs.lemmas.Grind.{common_steps}
use Rattle.outside.proofs.read_whole.Goals as goal

pub loop-file-preserved : goal.loop-file-preserved
loop-file-preserved g c =
    let H = g.S.Shelf.held in
    let ok : is_ok c.extend_from_slice.result ≡ true = c.is_err.ensures.negation ∙ rw c.if-is_err.false refl in
    let long : length c.piece.new.into ≡ length (take c.min-room.result c.loop-file.buffer) = search rules in
    let fits : c.in-Ok.n ≤ length (take c.min-room.result c.loop-file.buffer) = c.in-Ok.ensures.fits in
    let fits' : c.in-Ok.n ≤ length c.piece.new.into = omega arith in
    let e : c.extend_from_slice.new.self.items ≡ c.loop-file.bytes.items ++ take c.in-Ok.n c.piece.new.into =
    grown _ ok c.extend_from_slice.ensures.items ∙ ap (λ (x : Bytes). c.loop-file.bytes.items ++ x) (taken_front c.in-Ok.n c.piece.new.into _ fits') in
    let size : vec_len c.loop-file.bytes ≡ length c.loop-file.bytes.items = search rules in
    let size' : vec_len c.extend_from_slice.new.self
    ≡ vec_len c.loop-file.bytes + length (take c.in-Ok.n (c.piece.new.into ++ drop c.min-room.result c.loop-file.buffer)) =
    grown_by _ ok c.extend_from_slice.ensures.len in
    let l : length (take c.in-Ok.n (c.piece.new.into ++ drop c.min-room.result c.loop-file.buffer)) ≤ c.in-Ok.n = grind (arith, common_steps) in
    let l2 : length (take c.min-room.result c.loop-file.buffer) ≤ c.min-room.result = grind (arith, common_steps) in
    let cap = c.min-room.ensures in (
      stays_on (H c.args.shelf.now) (H c.loop-file.shelf) (H c.piece.new.self) c.loop-file.invariant.0 c.piece.ensures.stays,
      others_on (H c.args.shelf.now) (H c.loop-file.shelf) (H c.piece.new.self) c.args.file c.loop-file.invariant.1 c.piece.ensures.others,
      omega (arith, size', l, l2, cap, c.loop-file-test.true, c.len-in-loop-file.ensures),
      rw e (front_if ((H c.args.shelf.now).told c.args.name.now)
          ((H c.loop-file.shelf).told c.args.name.now) c.loop-file.bytes.items _ c.in-Ok.n c.piece.new.into
          (c.len-in-loop-file-2.ensures ∙ size) (c.loop-file.invariant.0.told c.args.name.now) c.loop-file.invariant.3 c.in-Ok.ensures.took fits'),
    )
