-- Buffer by buffer.
use Rattle.std.proofs.Common.{◌≡◌, ℕ, ◌*◌, List, Option, refl, ap, arith}
use Rattle.std.specs.Prelude.{length}
use Rattle.std.specs.List.{sum_by}
use Rattle.interleavings.specs.Owners.{sum_below}
use Rattle.executive_program.specs.declared.program.Buffer.{Buffer}
use Rattle.executive_program.specs.Instructions.{depth_in, len_in, depth_of, len_of}
use Rattle.executive_program.proofs.MicroCounts.{by_place}
use Rattle.executive_program.proofs.sizes.words.Goals as goal

pub returns : goal.returns
returns c =
    let p = c.args.program.now in
    let e : sum_below (λ b. depth_of p b * len_of p b) (length p.buffers)
    ≡ sum_by (λ (x : Buffer). x.depth * x.len) p.buffers =
    by_place (λ (o : Option Buffer). depth_in o * len_in o) (λ (x : Buffer). x.depth * x.len) (λ x. refl) p.buffers in
    let l = ap (λ (xs : List ℕ). length xs) c.as_slice.ensures in let b = c.buffer_words.ensures.value in let w = c.wire_words.ensures.value in omega arith
