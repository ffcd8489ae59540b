use Rattle.std.proofs.Common.{◌≡◌, ℕ, List, length, map, ap, arith, Bor}
use Rattle.std.proofs.lemmas.List.{length-map}
use Rattle.algo_tree.specs.Ends.{actuator_lengths}
use Rattle.act_text.specs.Names.{actuator_names}
use Rattle.act_text.proofs.EndCounts.{as_many}
use Rattle.act_text.proofs.text.acts_text_from.Goals as goal

pub output-requires-clause-names : goal.output-requires-clause-names
output-requires-clause-names c =
    let names : length (map (λ (s : Bor (List ℕ)). s.now) c.in_ok-names.names.items) ≡ length (actuator_names c.args.tree.now) = ap length c.in_ok-names.ensures in
    let same : length (map (λ (s : Bor (List ℕ)). s.now) c.in_ok-names.names.items) ≡ length c.in_ok-names.names.items = simp length-map in
    let lens : length c.args.acts.now.lens ≡ length (actuator_lengths c.args.tree.now) = ap length c.requires.lens in
    let many = as_many c.args.tree.now in
    let slice : length c.deref.result.now ≡ length c.in_ok-names.names.items = ap length c.deref.ensures.value in
    omega (arith, names, same, lens, many, slice)
