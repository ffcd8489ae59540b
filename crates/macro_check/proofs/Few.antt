-- A program has few sequences where they are those of a valid architecture.
use Rattle.std.proofs.Common.{◌≡◌, ◌≤◌, List, length, ap, arith}
use Rattle.std.specs.Prelude.{IsTrue, map}
use Rattle.std.proofs.lemmas.List.{length-map}
use Rattle.sequence_build_laws.specs.declared.Seq.{Seq}
use Rattle.sequence_build_laws.specs.Archi.{Architecture, is_archi}
use Rattle.sequence_build_laws.specs.Sequences.{sequences}
use Rattle.sequence_build_laws.proofs.Few.{few}
use Rattle.sequence_build_laws.specs.declared.SeqCode.{SeqCode}
use Rattle.sequence_build_laws.specs.declared.Program.{Program}

pub few_codes : (a : Architecture) (p : Program) → IsTrue (is_archi a.operators a.media) → map (λ (q : SeqCode). q.seq) p.seqs ≡ sequences a → length p.seqs ≤ 272
few_codes a p valid e = let f = few a valid in let l = ap (λ (xs : List Seq). length xs) e in let n = length-map p.seqs (λ (q : SeqCode). q.seq) in omega arith
