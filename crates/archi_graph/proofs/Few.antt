-- A valid architecture has few sequences.
use Rattle.std.proofs.Common.{ℕ, ◌+◌, ◌*◌, ◌≤◌, Bool, true, false, List, [], ◌∷◌, length, arith, suc-mul}
use Rattle.std.specs.Prelude.{IsTrue, if◌then◌else◌, nat_le}
use Rattle.std.specs.List.{list_all, sum_by, range_with_len}
use Rattle.std.proofs.lemmas.Bool.{and_parts, leb-true}
use Rattle.std.proofs.lemmas.List.Concat.{length-flat_map}
use Rattle.std.proofs.lemmas.List.FromFn.{length-range_with_len}
use Rattle.std.proofs.lemmas.List.Sums.{sum_by-cons}
use Rattle.archi_graph.specs.declared.medium.Medium.{Medium}
use Rattle.archi_graph.specs.Archi.{Architecture, is_archi, are_distinct, are_joined, is_medium, names_of, stands_at, connections_in}
use Rattle.archi_graph.specs.Sequences.{communicator, communicators, sequences, sequences_of}

-- at most one communicator for each medium
communicators_few : (o n : ℕ) (media : List Medium) → length (communicators o n media) ≤ length media
communicators_few o n [] = omega arith
communicators_few o n (m ∷ media) = by (stands_at m o) (communicators_few o (n + 1) media)
  where
    by : (b : Bool) → length (communicators o (n + 1) media) ≤ length media
        → length (if b then communicator o n ∷ communicators o (n + 1) media else communicators o (n + 1) media) ≤ length (m ∷ media)
    by true e = omega arith
    by false e = omega arith

sum_few : (f : ℕ → ℕ) (b : ℕ) → ((x : ℕ) → f x ≤ b) → (xs : List ℕ) → sum_by f xs ≤ length xs * b
sum_few f b h [] = omega arith
sum_few f b h (x ∷ xs) = let e = sum_few f b h xs in let d = h x in omega (arith, sum_by-cons f x xs, suc-mul (length xs) b)

pub few : (a : Architecture) → IsTrue (is_archi a.operators a.media) → length (sequences a) ≤ 272
few a valid =
    let joined = and_parts _ (are_joined (length a.operators) a.media) valid in
    let distinct = and_parts _ (are_distinct (names_of a.operators a.media)) joined.0 in
    let all = and_parts _ (list_all (is_medium (length a.operators)) a.media) distinct.0 in
    let stands = and_parts _ (nat_le (connections_in a.media) 64) all.0 in
    let media = and_parts _ (nat_le (length a.media) 16) stands.0 in
    let operators = and_parts _ (nat_le (length a.operators) 16) media.0 in
    let m = leb-true (length a.media) 16 media.1 in
    let o = leb-true (length a.operators) 16 operators.1 in
    let each : (x : ℕ) → length (sequences_of a.media x) ≤ 17 = λ x. (let e = communicators_few x 0 a.media in omega arith) in
    let sum = sum_few (λ x. length (sequences_of a.media x)) 17 each (range_with_len 0 (length a.operators)) in
    omega (arith, length-flat_map (sequences_of a.media) (range_with_len 0 (length a.operators)), length-range_with_len 0 (length a.operators))
