-- The test of transfers is true exactly where each transfer has its parts.
use Rattle.std.proofs.Common.{◌≡◌, ℕ, ◌<◌, true, refl}
use Rattle.std.specs.Cmp.Derive.{both_true}
use Rattle.std.proofs.lemmas.Bool.{and_parts}
use Rattle.sequence_build_laws.specs.declared.Program.{Program}
use Rattle.sequence_build_laws.specs.MicroSteps.{transfers}
use Rattle.program_walks.specs.Walks.{all_at, all_below}
use Rattle.order_check.specs.Transfers.{is_received, is_sent, receiver_of, sender_of}
use Rattle.program_walks.proofs.ListTests.{below_of, of_below}
use Rattle.order_check.proofs.Transferred.{sends_of, of_sends, receives_of, of_receives, others_of, of_others}
use Rattle.check_laws.specs.Items.{IsTransferred}
use Rattle.check_laws.specs.Tests.{waits_between, is_moved, are_moved}

module _ (p : Program) where
  pub moved_of : (m t : ℕ) → is_moved p m t ≡ true → IsTransferred p m t
  moved_of m t h =
      let s = sender_of p m t in
      let r = receiver_of p m t in
      let others = and_parts _ (all_at (waits_between p m t s r) 0 p.seqs) h in
      let ends = and_parts (is_sent p m t s r) (is_received p m t s r) others.0 in
      record {
        sends = sends_of p m t s r ends.0;
        receives = receives_of p m t s r ends.1;
        others = λ u a x c d e. (others_of p (λ v b. true) m t s r others.1 u a x c d e).0;
      }

  pub of_moved : (m t : ℕ) → IsTransferred p m t → is_moved p m t ≡ true
  of_moved m t i =
      let s = sender_of p m t in
      let r = receiver_of p m t in
      both_true
      (both_true (of_sends p m t s r i.sends) (of_receives p m t s r i.receives))
      (of_others p (λ v b. true) m t s r (λ u a x c d e. (i.others u a x c d e, refl)))

  pub all_moved : (media : ℕ) → are_moved p media ≡ true → (m t : ℕ) → m < media → t < transfers p m → IsTransferred p m t
  all_moved media h m t l k = moved_of m t (below_of (λ t. is_moved p m t) (transfers p m) (below_of (λ m. all_below (λ t. is_moved p m t) (transfers p m)) media h m l) t k)

  pub of_all_moved : (media : ℕ) → ((m t : ℕ) → m < media → t < transfers p m → IsTransferred p m t) → are_moved p media ≡ true
  of_all_moved media h = of_below (λ m. all_below (λ t. is_moved p m t) (transfers p m)) media (λ m l. of_below (λ t. is_moved p m t) (transfers p m) (λ t k. of_moved m t (h m t l k)))
