-- A prologue that has no place is the one that its sequence has.
use Rattle.std.proofs.Common.{◌≡◌, ℕ, zero, suc, ◌+◌, Bool, true, false, cond, List, [], ◌∷◌, ◌++◌, map, length, refl, ap, ◌∙◌}
use Rattle.std.specs.Prelude.{None}
use Rattle.std.proofs.lemmas.Bool.{false≢true, eqb-true}
use Rattle.std.proofs.lemmas.List.{map-append}
use Rattle.sequence_build_laws.specs.declared.Instr.{Instr}
use Rattle.sequence_build_laws.specs.declared.Instr.TheVariants.{Suc0, Suc1, Pre0, Pre1, Call, Send, Recv, Sync}
use Rattle.sequence_build_laws.specs.declared.Program.{Program}
use Rattle.sequence_build_laws.specs.Blocks.{blocks, repeated}
use Rattle.sequence_build_laws.specs.Instructions.{readers}
use Rattle.sequence_build_laws.specs.Places.{opening_of, opening_signals, signals_empty, signals_of}
use Rattle.check_places.specs.declared.place.Part.TheVariants.{Prologue}
use Rattle.check_places.specs.declared.place.Rule.TheVariants.{MissingSignal}
use Rattle.check_places.specs.declared.place.Subject.TheVariants.{Pair}
use Rattle.check_places.specs.First.{broken, spot_at}
use Rattle.check_places.specs.Pairs.{pairs_signalled, signal_place}

abbrev pub signal : ℕ → Instr
signal q = Pre0 q

-- an instruction that signals the empty semaphore of pair q
pub is_signal : (q : ℕ) (x : Instr) → signals_empty q x ≡ true → x ≡ Pre0 q
is_signal q (Pre0 r) e = ap (λ n. Pre0 n) (eqb-true r q e)
is_signal q (Suc0 r) e = absurd (false≢true e)
is_signal q (Suc1 r) e = absurd (false≢true e)
is_signal q (Pre1 r) e = absurd (false≢true e)
is_signal q (Call v ins outs) e = absurd (false≢true e)
is_signal q (Send b o) e = absurd (false≢true e)
is_signal q (Recv b o) e = absurd (false≢true e)
is_signal q (Sync o r) e = absurd (false≢true e)

pub signals_are : (s a : ℕ) (xs : List Instr) (qs : List ℕ) → signal_place s a xs qs ≡ None → xs ≡ map signal qs
signals_are s a [] [] e = refl
signals_are s a (x ∷ xs) [] e = absurd cc
signals_are s a [] (q ∷ qs) e = absurd cc
signals_are s a (x ∷ xs) (q ∷ qs) e = by (signals_empty q x) refl e (λ f. signals_are s (a + 1) xs qs f)
  where
    by : (b : Bool) → signals_empty q x ≡ b → cond b (signal_place s (a + 1) xs qs) (broken MissingSignal (Pair q) (spot_at Prologue s a)) ≡ None
        → (signal_place s (a + 1) xs qs ≡ None → xs ≡ map signal qs) → x ∷ xs ≡ map signal (q ∷ qs)
    by true h e more = let rest = more e in λ i. is_signal q x h i ∷ rest i
    by false h e more = absurd cc

repeated_signals : (q n : ℕ) → map signal (repeated q n) ≡ repeated (Pre0 q) n
repeated_signals q zero = refl
repeated_signals q (suc n) = ap (λ xs. Pre0 q ∷ xs) (repeated_signals q n)

module _ (p : Program) (s : ℕ) where
  blocks_of : (n : ℕ) → map signal (blocks (λ q. repeated q (opening_signals p s q)) n) ≡ blocks (signals_of p s) n
  blocks_of zero = refl
  blocks_of (suc n) =
      map-append signal (blocks (λ q. repeated q (opening_signals p s q)) n) (repeated n (opening_signals p s n))
      ∙ (λ i. blocks_of n i ++ repeated_signals n (opening_signals p s n) i)

  pub opening_is : map signal (pairs_signalled p s) ≡ opening_of p s
  opening_is = blocks_of (length (readers p))

  pub opened : (xs : List Instr) → signal_place s 0 xs (pairs_signalled p s) ≡ None → xs ≡ opening_of p s
  opened xs e = signals_are s 0 xs (pairs_signalled p s) e ∙ opening_is
