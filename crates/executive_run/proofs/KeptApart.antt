-- Sequences that are kept apart; and some that break symmetries.
use Rattle.std.proofs.Common.{◌≡◌, ℕ, ◌%◌, ◌==◌, Bool, true, false, ◌&&◌, not, List, [], ◌∷◌, None, refl}
use Rattle.std.specs.Prelude.{count_by}
use Rattle.executive_program.specs.declared.program.Instr.{Instr}
use Rattle.executive_program.specs.declared.program.Instr.TheVariants.{Suc0, Pre0}
use Rattle.executive_program.specs.declared.program.SeqCode.{SeqCode}
use Rattle.executive_run.specs.Sharing.{is_busy, is_busy_at, meet, KeepsApart}

never_both : (a b e : Bool) → a && (b && (e && not e)) ≡ false
never_both false b e = refl
never_both true false e = refl
never_both true true false = refl
never_both true true true = refl

-- as many groups keep apart what they keep apart
pub same_apart : (seqs : List SeqCode) (many : ℕ) → KeepsApart seqs many many
same_apart seqs many s t l m = never_both (is_busy_at seqs s) (is_busy_at seqs t) (s % many == t % many)

-- Five sequences, of which the second has a prologue alone and the fourth a loop alone.
abbrev sequence : ℕ → List Instr → List Instr → SeqCode
sequence o prologue turn = record { seq = record { operator = o; medium = None }; prologue = prologue; turn = turn }

abbrev five : List SeqCode
five = sequence 0 [] [] ∷ sequence 1 (Pre0 6 ∷ []) [] ∷ sequence 2 [] [] ∷ sequence 3 [] (Suc0 6 ∷ Suc0 7 ∷ []) ∷ sequence 4 [] [] ∷ []

two_busy : count_by is_busy five ≡ 2
two_busy = refl

-- eighty groups keep the two apart, and so do three; one and two do not
in_three : (meet five 3 80 1 3 ≡ false) × (meet five 3 80 3 1 ≡ false)
in_three = (refl, refl)

in_two : (meet five 2 80 1 3 ≡ true) × (meet five 1 80 3 1 ≡ true)
in_two = (refl, refl)

-- two groups do not keep them apart, so that one may do
in_one : (meet five 1 2 1 3 ≡ false) × (meet five 1 2 0 3 ≡ false)
in_one = (refl, refl)
