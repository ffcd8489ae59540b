-- The tests of a pair, as tests of the places at which its semaphores are waited for and signalled.
use Rattle.std.proofs.Common.{◌≡◌, ℕ, Bool, true, false, ◌&&◌, nat_eq, refl, ◌∙◌}
use Rattle.std.specs.Prelude.{nat_lt}
use Rattle.std.specs.List.{list_all}
use Rattle.program_tables.specs.declared.mark_table.Mark.{Mark}
use Rattle.executive_program.specs.declared.program.Program.{Program}
use Rattle.executive_program.specs.Places.{signals_empty, signals_full, takes_empty, takes_full}
use Rattle.program_walks.specs.Pairs.{first_place, is_read_between, is_written_between}
use Rattle.program_walks.specs.Walks.{implies}
use Rattle.program_tables.specs.declared.roles.Role.TheVariants.{EmptyTaken, FullSignalled, FullTaken, EmptySignalled, Read}
use Rattle.program_tables.specs.Marks.{first_at, lone, marks_of}
use Rattle.program_tables.proofs.Lone.{lone_is, lone_at}
use Rattle.program_tables.proofs.Buffered.{reads_in_is}

chain : (l m : Bool) (f g : ℕ → Bool) (a b c d : ℕ) → (l ≡ true → a ≡ b) → (m ≡ true → c ≡ d) → (l && m && f a && g c) ≡ (l && m && f b && g d)
chain true true f g a b c d h k = let e = h refl in let q = k refl in λ i. f (e i) && g (q i)
chain true false f g a b c d h k = refl
chain false m f g a b c d h k = refl

both : (l m : Bool) (f : ℕ → ℕ → Bool) (a b c d : ℕ) → (l ≡ true → a ≡ b) → (m ≡ true → c ≡ d) → (l && m && f a c) ≡ (l && m && f b d)
both true true f a b c d h k = let e = h refl in let q = k refl in λ i. f (e i) (q i)
both true false f a b c d h k = refl
both false m f a b c d h k = refl

pub written_is : (p : Program) (q w at : ℕ)
    → (lone w (marks_of p EmptyTaken q) && lone w (marks_of p FullSignalled q) && nat_lt (first_at (marks_of p EmptyTaken q)) at
    && nat_lt at (first_at (marks_of p FullSignalled q))) ≡ is_written_between p q w at
written_is p q w at =
    chain (lone w (marks_of p EmptyTaken q)) (lone w (marks_of p FullSignalled q)) (λ n. nat_lt n at) (λ n. nat_lt at n)
    (first_at (marks_of p EmptyTaken q)) (first_place p (takes_empty q) w) (first_at (marks_of p FullSignalled q)) (first_place p (signals_full q) w)
    (lone_at p EmptyTaken q w) (lone_at p FullSignalled q w)
    ∙ (λ i. lone_is p EmptyTaken q w i && lone_is p FullSignalled q w i && nat_lt (first_place p (takes_empty q) w) at && nat_lt at (first_place p (signals_full q) w))

pub read_is : (p : Program) (q b s : ℕ)
    → (lone s (marks_of p FullTaken q) && lone s (marks_of p EmptySignalled q)
    && list_all (λ (m : Mark). implies (nat_eq m.sequence s)
    (nat_lt (first_at (marks_of p FullTaken q)) m.at && nat_lt m.at (first_at (marks_of p EmptySignalled q)))) (marks_of p Read b))
    ≡ is_read_between p q b s
read_is p q b s =
    both (lone s (marks_of p FullTaken q)) (lone s (marks_of p EmptySignalled q)) (λ x y. list_all (λ (m : Mark). implies (nat_eq m.sequence s) (nat_lt x m.at && nat_lt m.at y)) (marks_of p Read b))
    (first_at (marks_of p FullTaken q)) (first_place p (takes_full q) s) (first_at (marks_of p EmptySignalled q)) (first_place p (signals_empty q) s)
    (lone_at p FullTaken q s) (lone_at p EmptySignalled q s)
    ∙ (λ i. lone_is p FullTaken q s i && lone_is p EmptySignalled q s i && reads_in_is p b (λ a. nat_lt (first_place p (takes_full q) s) a && nat_lt a (first_place p (signals_empty q) s)) s i)
