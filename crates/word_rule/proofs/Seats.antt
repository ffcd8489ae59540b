-- What a step asks and leaves, of a table and a seat and of their fields.
use Rattle.std.proofs.Common.{◌≡◌, ℕ, List, sym, ap, subst, ◌∙◌, ℤ}
use Rattle.atomic_table.specs.Seated.{TableId}
use Rattle.word_rule.specs.declared.next.Next.{Next}
use Rattle.word_rule.specs.declared.view.Knowledge.{Knowledge}
use Rattle.word_rule.specs.declared.view.View.{View}
use Rattle.word_rule.specs.Views.{after}
use Rattle.word_rule.specs.Table.{TableData, SeatData}
use Rattle.word_rule.specs.Given.{Stores}
use Rattle.word_rule.specs.Steps.{CanStep, HoldsCounts}

pub can_at : (t u : TableData) (s w : SeatData) (next : Next) → t ≡ u → s ≡ w → CanStep u w next → CanStep t s next
can_at t u s w next e f c = subst (λ (i : TableData). CanStep i s next) (sym e) (subst (λ (i : SeatData). CanStep u i next) (sym f) c)

-- a seat whose view was changed
pub seat_after : (old : SeatData) (id new_id : TableId) (v new : View) (change : Knowledge → Knowledge) → record { table = id; view = v } ≡ old → new_id ≡ id → new ≡ after change v
    → record { table = new_id; view = new } ≡ record old { view = after change old.view }
seat_after old id new_id v new change e f g = (λ i. record { table = f i; view = g i }) ∙ ap (λ (s : SeatData). record { table = s.table; view = after change s.view }) e

pub holds_at : (t u : TableData) (s w : SeatData) (counts : List ℕ) → t ≡ u → s ≡ w → HoldsCounts u.key w.view counts → HoldsCounts t.key s.view counts
holds_at t u s w counts e f c = subst (λ (i : TableData). HoldsCounts i.key s.view counts) (sym e) (subst (λ (i : SeatData). HoldsCounts u.key i.view counts) (sym f) c)

pub stores_at : (s w : SeatData) (next : Next) (value : ℤ) → s ≡ w → Stores w.view next.seq next.reaction next.step value → Stores s.view next.seq next.reaction next.step value
stores_at s w next value f c = subst (λ (i : SeatData). Stores i.view next.seq next.reaction next.step value) (sym f) c

-- a seat of the table
pub seated_at : (t u : TableData) (s w : SeatData) → t ≡ u → s ≡ w → w.table ≡ u.table → s.table ≡ t.table
seated_at t u s w e f q = (λ i. (f i).table) ∙ q ∙ sym (λ i. (e i).table)
