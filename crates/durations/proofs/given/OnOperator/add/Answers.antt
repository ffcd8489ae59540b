use Rattle.std.proofs.Common.{◌≡◌, ℕ, Bool, true, List, Option, Some, None, Bor, refl, sym, ap, ◌∙◌}
use Rattle.std.specs.Prelude.{is_some, not, option_copied, if◌then◌else◌}
use Rattle.std.specs.Str.{bytes_eq}
use Rattle.syn_base.specs.Bytes.{Bytes}
use Rattle.durations.specs.Given.{first_of, ticks_at}
use Rattle.durations.proofs.Found.{view, lookup_view, added, kept}
use Rattle.durations.proofs.given.OnOperator.add.Goals as goal

copied : (o : Option (Bor ℕ)) → is_some (option_copied o) ≡ is_some o
copied None = refl
copied (Some x) = refl

is_none : (o : Option ℕ) (b : Bool) → is_some o ≡ not b → b ≡ true → o ≡ None
is_none None b h k = refl
is_none (Some x) b h k = absurd (cc)

pub returns-in_ok-insert : goal.returns-in_ok-insert
returns-in_ok-insert c = λ other.
    let now = λ (k : Bor (List ℕ)). k.now in
    let es = c.self.inside.ticks.entries in
    let def = c.args.def.now in
    let none : ticks_at (view now es) def ≡ None =
    sym (lookup_view now es def) ∙ sym c.get.ensures.value ∙ is_none (option_copied c.get.result) c.is_none.result (copied c.get.result ∙ c.is_none.ensures) c.if-is_none.true in
    ap (λ (fs : List (Bor (List ℕ) × ℕ)). ticks_at (view now fs) other) c.in_ok-insert.ensures.entries
    ∙ added now es c.args.def c.args.ticks none other
    ∙ ap (λ (v : List (Bytes × ℕ)). first_of (ticks_at v other) (if bytes_eq def other then Some c.args.ticks else None)) c.self.view_is

pub returns-else-is_none : goal.returns-else-is_none
returns-else-is_none c = λ other.
    let now = λ (k : Bor (List ℕ)). k.now in
    let def = c.args.def.now in
    let some : is_some (ticks_at c.args.self.now def) ≡ true =
    ap (λ (v : List (Bytes × ℕ)). is_some (ticks_at v def)) (sym c.self.view_is)
    ∙ ap is_some (sym (lookup_view now c.self.inside.ticks.entries def) ∙ sym c.get.ensures.value)
    ∙ copied c.get.result ∙ c.is_none.ensures ∙ ap not c.if-is_none.false in
    kept c.args.self.now def c.args.ticks some other
