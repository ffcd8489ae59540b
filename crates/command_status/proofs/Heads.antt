-- Lines that are written in parts.
use Rattle.std.proofs.Common.{◌≡◌, ◌∙◌, ◌<◌, ◌+◌, ℕ, zero, suc, List, [], ◌∷◌, ◌++◌, Bool, length, drop, get_or, codes, refl, subst, suc-add, arith}
use Rattle.syn_base.specs.Bytes.{Bytes}
use Rattle.command_plan.specs.Bytes.{joined}
use Rattle.command_plan.specs.Sink.{Sunk, Wrote}
use Rattle.command_status.specs.Lines.{head, names_line, stop_text, stops_line}
use Rattle.check_cause.specs.declared.cause.Stop.{Stop}

-- the same number and the same word
pub head_wrote : (a b : Sunk) (text : Bytes) (n m : ℕ) (w v : Bytes) (ok : Bool) → n ≡ m → w ≡ v → Wrote a b (head text n w) ok → Wrote a b (head text m v) ok
head_wrote a b text n m w v ok e f h = subst (λ (x : ℕ). Wrote a b (head text x v) ok) e (subst (λ (x : Bytes). Wrote a b (head text n x) ok) f h)

-- one name, and those after it
pub names_at : (ns : List Bytes) (i : ℕ) (d w : Bytes) → i < length ns → w ≡ get_or ns i d → names_line (drop i ns) ≡ joined (codes " " ∷ w ∷ []) ++ names_line (drop (i + 1) ns)
names_at [] i d w h e = absurd (omega arith)
names_at (n ∷ ns) zero d w h e = rw e refl
names_at (n ∷ ns) (suc i) d w h e = let k : i < length ns = omega arith in names_at ns i d w k e ∙ rw suc-add refl

-- one place at which a run stops, and those after it
pub stops_at : (ys : List Stop) (i : ℕ) (d y : Stop) → i < length ys → y ≡ get_or ys i d → stops_line (drop i ys) ≡ stop_text y ++ stops_line (drop (i + 1) ys)
stops_at [] i d y h e = absurd (omega arith)
stops_at (x ∷ ys) zero d y h e = rw e refl
stops_at (x ∷ ys) (suc i) d y h e = let k : i < length ys = omega arith in stops_at ys i d y k e ∙ rw suc-add refl
