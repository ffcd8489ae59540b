-- Texts that are appended one after another: each text is the one before with one more at its end.
use Rattle.std.proofs.Common.{◌≡◌, ℕ, suc, ◌+◌, ◌-◌, ◌<◌, ◌++◌, sym, ap, arith, ◌∙◌, append_assoc}
use Rattle.std.specs.List.{flat_map, range_with_len}
use Rattle.syn_base.specs.Bytes.{Bytes}

pub two : (o m a b : Bytes) → m ≡ o ++ a → m ++ b ≡ o ++ (a ++ b)
two o m a b h = ap (λ (l : Bytes). l ++ b) h ∙ append_assoc o a b

pub three : (o m n a b c : Bytes) → m ≡ o ++ a → n ≡ m ++ b → n ++ c ≡ o ++ (a ++ (b ++ c))
three o m n a b c h k = two m n b c k ∙ two o m a (b ++ c) h

pub four : (o m n p a b c d : Bytes) → m ≡ o ++ a → n ≡ m ++ b → p ≡ n ++ c → p ++ d ≡ o ++ (a ++ (b ++ (c ++ d)))
four o m n p a b c d h k l = two n p c d l ∙ three o m n a b (c ++ d) h k

pub five : (o m n p q a b c d e : Bytes) → m ≡ o ++ a → n ≡ m ++ b → p ≡ n ++ c → q ≡ p ++ d → q ++ e ≡ o ++ (a ++ (b ++ (c ++ (d ++ e))))
five o m n p q a b c d e h k l i = two p q d e i ∙ four o m n p a b c (d ++ e) h k l

pub six : (o m n p q r a b c d e f : Bytes) → m ≡ o ++ a → n ≡ m ++ b → p ≡ n ++ c → q ≡ p ++ d → r ≡ q ++ e
    → r ++ f ≡ o ++ (a ++ (b ++ (c ++ (d ++ (e ++ f)))))
six o m n p q r a b c d e f h k l i j = two q r e f j ∙ five o m n p q a b c d (e ++ f) h k l i

pub seven : (o m n p q r s a b c d e f g : Bytes) → m ≡ o ++ a → n ≡ m ++ b → p ≡ n ++ c → q ≡ p ++ d → r ≡ q ++ e → s ≡ r ++ f
    → s ++ g ≡ o ++ (a ++ (b ++ (c ++ (d ++ (e ++ (f ++ g))))))
seven o m n p q r s a b c d e f g h k l i j z = two r s f g z ∙ six o m n p q r a b c d e (f ++ g) h k l i j

-- what was appended, and what is left, is the whole
pub goes_on : (o m n a left next whole : Bytes) → n ≡ m ++ a → left ≡ a ++ next → m ++ left ≡ o ++ whole → n ++ next ≡ o ++ whole
goes_on o m n a left next whole is one before = two m n a next is ∙ ap (λ (l : Bytes). m ++ l) (sym one) ∙ before

-- one number more below an end
pub number_more : (f : ℕ → Bytes) (k n : ℕ) → k < n → flat_map f (range_with_len k (n - k)) ≡ f k ++ flat_map f (range_with_len (k + 1) (n - (k + 1)))
number_more f k n h =
    let more : n - k ≡ suc (n - (k + 1)) = omega arith in
    ap (λ (m : ℕ). flat_map f (range_with_len k m)) more
