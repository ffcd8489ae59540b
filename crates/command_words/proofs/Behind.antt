-- A word more is a word after those before.
use Rattle.std.proofs.Common.{◌≡◌, refl, sym, ap, List, [], ◌∷◌, ◌++◌, Option, Some, None, append_assoc}
use Rattle.syn_base.specs.Bytes.{Bytes}
use Rattle.command_words.specs.Command.{Arguments, with_plain, with_workers}

-- the rest, with what was given before
abbrev pub behind : Arguments → Option Arguments → Option Arguments
behind a None = None
behind a (Some b) = Some (record { plain = a.plain ++ b.plain; workers = a.workers ++ b.workers })

abbrev pub given : List Bytes → List Bytes → Arguments
given p w = record { plain = p; workers = w }

pub behind_plain : (a : Arguments) (w : Bytes) (o : Option Arguments) → behind a (with_plain w o) ≡ behind (record { plain = a.plain ++ w ∷ []; workers = a.workers }) o
behind_plain a w None = refl
behind_plain a w (Some b) = ap (λ p. Some (given p (a.workers ++ b.workers))) (sym (append_assoc a.plain (w ∷ []) b.plain))

pub behind_workers : (a : Arguments) (w : Bytes) (o : Option Arguments) → behind a (with_workers w o) ≡ behind (record { plain = a.plain; workers = a.workers ++ w ∷ [] }) o
behind_workers a w None = refl
behind_workers a w (Some b) = ap (λ v. Some (given (a.plain ++ b.plain) v)) (sym (append_assoc a.workers (w ∷ []) b.workers))

pub behind_first : (o : Option Arguments) → behind (record { plain = []; workers = [] }) o ≡ o
behind_first None = refl
behind_first (Some b) = refl
