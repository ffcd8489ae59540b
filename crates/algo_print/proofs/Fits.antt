-- A number that a text is fits 64 bits.
use Rattle.std.proofs.Common.{◌≡◌, Some, Result, Ok, Err, ℤ, subst, w64, FitsSigned}
use Rattle.syn_base.specs.declared.integer.NumFault.{NumFault}
use Rattle.syn_base.specs.Integer.{integer_of}
use Rattle.body_text.proofs.CanonicalSound.{Fitting, integer_fits}
use Rattle.syn_base.specs.Bytes.{Bytes}
use Rattle.algo_text.specs.Words.{number_by, number_of}

read_fits : (r : Result ℤ NumFault) (v : ℤ) → Fitting r → number_by r ≡ Some v → FitsSigned w64 v
read_fits (Ok u) v fits h = let same : u ≡ v = cc in subst (λ (x : ℤ). FitsSigned w64 x) same fits
read_fits (Err e) v fits h = cc

pub number_fits : (w : Bytes) (v : ℤ) → number_of w ≡ Some v → FitsSigned w64 v
number_fits w v h = read_fits (integer_of w) v (integer_fits w) h
