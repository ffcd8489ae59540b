-- What each action gives, and where steps stand, computed on a store that was worked by hand.
use Rattle.std.proofs.Common.{◌≡◌, ℕ, ℤ, pos, List, [], ◌∷◌, refl, map}
use Rattle.std.specs.Prelude.{negsuc}
use Rattle.syn_base.specs.declared.arithmetic.Op.TheVariants.{Add, Sub, Mul}
use Rattle.syn_base.specs.Numbers.{numbers_below}
use Rattle.expression_code.specs.declared.step.Action.{Action}
use Rattle.expression_code.specs.declared.step.Action.TheVariants.{Fill, Count, Copy, Back, Spread, Gather, Total, Both, Right, Left, Choose}
use Rattle.expression_code.specs.declared.step.Step.{Step}
use Rattle.expression_code.specs.Code.{word, words, given, end_of}

-- a vector of three at place 0, one of two at place 3, and a vector of three numbers at place 5
abbrev store : List ℤ
store = pos 7 ∷ pos 20 ∷ pos 300 ∷ negsuc 0 ∷ pos 5 ∷ pos 2 ∷ negsuc 3 ∷ pos 0 ∷ []

-- the first elements that an action gives
abbrev gives : ℕ → Action → List ℤ
gives len action = map (given action store) (numbers_below len)

plain : (gives 2 (Fill (pos 9)) ≡ pos 9 ∷ pos 9 ∷ []) × (gives 3 Count ≡ pos 0 ∷ pos 1 ∷ pos 2 ∷ [])
plain = (refl, refl)

-- slices from the second word on, backwards from it, and the second word again and again
slices : (gives 3 (Copy 1) ≡ pos 20 ∷ pos 300 ∷ negsuc 0 ∷ []) × (gives 2 (Back 1) ≡ pos 20 ∷ pos 7 ∷ []) × (gives 2 (Spread 1) ≡ pos 20 ∷ pos 20 ∷ [])
slices = (refl, refl, refl)

-- elements 2, -4 and 0 of the vector of three, and of the vector of two, which has no element 2
gathers : (gives 3 (Gather 0 3 5) ≡ pos 300 ∷ pos 0 ∷ pos 7 ∷ []) × (gives 3 (Gather 3 2 5) ≡ pos 0 ∷ pos 0 ∷ negsuc 0 ∷ [])
gathers = (refl, refl)

-- sums of one vector and of the other
sums : (gives 2 (Total 0 3) ≡ pos 327 ∷ pos 327 ∷ []) × (gives 1 (Total 3 2) ≡ pos 4 ∷ [])
sums = (refl, refl)

-- differences of words, of words and a number, and of a number and words
differences : (gives 2 (Both Sub 1 0) ≡ pos 13 ∷ pos 280 ∷ []) × (gives 2 (Right Sub 0 (pos 2)) ≡ pos 5 ∷ pos 18 ∷ []) × (gives 2 (Left Sub (pos 2) 0) ≡ negsuc 4 ∷ negsuc 17 ∷ [])
differences = (refl, refl, refl)

-- the condition is 2, -4 and then 0, at which the other word is taken
choices : gives 3 (Choose 5 0 2) ≡ pos 7 ∷ pos 20 ∷ pos 5 ∷ []
choices = refl

-- a step of three words and one of two after a store of eight
steps : List Step
steps = record { len = 3; action = Right Mul 0 (pos 3) } ∷ record { len = 2; action = Both Add 8 3 } ∷ []

places : (end_of 8 steps ≡ 13) × (words store 3 2 ≡ negsuc 0 ∷ pos 5 ∷ []) × (word store 8 ≡ pos 0)
unfolding steps
places = (refl, refl, refl)
