-- Worked places, steps and labels.
use Rattle.std.proofs.Common.{◌≡◌, true, false, refl}
use Rattle.svg_text.specs.declared.scale.Scale.{Scale}
use Rattle.svg_text.specs.Scale.{fits, middle, place, step_of, steps_of, width_for}

-- 2,048 operations over 4,096 ticks

abbrev long : Scale
long = record { width = 17000; length = 4096 }

width_of_few : width_for 127 ≡ 1000
width_of_few = refl

width_of_more : width_for 128 ≡ 2000
width_of_more = refl

width_of_most : width_for 2048 ≡ 17000
width_of_most = refl

third : place (record { width = 1000; length = 3 }) 1 ≡ 333
third = refl

at_its_end : place (record { width = 1000; length = 3 }) 3 ≡ 1000
at_its_end = refl

past_its_end : place (record { width = 1000; length = 3 }) 4 ≡ 1000
past_its_end = refl

nothing_lasts : place (record { width = 1000; length = 0 }) 0 ≡ 0
nothing_lasts = refl

-- 27 / 12 + 1 is 3, so the dates stand 5 apart: 5, 10, 15, 20, 25
five_apart : step_of (record { width = 1000; length = 27 }) ≡ 5
five_apart = refl

five_dates : steps_of (record { width = 1000; length = 27 }) ≡ 5
five_dates = refl

-- 4096 / 172 + 1 is 24
fifty_apart : step_of long ≡ 50
fifty_apart = refl

one_letter : fits 1 0 14 ≡ true
one_letter = refl

too_narrow : fits 1 0 13 ≡ false
too_narrow = refl

turned_round : fits 0 13 0 ≡ false
turned_round = refl

between : middle 333 1000 ≡ 666
between = refl
