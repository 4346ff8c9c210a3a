-- A cell that is known to have a colour is shown by that colour's word.
use Rattle.std.proofs.Common.{◌≡◌, ℕ, zero, suc, ◌/◌, ◌%◌, ◌^◌, ◌<◌, List, refl, ap, one-mul, pow-suc, mul-div_cancel, arith}
use lib.Count.{ones, ones_step, count_trailing_zeros}
use Rattle.non.specs.Colours.{colour_at, word_at}
use Rattle.solve.specs.Shown.{shown}

half : (b : ℕ) → 2 ^ suc b / 2 ≡ 2 ^ b
half b = rw (pow-suc 2 b) (mul-div_cancel (2 ^ b) (omega arith))

even : (b : ℕ) → 2 ^ suc b % 2 ≡ 0
even b = rw (pow-suc 2 b) (omega arith)

one_bit : (b : ℕ) → ones (2 ^ b) ≡ 1
unfolding ones
one_bit zero = refl
one_bit (suc b) = omega (arith, ones_step (2 ^ suc b), even b, ap ones (half b), one_bit b)

its_bit : (d b : ℕ) → b < d → count_trailing_zeros d (2 ^ b) ≡ b
unfolding count_trailing_zeros
its_bit zero b h = absurd (omega arith)
its_bit (suc d) zero h = refl
its_bit (suc d) (suc b) h = rw (even b, half b) (ap suc (its_bit d b (omega arith)))

pub colour_shown : (words : List ℕ) (b : ℕ) → b < 32 → shown words (colour_at b) ≡ word_at words b
colour_shown words b h = rw (one-mul (2 ^ b), one_bit b, its_bit 32 b h)
