-- The colour of a word is a single one, and not blank; its bit has the word.
use mathlib.Core.Path.{◌≡◌, ◌∙◌}
use Prim.Native.Nat.{ℕ, ◌+◌, ◌*◌, ◌%◌, ◌<◌, ◌≤◌, ◌^◌}
use native.Mathlib.Nat.{one-mul}
use native.Mathlib.Omega.{arith}
use lib.Pow.{pow_mono}
use mathlib.Core.List.{List}
use native.Mathlib.Numerals.{add-one}
use lib.ListN.{get_or}
use Rattle.non.specs.Colours.{IsColour, HasWord}

fitting : (b : ℕ) → b < 32 → 1 * 2 ^ b % 4294967296 ≡ 1 * 2 ^ b
fitting b h = let m : 2 ^ b ≤ 2 ^ 31 = pow_mono {j = 31} (omega arith) in omega arith

-- the bit after that of blank, and so on
pub single : (p : ℕ) → p < 31 → IsColour (1 * 2 ^ (p + 1) % 4294967296)
single p h =
    let f = fitting (p + 1) (omega arith) in
    let m : 2 ^ 1 ≤ 2 ^ (p + 1) = pow_mono {i = 1} {j = p + 1} (omega arith) in
    ((p + 1, f ∙ one-mul (2 ^ (p + 1))), omega arith)

pub named : (words : List ℕ) (p word : ℕ) → p < 31 → get_or words p 0 ≡ word → HasWord words (1 * 2 ^ (p + 1) % 4294967296) word
named words p word h e = (p + 1, fitting (p + 1) (omega arith), rw add-one e)
