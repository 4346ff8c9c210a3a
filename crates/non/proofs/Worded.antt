-- Laws of words: a value with one byte more after it, and what a word is read as.
use Rattle.std.proofs.Common.{◌≡◌, ◌∙◌, refl, ap, ℕ, ◌+◌, ◌*◌, ◌≤◌, ◌<◌, List, [], ◌∷◌, length, get_or, drop, add-one, drop-cons, drop_of_length-le, arith, Ok, Err}
use borrow.Author.Tests.{lt-ltb, le-ltb, ne_eqb}
use native.Mathlib.Nat.{mul-le-mul_left}
use Rattle.non.specs.declared.words.Class.{Class}
use Rattle.non.specs.declared.words.Class.TheVariants.{Number, Key, Name}
use Rattle.non.specs.declared.words.NoValue.TheVariants.{Long}
use Rattle.non.specs.Wording.{base_of, worth_of, most_of, value_from, read_as}

base_above : (k : Class) → 0 < base_of k
base_above Number = omega arith
base_above Key = omega arith
base_above Name = omega arith

module _ (k : Class) where
  -- more bytes make no value smaller
  grows : (l : List ℕ) (v : ℕ) → v ≤ value_from k v l
  unfolding value_from
  grows [] v = omega arith
  grows (b ∷ l) v = omega (arith, grows l (v * base_of k + worth_of k b), mul-le-mul_left v (base_above k))

  module _ (word : List ℕ) (v i : ℕ) (e : value_from k 0 word ≡ value_from k v (drop i word)) where
    -- the next byte of a word of which i were read
    pub value_next : (w : ℕ) → i < length word → w ≡ v * base_of k + worth_of k (get_or word i 0)
        → value_from k 0 word ≡ value_from k w (drop (i + 1) word)
    unfolding value_from
    value_next w h s = rw (s, e, add-one, drop-cons word i 0 h)

    -- the value of the whole word, where it is none too large, and where it is
    pub read_whole : 0 < length word → length word ≤ i → v ≤ most_of k → Ok v ≡ read_as k word
    unfolding value_from
    read_whole n h m =
        let w = e ∙ ap (value_from k v) (drop_of_length-le word h) in
        rw (ne_eqb (length word) 0 (λ z. omega arith), w, le-ltb _ _ m)

    pub read_over : i < length word → most_of k < v * base_of k + worth_of k (get_or word i 0) → Err Long ≡ read_as k word
    read_over h m =
        let next = v * base_of k + worth_of k (get_or word i 0) in
        let n : most_of k < value_from k 0 word = omega (arith, grows (drop (i + 1) word) next, value_next next h refl) in
        rw (ne_eqb (length word) 0 (λ z. omega arith), lt-ltb _ _ n)
