-- Words in a line of a card: which bytes they are made of, and what they are read as.
use Rattle.std.specs.Prelude.{Bool, cond, ◌&&◌, ◌||◌, List, [], ◌∷◌, ℕ, ◌+◌, ◌-◌, ◌*◌, eqb, ltb, leb, length, Result, Ok, Err}
use Rattle.std.specs.List.{take_while}
use Rattle.non.specs.declared.words.Class.{Class}
use Rattle.non.specs.declared.words.Class.TheVariants.{Number, Key, Name}
use Rattle.non.specs.declared.words.NoValue.{NoValue}
use Rattle.non.specs.declared.words.NoValue.TheVariants.{Long, Missing}

-- the bytes 0 to 9
abbrev pub digit : ℕ → Bool
digit b = leb 48 b && leb b 57

-- the bytes A to Z and a to z
abbrev pub letter : ℕ → Bool
letter b = cond (leb b 90) (leb 65 b) (leb 97 b && leb b 122)

-- a word of the class can have the byte
abbrev pub in_word : Class → ℕ → Bool
in_word Number b = digit b
in_word Key b = letter b
in_word Name b = digit b || letter b

-- a number is written in base 10; any other word is a number in base 256, whose digits are its bytes
abbrev pub base_of : Class → ℕ
base_of Number = 10
base_of Key = 256
base_of Name = 256

abbrev pub worth_of : Class → ℕ → ℕ
worth_of Number b = b - 48
worth_of Key b = b
worth_of Name b = b

-- the largest value: a number has 32 bits, any other word 8 bytes
abbrev pub most_of : Class → ℕ
most_of Number = 4294967295
most_of Key = 18446744073709551615
most_of Name = 18446744073709551615

-- the bytes of the class that a text begins with
abbrev pub word_in : Class → List ℕ → List ℕ
word_in k l = take_while (in_word k) l

-- the value of what was read before, with more bytes after it
unfoldable pub value_from : Class → ℕ → List ℕ → ℕ
value_from k v [] = v
value_from k v (b ∷ l) = value_from k (v * base_of k + worth_of k b) l

-- what the bytes of a word are read as: their value, where there are bytes and it is none too large
abbrev pub read_as : Class → List ℕ → Result ℕ NoValue
read_as k w =
    cond (eqb (length w) 0) (Err Missing)
    (cond (ltb (most_of k) (value_from k 0 w)) (Err Long) (Ok (value_from k 0 w)))
