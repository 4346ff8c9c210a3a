-- Clues of a line of picture codes, and which codes are allowed. e is the blank code, which may be any number.
use Rattle.std.specs.Prelude.{◌≡◌, ◌⊎◌, ◌≢◌, Bool, true, false, cond, List, [], ◌∷◌, ◌++◌, map, ℕ, suc, ◌<◌, eqb, replicate}
use Rattle.std.proofs.Math.Option.{Option, none, some}
use Rattle.rules.specs.Block.{Block, ◌of◌, illegal_colour_of}
use Rattle.std.specs.List.{list_any}

-- the line does not begin with the code c
abbrev pub Apart : ℕ → List ℕ → Type 0
Apart c [] = Unit {0}
Apart c (d ∷ l) = d ≢ c

-- bs are the line's maximal runs of equal codes that are not blank, in order
pub data RunsOf (e : ℕ) : List ℕ → List Block → Type 0 where
  no_code : RunsOf e [] []
  a_blank : {l : List ℕ} {bs : List Block} → RunsOf e l bs → RunsOf e (e ∷ l) bs
  a_run : {l : List ℕ} {bs : List Block} (n c : ℕ) → 0 < n → c ≢ e → Apart c l → RunsOf e l bs → RunsOf e (replicate n c ++ l) (n of c ∷ bs)

-- ---- the same computed, code by code

-- the runs that a code ends, and the run that is open after it
pub record Step : Type 0 where
  pub ended : List Block
  pub open' : Option Block

abbrev pub close : Option Block → List Block
close none = []
close (some b) = b ∷ []

-- a code that is not blank, after the open run b: the same code, or another
abbrev pub grow : Bool → Block → ℕ → Step
grow true b c = record { ended = []; open' = some (suc b.size of c) }
grow false b c = record { ended = b ∷ []; open' = some (1 of c) }

-- a code that is blank, or not
abbrev pub step : Bool → Option Block → ℕ → Step
step true o c = record { ended = close o; open' = none }
step false none c = record { ended = []; open' = some (1 of c) }
step false (some b) c = grow (eqb c b.colour) b c

-- the runs of a line, with the run o open before it
abbrev pub runs : ℕ → Option Block → List ℕ → List Block
runs e o [] = close o
runs e o (c ∷ l) = (step (eqb c e) o c).ended ++ runs e (step (eqb c e) o c).open' l

-- the clue of a line
abbrev pub clue : ℕ → List ℕ → List Block
clue e l = runs e none l

-- ---- codes that are not allowed (9)

-- coloured: a code that is not blank is 1, or has not exactly one bit
abbrev pub bad_code_of : ℕ → List ℕ → Bool
bad_code_of e l = list_any (λ c. cond (eqb c e) false (illegal_colour_of c)) l

-- ---- a picture's codes as colours

-- the blank code is blank; any other code is its own colour
abbrev pub read_code : ℕ → ℕ → ℕ
read_code e c = cond (eqb c e) 1 c

-- binary: any other code is black, whatever its ink
abbrev pub read_binary : ℕ → ℕ → ℕ
read_binary e c = cond (eqb c e) 1 2

-- a line, or a picture, read as black and white
abbrev pub black_white : ℕ → List ℕ → List ℕ
black_white e l = map (read_binary e) l

-- the binary clue of a line: its runs once it is read so, which are its maximal stretches of codes that are not blank
abbrev pub black_clue : ℕ → List ℕ → List Block
black_clue e l = clue 1 (black_white e l)

-- the line ends here, or goes on with the blank code
abbrev pub Stops : ℕ → List ℕ → Type 0
Stops e [] = Unit {0}
Stops e (d ∷ l) = d ≡ e

-- no two different inks touch: beside each code stands a blank one, or the same
abbrev pub Beside : ℕ → ℕ → List ℕ → Type 0
Beside e c [] = Unit {0}
Beside e c (d ∷ l) = (c ≡ e) ⊎ ((d ≡ e) ⊎ (d ≡ c))

abbrev pub InksApart : ℕ → List ℕ → Type 0
InksApart e [] = Unit {0}
InksApart e (c ∷ l) = Beside e c l × InksApart e l

-- ---- Description::new: the blocks but for those equal to the default, in order

-- k are the items of the list l but for those of which D holds, in order
pub data Sifted {A : Type 0} (D : A → Type 0) : List A → List A → Type 0 where
  no_items : Sifted D [] []
  dropped : {a : A} {l k : List A} → D a → Sifted D l k → Sifted D (a ∷ l) k
  kept : {a : A} {l k : List A} → (D a → ⊥) → Sifted D l k → Sifted D (a ∷ l) (a ∷ k)

-- the default: a coloured block of size 0 and colour 0, a binary block of size 0
abbrev pub NoBlock : Block → Type 0
NoBlock b = (b.size ≡ 0) × (b.colour ≡ 0)

abbrev pub NoSize : ℕ → Type 0
NoSize n = n ≡ 0

-- the same computed, where the default has the colour d: 0 if coloured; a binary block has no colour but black, so that its size decides
abbrev pub coloured_default : ℕ
coloured_default = 0

abbrev pub binary_default : ℕ
binary_default = 2

abbrev pub is_default : ℕ → ℕ → ℕ → Bool
is_default d n c = cond (eqb n 0) (eqb c d) false

abbrev pub described : ℕ → List Block → List Block
described d [] = []
described d (b ∷ bs) = cond (is_default d b.size b.colour) [] (b ∷ []) ++ described d bs
