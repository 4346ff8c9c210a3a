-- Placements: the blocks in order, without overlap, inside the line, with at least one blank between neighbours of equal colour.
use Rattle.std.specs.Prelude.{◌≡◌, Bool, true, false, List, [], ◌∷◌, ◌++◌, map, ℕ, zero, suc, ◌-◌, leb, eqb, length, replicate}
use Rattle.rules.specs.Block.{Block}

-- one blank, or none
abbrev pub one : Bool → List ℕ
one true = 1 ∷ []
one false = []

-- the one blank that must follow a block of colour c, where the next block has that colour too
abbrev pub gap : ℕ → List Block → List ℕ
gap c [] = []
gap c (b ∷ bs) = one (eqb c b.colour)

-- each block as its cells, with the blank that must follow it
abbrev pub pieces : List Block → List (List ℕ)
pieces [] = []
pieces (b ∷ bs) = (replicate b.size b.colour ++ gap b.colour bs) ∷ pieces bs

-- the line l is the pieces in order, with any number of blanks before, between and after them
pub data Laid : List (List ℕ) → List ℕ → Type 0 where
  end : Laid [] []
  blank : {ps : List (List ℕ)} {l : List ℕ} → Laid ps l → Laid ps (1 ∷ l)
  piece : {p : List ℕ} {ps : List (List ℕ)} {l : List ℕ} → Laid ps l → Laid (p ∷ ps) (p ++ l)

-- the same in a line of length n
pub record Lay (ps : List (List ℕ)) (n : ℕ) (l : List ℕ) : Type 0 where
  pub laid : Laid ps l
  pub long : length l ≡ n

-- l is a placement of the blocks in a line of length n
abbrev pub Placement : List Block → ℕ → List ℕ → Type 0
Placement bs n l = Lay (pieces bs) n l

-- ---- the same as a list of all placements

-- the piece p at the left end of n cells, if it fits there; or any number of blanks and then the piece
module _ (p : List ℕ) (rest : ℕ → List (List ℕ)) where
  abbrev pub here : Bool → ℕ → List (List ℕ)
  here true n = map (λ l. p ++ l) (rest (n - length p))
  here false n = []

  abbrev pub slide : ℕ → List (List ℕ)
  slide zero = here (leb (length p) zero) zero
  slide (suc n) = here (leb (length p) (suc n)) (suc n) ++ map (λ l. 1 ∷ l) (slide n)

-- all ways to lay the pieces in a line of length n, the leftmost first
abbrev pub lays : List (List ℕ) → ℕ → List (List ℕ)
lays [] n = replicate n 1 ∷ []
lays (p ∷ ps) n = slide p (lays ps) n

abbrev pub placements : List Block → ℕ → List (List ℕ)
placements bs n = lays (pieces bs) n
