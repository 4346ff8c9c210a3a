-- The line as the solver holds it, and its fillings: the placements in a form that grows from left to right, a cell or a block at a time.
-- `Bridge` in proofs/ carries it to the paper's placements; no public call speaks of it.
use Rattle.std.specs.Prelude.{◌≡◌, Bool, cond, ℕ, zero, suc, ◌+◌, ◌<◌, ◌≤◌, T, eqb, get_or}
use Rattle.rules.specs.Colour.{can_take}
use Rattle.filling.specs.declared.HeldLine.{HeldLine}

-- a line: how many cells and blocks it has, its cells' colour sets, its blocks' sizes and colours, and the sums for the early refusal
pub record Line : Type 0 where
  pub length : ℕ
  pub count : ℕ
  pub cell : ℕ → ℕ
  pub size : ℕ → ℕ
  pub colour : ℕ → ℕ
  pub sum : ℕ → ℕ

-- the line that the solver's struct holds
abbrev pub held : HeldLine → Line
held h = record {
  length = h.length;
  count = h.count;
  cell = λ i. get_or h.cells i 0;
  size = λ b. get_or h.sizes b 0;
  colour = λ b. get_or h.colours b 0;
  sum = λ b. get_or h.sums b 0;
}

-- the block after block b has its colour
abbrev pub trails : Line → ℕ → Bool
trails L b = eqb (L.colour (b + 1)) (L.colour b)

-- the blanks that block b has to have after it: one before a block of its own colour, else none
abbrev pub gap_after : Line → ℕ → ℕ
gap_after L b = cond (trails L b) 1 0

-- the cells that the first b blocks take with their gaps, packed to the left
abbrev pub taken : Line → ℕ → ℕ
taken L zero = 0
taken L (suc b) = taken L b + L.size b + gap_after L b

-- the least space of the first b blocks: the gap after the last is not counted
abbrev pub space : Line → ℕ → ℕ
space L zero = 0
space L (suc b) = taken L b + L.size b

-- f shows block b from cell p up to, not including, cell q: its cells, then its gap's blank
pub record BlockAt (L : Line) (f : ℕ → ℕ) (b p q : ℕ) : Type 0 where
  pub within : b < L.count
  pub ends : q ≡ p + L.size b + gap_after L b
  pub inside : (i : ℕ) → p ≤ i → i < p + L.size b → f i ≡ L.colour b
  pub after : (i : ℕ) → p + L.size b ≤ i → i < q → f i ≡ 1

-- the first p cells of f show the first b blocks: from left to right, one blank more or one block more
pub data Shows (L : Line) (f : ℕ → ℕ) : ℕ → ℕ → Type 0 where
  edge : Shows L f 0 0
  blank : {p q b : ℕ} → Shows L f p b → q ≡ p + 1 → f p ≡ 1 → Shows L f q b
  block : {p q b c : ℕ} → Shows L f p b → c ≡ b + 1 → BlockAt L f b p q → Shows L f q c

-- the first p cells can take f's colours
unfoldable pub AgreesTo : Line → ℕ → (ℕ → ℕ) → Type 0
AgreesTo L p f = (i : ℕ) → i < p → T (can_take (L.cell i) (f i))

-- the first p cells of f show the first b blocks and agree with the line's
pub record Fits (L : Line) (p b : ℕ) (f : ℕ → ℕ) : Type 0 where
  pub shows : Shows L f p b
  pub agrees : AgreesTo L p f

-- f is a placement of all blocks in the whole line, and agrees with it
abbrev pub Solution : Line → (ℕ → ℕ) → Type 0
Solution L f = Fits L L.length L.count f
