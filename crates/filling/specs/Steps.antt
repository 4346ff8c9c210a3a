-- What the functions of the cycle ask and tell.
use Rattle.std.specs.Prelude.{◌≡◌, Bool, true, false, cond, List, ℕ, ◌+◌, ◌*◌, ◌-◌, ◌≤◌, ◌<◌, T, ltb, eqb, length, get_or}
use Rattle.std.specs.Int.Bits.{bit_or}
use Rattle.rules.specs.Colour.{Has, Subset, can_take}
use Rattle.rules.specs.Refusal.{memo_size}
use Rattle.filling.specs.Filling.{Line, Shows, BlockAt, AgreesTo, Fits, Solution, space}

-- r says whether P
pub record Decides (P : Type 0) (r : Bool) : Type 0 where
  pub yes : r ≡ true → P
  pub no : r ≡ false → P → ⊥

-- ---- where a block can lie

-- the colour that a block gives: its own up to `stop`, then blank
abbrev pub shade : ℕ → ℕ → ℕ → ℕ
shade stop colour i = cond (ltb i stop) colour 1

-- each cell from a up to, not including, e can take what h gives it
unfoldable pub CanShow : Line → ℕ → ℕ → (ℕ → ℕ) → Type 0
CanShow L a e h = (i : ℕ) → a ≤ i → i < e → T (can_take (L.cell i) (h i))

-- where the block's own cells end, in what ends at `position`
abbrev pub stop_of : ℕ → Bool → ℕ
stop_of position trailing = cond trailing position (position + 1)

-- ---- what is added to the answer

-- from a up to, not including, e what h gives was added to `out`, and nothing else has changed
pub record Added (out out' : List ℕ) (a e : ℕ) (h : ℕ → ℕ) : Type 0 where
  pub long : length out' ≡ length out
  pub inside : (i : ℕ) → a ≤ i → i < e → get_or out' i 0 ≡ bit_or (get_or out i 0) (h i)
  pub outside : (i : ℕ) → (a ≤ i → i < e → ⊥) → get_or out' i 0 ≡ get_or out i 0

-- no colour is taken away
unfoldable pub Grows : List ℕ → List ℕ → Type 0
Grows out out' = (i : ℕ) → Subset (get_or out i 0) (get_or out' i 0)

-- the first p cells of `out` have f's colours
unfoldable pub Covered : List ℕ → ℕ → (ℕ → ℕ) → Type 0
Covered out p f = (i : ℕ) → i < p → Subset (f i) (get_or out i 0)

-- ---- the cycle

-- r says whether some f has Q, and the colours of every f that has it are in the first p cells of `out`
pub record Answer (Q : (ℕ → ℕ) → Type 0) (p : ℕ) (r : Bool) (out : List ℕ) : Type 0 where
  pub covered : (f : ℕ → ℕ) → Q f → Covered out p f
  pub decides : Decides ((f : ℕ → ℕ) × Q f) r

-- each way to fit b blocks in the first p cells goes on to a solution
unfoldable pub Rest : Line → ℕ → ℕ → Type 0
Rest L p b = (g : ℕ → ℕ) → Fits L p b g → (f : ℕ → ℕ) × (Solution L f × ((i : ℕ) → i < p → f i ≡ g i))

-- where the memo's entry of a position and a number of blocks stands
abbrev pub entry_of : ℕ → ℕ → ℕ
entry_of at b = b * 64 + at

-- the memo tells the truth, and each colour of `out` is some solution's
pub record Good (L : Line) (memo out : List ℕ) : Type 0 where
  pub room : memo_size ≤ length memo
  pub long : 64 ≤ length out
  pub known : (at b : ℕ) → at < L.length → b ≤ L.count → (get_or memo (entry_of at b) 0 ≡ 0 → ⊥)
      → Answer (Fits L (at + 1) b) (at + 1) (eqb (get_or memo (entry_of at b) 0) 2) out
  pub sound : (i : ℕ) → i < L.length → (k : ℕ) → Has (get_or out i 0) k → (f : ℕ → ℕ) × (Solution L f × Has (f i) k)

-- the line is one that the solver takes: each block has at least one cell, and the sums are the least space less one
pub record LegalLine (L : Line) : Type 0 where
  pub short : L.length ≤ 64
  pub few : L.count ≤ 64
  pub sized : (b : ℕ) → b < L.count → 1 ≤ L.size b
  pub sums : (b : ℕ) → b ≤ L.count → L.sum b ≡ space L b - 1

-- what each function of the cycle asks, of the first p cells and the first b blocks
pub record Ask (L : Line) (p b : ℕ) (memo out : List ℕ) : Type 0 where
  pub legal : LegalLine L
  pub here : p ≤ L.length
  pub block : b ≤ L.count
  pub good : Good L memo out
  pub rest : Rest L p b

-- what each tells, of the fillings Q of the first p cells
pub record Tell (L : Line) (Q : (ℕ → ℕ) → Type 0) (p : ℕ) (r : Bool) (out memo' out' : List ℕ) : Type 0 where
  pub good : Good L memo' out'
  pub grows : Grows out out'
  pub answer : Answer Q p r out'

-- the filling ends in a blank at `at`
pub record EndsBlank (L : Line) (at b : ℕ) (f : ℕ → ℕ) : Type 0 where
  pub before : Fits L at b f
  pub takes : T (can_take (L.cell at) 1)
  pub is : f at ≡ 1

-- the filling ends in its last block, whose last cell or gap is at `at`
pub record EndsBlock (L : Line) (at b : ℕ) (f : ℕ → ℕ) : Type 0 where
  pub start : ℕ
  pub prior : ℕ
  pub is : b ≡ prior + 1
  pub before : Shows L f start prior
  pub block : BlockAt L f prior start (at + 1)
  pub agrees : AgreesTo L (at + 1) f
