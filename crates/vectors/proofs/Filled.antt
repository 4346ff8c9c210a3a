-- Filling a list entry by entry, at every width.
use Rattle.std.proofs.Common.{◌≡◌, ℕ, ◌+◌, ◌<◌, List, length, map, set, ◌∙◌, arith, get_or-set_other, get_or-set_same, below_more}
use Rattle.std.proofs.lemmas.List.{map-set, length-map}
use Rattle.vectors.specs.Fillers.{Filled}

pub filled_more : {at : ℕ → ℕ} (list : List ℕ) (i v : ℕ) → i < length list → v ≡ at i → Filled at list i → Filled at (set list i v) (i + 1)
filled_more list i v within same before =
    record {
      holds = below_more _ _ (λ k h. get_or-set_other list i k v 0 (λ e. omega (arith, h, e)) ∙ before.holds k h) (get_or-set_same list i v 0 within ∙ same);
    }

-- the same of a list whose entries are numbers by `value`
pub filled_entry : {X : Type 0} {at : ℕ → ℕ} (value : X → ℕ) (list : List X) (i : ℕ) (x : X) → i < length list → value x ≡ at i → Filled at (map value list) i → Filled at (map value (set list i x)) (i + 1)
filled_entry {X} {at} value list i x within same before =
    rw (map-set value list i x) (filled_more (map value list) i (value x) (rw (length-map list value) within) same before)
