-- What the contracts of counts cite.
use Rattle.std.specs.Prelude.{◌≡◌, ℕ, ◌≤◌, List, length, take}

-- `&xs[..n]` is in bounds and has n bytes or entries.
abbrev pub IsPrefixLen : {X : Type 0} → ℕ → List X → Type 0
IsPrefixLen n xs = (n ≤ length xs) × (n ≡ length (take n xs))
