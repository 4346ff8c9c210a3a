-- `Description::new` drops the blocks equal to the default and no others.
use mathlib.Core.Path.{◌≡◌, refl, ap}
use mathlib.Core.Logic.{inl, inr}
use mathlib.Core.List.{List, [], ◌∷◌, map}
use Prim.Native.Nat.{ℕ}
use Rattle.rules.specs.Block.{Block, black, sizes_by}
use Rattle.rules.specs.Clue.{Sifted, no_items, dropped, kept, NoBlock, NoSize, coloured_default, binary_default, described}
use Rattle.rules.proofs.Tests.{Compared, nat_eq_cases}

pub coloured_sifted : (bs : List Block) → Sifted NoBlock bs (described coloured_default bs)
coloured_sifted [] = no_items
coloured_sifted (b ∷ bs) = go (nat_eq_cases b.size 0) (nat_eq_cases b.colour 0) (coloured_sifted bs)
  where
    go : Compared b.size 0 → Compared b.colour 0 → Sifted NoBlock bs (described coloured_default bs)
        → Sifted NoBlock (b ∷ bs) (described coloured_default (b ∷ bs))
    go (inl p) (inl q) up = rw (p.1, q.1) (dropped (p.0, q.0) up)
    go (inl p) (inr q) up = rw (p.1, q.1) (kept (λ d. q.0 d.1) up)
    go (inr p) q up = rw p.1 (kept (λ d. p.0 d.0) up)

pub binary_sifted : (ns : List ℕ) → Sifted NoSize ns (sizes_by (described binary_default (map black ns)))
binary_sifted [] = no_items
binary_sifted (n ∷ ns) = go (nat_eq_cases n 0) (binary_sifted ns)
  where
    go : Compared n 0 → Sifted NoSize ns (sizes_by (described binary_default (map black ns)))
        → Sifted NoSize (n ∷ ns) (sizes_by (described binary_default (map black (n ∷ ns))))
    go (inl p) up = rw p.1 (dropped p.0 up)
    go (inr p) up = rw p.1 (kept p.0 up)

-- one list at most is what is left
pub sifted_one : {A : Type 0} {D : A → Type 0} {l k m : List A} → Sifted D l k → Sifted D l m → k ≡ m
sifted_one no_items no_items = refl
sifted_one (dropped d s) (dropped e t) = sifted_one s t
sifted_one (dropped d s) (kept e t) = absurd (e d)
sifted_one (kept d s) (dropped e t) = absurd (d e)
sifted_one (kept {a = a} d s) (kept e t) = ap (λ x. a ∷ x) (sifted_one s t)
