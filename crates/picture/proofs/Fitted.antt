-- What the tests on the lists of a grid tell.
use Prim.Native.Nat.{◌≤◌, ℕ, ◌*◌}
use borrow.Author.Tests.{eq-eqb, eqb-true, leb-true, le-leb}
use lib.Dec.{eqb, leb}
use mathlib.Core.Bool.{true, ◌&&◌}
use mathlib.Core.Path.{◌≡◌}
use Rattle.picture.specs.Calls.{grid_fits}
use Rattle.rules.proofs.Tests.{both_true}

-- the tests of rule 2, each for itself
pub record Fitted (w h p rc rs cc cs : ℕ) : Type 0 where
  pub exact : p ≡ w * h
  pub row_counts : h ≤ rc
  pub row_sizes : w * h ≤ rs
  pub column_counts : w ≤ cc
  pub column_sizes : w * h ≤ cs

pub fitted : (w h p rc rs cc cs : ℕ) → grid_fits w h p rc rs cc cs ≡ true → Fitted w h p rc rs cc cs
fitted w h p rc rs cc cs e =
    let v = leb w cc && leb (w * h) cs in
    let u = leb (w * h) rs && v in
    let a = both_true (eqb p (w * h)) (leb h rc && u) e in
    let b = both_true (leb h rc) u a.1 in
    let d = both_true (leb (w * h) rs) v b.1 in
    let f = both_true (leb w cc) (leb (w * h) cs) d.1 in
    record {
      exact = eqb-true p (w * h) a.0;
      row_counts = leb-true h rc b.0;
      row_sizes = leb-true (w * h) rs d.0;
      column_counts = leb-true w cc f.0;
      column_sizes = leb-true (w * h) cs f.1;
    }

-- and what they ask
pub fits_all : {w h p rc rs cc cs : ℕ} → Fitted w h p rc rs cc cs → grid_fits w h p rc rs cc cs ≡ true
fits_all {w} {h} {p} {rc} {rs} {cc} {cs} f =
    rw (
      eq-eqb p (w * h) f.exact,
      le-leb h rc f.row_counts,
      le-leb (w * h) rs f.row_sizes,
      le-leb w cc f.column_counts,
      le-leb (w * h) cs f.column_sizes,
    )
