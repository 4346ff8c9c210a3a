-- What the private functions say. A reader of the public calls needs none of it.
use Rattle.std.specs.Prelude.{◌≡◌, List, [], map, ℕ, ◌+◌, ◌≤◌, ◌<◌, ◌^◌, length, get_or, Err, Ok, Result}
use Rattle.rules.specs.Refusal.{Verdict}
use Rattle.std.proofs.lemmas.List.Edits.{sets}
use Rattle.rules.specs.Block.{Block, blocks}
use Rattle.rules.specs.Packing.{minimal_space}
use Rattle.rules.specs.Ranges.{new_of, first_of, last_of, range_colours, range_start, range_end}
use Rattle.rules.specs.declared.Refusal.{Refusal}
use Rattle.loops.specs.Put.{Put}

-- a verdict with the number that is told where no rule is broken
abbrev pub space_of : Verdict → ℕ → Result ℕ Refusal
space_of (Ok _) n = Ok n
space_of (Err w) n = Err w

-- ---- ranges

pub record Rangeable (colours starts sums : List ℕ) (slack : ℕ) (ids from to : List ℕ) : Type 0 where
  pub all_starts : length colours ≤ length starts
  pub all_sums : length colours ≤ length sums
  pub low : (k : ℕ) → get_or sums k 0 + slack < 2 ^ 64
  pub ids_room : length colours ≤ length ids
  pub from_room : length colours ≤ length from
  pub to_room : length colours ≤ length to

abbrev pub start_in : List ℕ → List ℕ → ℕ → ℕ
start_in colours starts c = get_or starts (first_of c colours) 0

abbrev pub end_in : List ℕ → List ℕ → ℕ → ℕ → ℕ
end_in colours sums slack c = get_or sums (last_of c 0 0 colours) 0 + slack

pub record Ranged (colours starts sums : List ℕ) (slack : ℕ) (ids from to : List ℕ) (r : ℕ) (ids' from' to' : List ℕ) : Type 0 where
  pub colour_list : Put ids 0 (new_of [] colours) r ids'
  pub from_list : from' ≡ sets from 0 (map (start_in colours starts) (new_of [] colours))
  pub to_list : to' ≡ sets to 0 (map (end_in colours sums slack) (new_of [] colours))

pub record RangesFit (sizes colours : List ℕ) (slack : ℕ) (ids from to : List ℕ) : Type 0 where
  pub equal : length sizes ≡ length colours
  pub few : length sizes ≤ 64
  pub low : minimal_space (blocks sizes colours) + slack ≤ 64
  pub ids_room : length colours ≤ length ids
  pub from_room : length colours ≤ length from
  pub to_room : length colours ≤ length to

pub record RangesOf (bs : List Block) (slack : ℕ) (ids from to : List ℕ) (r : ℕ) (ids' from' to' : List ℕ) : Type 0 where
  pub colour_list : Put ids 0 (range_colours bs) r ids'
  pub from_list : from' ≡ sets from 0 (map (range_start bs) (range_colours bs))
  pub to_list : to' ≡ sets to 0 (map (range_end bs (minimal_space bs + slack)) (range_colours bs))
