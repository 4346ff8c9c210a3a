-- At most one struct satisfies the statement of each call, with one content of every list that it is lent.
use Rattle.std.specs.Prelude.{Err}
use mathlib.Core.Path.{◌≡◌, sym, ap, ◌∙◌}
use mathlib.Core.List.{List}
use Prim.Native.Nat.{ℕ}
use Rattle.rules.specs.Block.{Block, Lent}
use Rattle.rules.specs.Refusal.{Rule, verdict, Writes, WritesBlocks}
use Rattle.rules.specs.Run.{Outcome}
use Rattle.rules.specs.declared.Refusal.{Refusal}
use Rattle.rules.proofs.Replies.{same, one_list, two_lists}
use Rattle.positions.specs.Calls.{PositionsNumber, ColorRanges}
use Rattle.positions.proofs.Unique.{positions_number_lem, color_ranges_lem}
use Rattle.picture.specs.Calls.{BinaryClues, ColouredClues}
use Rattle.picture.proofs.Unique.{binary_clues, coloured_clues}
use Rattle.pbm.specs.Calls.{ReadsPbm}
use Rattle.pbm.proofs.Unique.{read_pbm_lem}
use Rattle.propagation.specs.Calls.{Ran}
use Rattle.replies.specs.Replies.{Told, tell_count_of, tell_clues_of, tell_positions_of, tell_pbm_of, tell_run}
use Rattle.replies.specs.declared.count.CountReply.{CountReply}
use Rattle.replies.specs.declared.number.PositionsReply.{PositionsReply}
use Rattle.replies.specs.declared.clues.CluesReply.{CluesReply}
use Rattle.replies.specs.declared.pictures.PbmReply.{PbmReply}
use Rattle.replies.specs.declared.runs.RunReply.{RunReply}

-- where what is said has at most one answer, at most one struct tells it
pub told_one : {A B : Type 0} {tell : A → B} {S T : A → Type 0} {a b : B} (p : Told tell S a) (q : Told tell T b) → p.answer ≡ q.answer → a ≡ b
told_one {tell = tell} p q e = p.tells ∙ ap tell e ∙ sym q.tells

-- calls that write one list: sums and starts, both kinds; a line's clue and `Description::new`, binary; a picture's text
pub list_one : {rules : List Rule} {vs out x y : List ℕ} {a b : CountReply} → Told tell_count_of (λ r. Writes rules vs out r x) a
    → Told tell_count_of (λ r. Writes rules vs out r y) b → (a ≡ b) × (x ≡ y)
list_one p q = let t = one_list p.says q.says in (told_one p q t.0, t.1)

-- calls that write blocks: a line's clue and `Description::new`, coloured
pub blocks_one : {rules : List Rule} {bs : List Block} {sizes colours x y x' y' : List ℕ} {a b : CountReply}
    → Told tell_count_of (λ r. WritesBlocks rules bs sizes colours r x y) a → Told tell_count_of (λ r. WritesBlocks rules bs sizes colours r x' y') b
    → (a ≡ b) × (x ≡ x') × (y ≡ y')
blocks_one p q = let t = two_lists p.says q.says in (told_one p q t.0, t.1, t.2)

pub ranges_one : (n : ℕ) (l : Lent) {colours from to x y z x' y' z' : List ℕ} {a b : CountReply}
    → Told tell_count_of (λ r. ColorRanges n l colours from to r x y z) a → Told tell_count_of (λ r. ColorRanges n l colours from to r x' y' z') b
    → (a ≡ b) × (x ≡ x') × (y ≡ y') × (z ≡ z')
ranges_one n l p q = let t = color_ranges_lem n l p.says q.says in (told_one p q t.0, t.1, t.2, t.3)

-- both kinds
pub positions_one : {n : ℕ} {l : Lent} {a b : PositionsReply} → Told tell_positions_of (PositionsNumber n l) a
    → Told tell_positions_of (PositionsNumber n l) b → a ≡ b
positions_one p q = told_one p q (positions_number_lem p.says q.says)

pub binary_clues_one : (e w h : ℕ) (g : List ℕ) {rc rs cc cs x y z u x' y' z' u' : List ℕ} {a b : CluesReply}
    → Told tell_clues_of (λ r. BinaryClues e w h g rc rs cc cs r x y z u) a → Told tell_clues_of (λ r. BinaryClues e w h g rc rs cc cs r x' y' z' u') b
    → (a ≡ b) × (x ≡ x') × (y ≡ y') × (z ≡ z') × (u ≡ u')
binary_clues_one e w h g p q =
    let t = binary_clues e w h g p.says q.says in
    (told_one p q t.0, t.1, t.2, t.3, t.4)

pub coloured_clues_one : {e w h : ℕ} {g rc rs rt cc cs ct x y t z u v x' y' t' z' u' v' : List ℕ} {a b : CluesReply}
    → Told tell_clues_of (λ r. ColouredClues e w h g rc rs rt cc cs ct r x y t z u v) a
    → Told tell_clues_of (λ r. ColouredClues e w h g rc rs rt cc cs ct r x' y' t' z' u' v') b
    → (a ≡ b) × (x ≡ x') × (y ≡ y') × (t ≡ t') × (z ≡ z') × (u ≡ u') × (v ≡ v')
coloured_clues_one p q =
    let k = coloured_clues p.says q.says in
    (told_one p q k.0.0, k.0.1, k.0.2, k.1, k.0.3, k.0.4, k.2)

pub pbm_one : (text : List ℕ) {codes x y : List ℕ} {a b : PbmReply} → Told tell_pbm_of (λ r. ReadsPbm text codes r x) a
    → Told tell_pbm_of (λ r. ReadsPbm text codes r y) b → (a ≡ b) × (x ≡ y)
pbm_one text p q = let t = read_pbm_lem text p.says q.says in (told_one p q t.0, t.1)

-- all four runs. If the input is refused by checking, the memo and the stack are the same, too
pub run_one : {rules : List Rule} {end : Outcome} {board grid report memo stack g p m k g₂ p₂ m₂ k₂ : List ℕ} {a b : RunReply}
    → Told tell_run (λ t. Ran rules end board grid report memo stack t g p m k) a
    → Told tell_run (λ t. Ran rules end board grid report memo stack t g₂ p₂ m₂ k₂) b
    → (a ≡ b) × (g ≡ g₂) × (p ≡ p₂) × ((w : Refusal) → verdict rules ≡ Err w → (m ≡ m₂) × (k ≡ k₂))
run_one p q =
    let s = p.says in
    let t = q.says in (
      told_one p q (same s.tells t.tells),
      same s.leaves t.leaves,
      same s.reports t.reports,
      λ w e. (same (s.kept_memo w e) (t.kept_memo w e), same (s.kept_stack w e) (t.kept_stack w e)),
    )
