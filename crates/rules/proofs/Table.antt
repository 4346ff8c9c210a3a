-- Every case of the small table holds of the definitions.
use mathlib.Core.Path.{◌≡◌, refl}
use mathlib.Core.List.{map}
use lib.Count.{ones, ones_in}
use Rattle.rules.specs.Table.{Case, answer_to, table}

pub table_holds : map (λ (c : Case). answer_to c.asked) table ≡ map (λ (c : Case). c.told) table
unfolding ones ones_in
table_holds = refl
