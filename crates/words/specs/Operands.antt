-- What only a private contract cites.
use Rattle.std.specs.Prelude.{Bool, true, false, ℕ}
use Rattle.words.specs.Check.{register_refusal, cell_refusal}

-- an operand held to a register's number or to the cells of an area
abbrev pub held_refusal : (operand : ℕ) (register : Bool) (area : ℕ) → ℕ
held_refusal operand true area = register_refusal operand
held_refusal operand false area = cell_refusal area operand
