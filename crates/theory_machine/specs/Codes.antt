-- Document 01, "Steps", the column "code": ONE TABLE of the step codes. Reading a code and the limit of the codes come from it alone.
use Rattle.std.specs.Prelude.{cond, List, [], ◌∷◌, ℕ, suc, ◌+◌, ◌-◌, ltb}
use Rattle.theory_machine.specs.Rows.{between}
use Rattle.theory_machine.specs.Tags.{first_buffer, last_buffer, first_station, last_station, first_store, last_store}

-- a code, read: slots by their index
pub data Step : Type 0 where
  unknown_code issue : Step
  arrival completion buffer_grant station_grant release : (i : ℕ) → Step

-- a row: base + first to base + last, and the step of each slot, by its index from 0
pub record CodeRow : Type 0 where
  pub base : ℕ
  pub first : ℕ
  pub last : ℕ
  pub step : (i : ℕ) → Step

abbrev pub first_code : CodeRow → ℕ
first_code r = r.base + r.first

abbrev pub last_code : CodeRow → ℕ
last_code r = r.base + r.last

abbrev row : (base first last : ℕ) → ((i : ℕ) → Step) → CodeRow
row base first last step = record { base = base; first = first; last = last; step = step }

-- "0", "16+b, b 1 to 6", "32+u, u 8 to 12", "48+t, t 1 to 6, 8 to 12", "64+s, s 1 to 3"
abbrev pub code_table : List CodeRow
code_table =
    row 0 0 0 (λ i. issue)
    ∷ row 16 first_buffer last_buffer arrival
    ∷ row 32 first_station last_station completion
    ∷ row 48 first_buffer last_buffer buffer_grant
    ∷ row 48 first_station last_station station_grant
    ∷ row 64 first_store last_store release
    ∷ []

-- "All other codes are unknown."
abbrev pub step_in : List CodeRow → (code : ℕ) → Step
step_in [] code = unknown_code
step_in (r ∷ rows) code = let other = step_in rows code in cond (between (first_code r) (last_code r) code) (r.step (code - first_code r)) other

unfoldable pub step_of : (code : ℕ) → Step
step_of code = step_in code_table code

-- the first number above every code of the table
abbrev higher : ℕ → ℕ → ℕ
higher a b = cond (ltb a b) b a

abbrev pub limit_of : List CodeRow → ℕ
limit_of [] = 0
limit_of (r ∷ rows) = higher (suc (last_code r)) (limit_of rows)

abbrev pub code_limit : ℕ
code_limit = limit_of code_table
