-- What only the code's contracts cite: the text of a report in lent bytes.
use Rattle.std.specs.Prelude.{◌≡◌, cond, List, ℕ, ◌+◌, ◌*◌, ◌≤◌, ltb, length}
use Rattle.list_file.specs.Reading.{over}
use Rattle.printing.specs.Words.{space, line_end}
use Rattle.printing.specs.Put.{decimal_limit, pattern_limit, answer_limit, count_limit}
use Rattle.theory_report.specs.Words as word

-- LIMITS, each its parts' together: the refusal's line; "tag N", which is longer than a pattern; a register's line; four of them; the head; a
-- record's line
abbrev pub refusal_limit : ℕ
refusal_limit = length word.refusal + answer_limit

abbrev pub tag_limit : ℕ
tag_limit = length word.tagged + decimal_limit

abbrev pub register_limit : ℕ
register_limit = length word.register + decimal_limit + length space + tag_limit + length line_end

abbrev pub registers_limit : ℕ
registers_limit = 4 * register_limit

abbrev pub head_limit : ℕ
head_limit = count_limit word.steps + refusal_limit + count_limit word.left + registers_limit + count_limit word.log

abbrev pub record_limit : ℕ
record_limit = decimal_limit + length space + decimal_limit + length space + pattern_limit + length line_end

-- bytes that are enough for every report: the head and 2,048 records take at most 121,151
abbrev pub page_room : ℕ
page_room = 131072

-- A TEXT IN THE LENT BYTES: it stands at their front, what is beyond it stays, and the answer is its length; with fewer than `page_room` bytes
-- the answer is 0 and nothing is written
pub record Printed (before after : List ℕ) (size : ℕ) (text : List ℕ) : Type 0 where
  pub counted : size ≡ cond (ltb (length before) page_room) 0 (length text)
  pub written : after ≡ cond (ltb (length before) page_room) before (over text before)
  pub within : size ≤ length before
