-- What only the code's contracts cite: text stored at a place of a row of bytes.
use Rattle.std.specs.Prelude.{◌≡◌, Bool, cond, List, ℕ, ◌+◌, ◌≤◌, leb, length}
use Rattle.std.proofs.lemmas.List.Edits.{sets}
use Rattle.printing.specs.Words.{stopped, at as between, space, line_end}

-- there is room for so many bytes from a place on
abbrev pub fits : (limit size at : ℕ) → Bool
fits limit size at = leb (at + limit) size

-- A TEXT OF AT MOST SO MANY BYTES: with room for the limit it stands at the place, nothing else has changed, and `end` is the place after it;
-- without, nothing has changed, and `end` is the place that was given
pub record PutIfRoom (limit : ℕ) (before after : List ℕ) (at end : ℕ) (text : List ℕ) : Type 0 where
  pub ends : end ≡ cond (fits limit (length before) at) (at + length text) at
  pub laid : after ≡ cond (fits limit (length before) at) (sets before at text) before
  pub short : length text ≤ limit

-- there is room for the text
pub record Room (bytes : List ℕ) (at : ℕ) (text : List ℕ) : Type 0 where
  pub fits : at + length text ≤ length bytes

-- it stands there, nothing else has changed, and `end` is the place after it
pub record Put (before after : List ℕ) (at end : ℕ) (text : List ℕ) : Type 0 where
  pub ends : end ≡ at + length text
  pub laid : after ≡ sets before at text

-- the same of a text that is at most so long
pub record PutIn (limit : ℕ) (before after : List ℕ) (at end : ℕ) (text : List ℕ) : Type 0 where
  pub put : Put before after at end text
  pub short : length text ≤ limit

-- LIMITS: a number of 64 bits has at most 20 decimal digits, and its pattern 16 hexadecimal ones
abbrev pub decimal_limit : ℕ
decimal_limit = 20

abbrev pub pattern_limit : ℕ
pattern_limit = 16

-- those of a line are its parts' together: "N at PLACE" and the line's end; a label, a number and the line's end; a stop line
abbrev pub answer_limit : ℕ
answer_limit = decimal_limit + length between + decimal_limit + length line_end

abbrev pub count_limit : (label : List ℕ) → ℕ
count_limit label = length label + (decimal_limit + length line_end)

abbrev pub stop_limit : (name : List ℕ) → ℕ
stop_limit name = length name + (length stopped + length space + answer_limit)
