-- Document 01, "The list file and the schedule": numbers in groups of seven bits, with refusals 8 and 9.
use Rattle.std.specs.Prelude.{◌≡◌, Bool, cond, ◌&&◌, List, [], ◌∷◌, ℕ, zero, suc, ◌+◌, ◌*◌, ◌/◌, ◌%◌, ltb, leb, eqb, length, drop}
use Rattle.std.proofs.lemmas.List.Edits.{sets}

-- what a place of a file gives: a value and the place after it, or a refusal with its place
pub data Parsed (A : Type 0) : Type 0 where
  accepted : A → (next : ℕ) → Parsed A
  refused : (refusal place : ℕ) → Parsed A

-- "Numbers go in groups of seven bits, low group first; the top bit is set where another follows."
abbrev pub group_size : ℕ
group_size = 128

abbrev pub group_of : ℕ → ℕ
group_of byte = byte % group_size

abbrev pub follows : ℕ → Bool
follows byte = leb group_size byte

-- "above 65,535"
abbrev pub number_limit : ℕ
number_limit = 65535

-- how many bytes may follow a number's second: "a third byte with its top bit set is 9 at once"
abbrev pub after_second : ℕ
after_second = 1

-- what bytes give as one number: its value and how many bytes it takes, or its refusal
pub data Groups : Type 0 where
  whole : (value size : ℕ) → Groups
  broken : (refusal : ℕ) → Groups

-- a byte that another follows, in front of what the later ones give
abbrev pub joined : ℕ → Groups → Groups
joined byte (whole value size) = whole (group_of byte + value * group_size) (suc size)
joined byte (broken refusal) = broken refusal

-- "Shortest form: the last of several bytes is not 0."
abbrev pub last_group : ℕ → Groups
last_group byte = cond (eqb byte 0) (broken 9) (whole byte 1)

-- the bytes after a number's first; so many may still follow this one. At the file's end: 8
abbrev pub later_groups : ℕ → List ℕ → Groups
later_groups more [] = broken 8
later_groups zero (byte ∷ bytes) = cond (follows byte) (broken 9) (last_group byte)
later_groups (suc more) (byte ∷ bytes) = cond (follows byte) (joined byte (later_groups more bytes)) (last_group byte)

abbrev pub groups : List ℕ → Groups
groups [] = broken 8
groups (byte ∷ bytes) = cond (follows byte) (joined byte (later_groups after_second bytes)) (whole byte 1)

abbrev pub limited : Groups → Groups
limited (whole value size) = cond (ltb number_limit value) (broken 9) (whole value size)
limited (broken refusal) = broken refusal

-- the number that the bytes begin with
unfoldable pub number_in : List ℕ → Groups
number_in bytes = limited (groups bytes)

-- "The place given is the first byte of the number at fault."
abbrev pub placed : ℕ → Groups → Parsed ℕ
placed at (whole value size) = accepted value (at + size)
placed at (broken refusal) = refused refusal at

-- the number at a place of a file
unfoldable pub number_at : List ℕ → ℕ → Parsed ℕ
number_at bytes at = placed at (number_in (drop at bytes))

-- THE OTHER WAY: a number's bytes in shortest form; so many may follow the first
abbrev pub groups_of : ℕ → ℕ → List ℕ
groups_of zero value = value ∷ []
groups_of (suc more) value =
    let rest = groups_of more (value / group_size) in
    cond (ltb value group_size) (value ∷ []) ((group_size + group_of value) ∷ rest)

unfoldable pub bytes_of : ℕ → List ℕ
bytes_of value = groups_of (suc after_second) value

-- a number is written where it is within the limit and has room: it stands there, and `end` is the place after it; else nothing is written
abbrev pub fits_at : (value : ℕ) (bytes : List ℕ) (at : ℕ) → Bool
fits_at value bytes at = leb value number_limit && leb (at + length (bytes_of value)) (length bytes)

pub record PutNumber (value : ℕ) (before after : List ℕ) (at end : ℕ) : Type 0 where
  pub ends : end ≡ cond (fits_at value before at) (at + length (bytes_of value)) at
  pub stored : after ≡ cond (fits_at value before at) (sets before at (bytes_of value)) before
